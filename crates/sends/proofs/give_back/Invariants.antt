-- `sends::give_back` meets its contract: what is left to give back at the loop's head is what was to give back at the start. Assumes nothing.
use Prim.Native.Nat.{◌+◌, ◌-◌, ◌%◌}
use mathlib.Core.Path.{◌≡◌}
use Rattle.limits.specs.Limits.{SLOTS}
use Rattle.rules.specs.Send.{give_back}
use Rattle.sends.specs.Lent.{cleaning_as}
use Rattle.sends.proofs.give_back.Given as goal

abbrev pub invariant-loop-i : goal.invariant-loop-i
invariant-loop-i l =
    give_back l.sent l.q (l.n - l.i) (cleaning_as l.stack (l.depth + l.i) l.hands ((l.clean + l.i) % SLOTS))
    ≡ give_back l.sent l.q l.n (cleaning_as l.initial.stack l.depth l.initial.hands l.clean)
