-- `sends::send` meets its contract: what is left to send at the loop's head is what was to send at the start. Assumes nothing.
use Prim.Native.Nat.{◌+◌, ◌-◌, ◌%◌}
use mathlib.Core.Path.{◌≡◌}
use Rattle.limits.specs.Limits.{SLOTS}
use Rattle.rules.specs.Handles.{handles}
use Rattle.rules.specs.Send.{send_rule}
use Rattle.sends.specs.Lent.{sending_as}
use Rattle.sends.proofs.send.Given as goal

abbrev pub invariant-loop-count : goal.invariant-loop-count
invariant-loop-count l =
    send_rule l.q l.addresses (handles l.pools l.ids l.offsets l.lengths) (l.n - l.count) (sending_as l.hands l.sent ((l.tx + l.count) % SLOTS) l.ring l.count)
    ≡ send_rule l.q l.addresses (handles l.pools l.ids l.offsets l.lengths) l.n (sending_as l.initial.hands l.initial.sent l.tx l.initial.ring 0)
