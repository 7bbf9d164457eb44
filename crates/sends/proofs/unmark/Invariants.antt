-- `sends::unmark` meets its contract: what is left to take away at the loop's head is what was to take away at the start. Assumes nothing.
use Prim.Native.Nat.{◌≤◌}
use mathlib.Core.Path.{◌≡◌}
use lib.ListN.{length, take}
use Rattle.sends.specs.Lent.{unmarked_in}
use Rattle.sends.proofs.unmark.Given as goal

abbrev pub invariant-loop-id : goal.invariant-loop-id
invariant-loop-id l =
    (length l.id-iterator.iter.rest.now ≤ l.n) × (l.id-iterator.iter.rest.now ≡ take (length l.id-iterator.iter.rest.now) l.ids)
    × (unmarked_in l.hands l.ids (length l.id-iterator.iter.rest.now) ≡ unmarked_in l.initial.hands l.ids l.n)
