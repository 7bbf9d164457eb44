-- `rings::fill` meets its contract: what is left to fill at the loop's head is what was to fill at the start. Assumes nothing.
use Prim.Native.Nat.{◌-◌, ◌≤◌}
use mathlib.Core.Path.{◌≡◌}
use lib.ListN.{length}
use Rattle.limits.specs.Limits.{SLOTS, RING-BYTES}
use Rattle.rules.specs.Receive.{fill_rule}
use Rattle.rings.specs.Lent.{Stacked, filling_as}
use Rattle.rings.proofs.fill.Given as goal

abbrev pub invariant-loop-slot : goal.invariant-loop-slot
invariant-loop-slot l =
    (l.slot ≤ SLOTS) × (SLOTS - l.slot ≤ l.left) × Stacked l.stack l.left l.addresses × (length l.ring ≡ RING-BYTES)
    × (fill_rule l.addresses l.slot (SLOTS - l.slot) (filling_as l.stack l.left l.hands l.slots l.ring) ≡ fill_rule l.addresses 0 SLOTS (filling_as l.stack l.depth l.initial.hands l.initial.slots l.initial.ring))

abbrev pub decreases-loop-slot : goal.decreases-loop-slot
decreases-loop-slot l = SLOTS - l.slot
