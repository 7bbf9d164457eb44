-- `rings::receive` meets its contract. The invariant is `Along`, and each way out of a turn one law of `Receives`. Assumes nothing.
use Prim.Native.Nat.{◌-◌}
use Rattle.rules.specs.Handles.{handles}
use Rattle.rings.specs.Lent.{receiving_as}
use Rattle.rings.proofs.Receives.{Along}
use Rattle.rings.proofs.receive.Given as goal

abbrev pub invariant-loop-count : goal.invariant-loop-count
invariant-loop-count l =
    Along l.pool l.size l.addresses l.n
    (receiving_as l.stack l.depth l.initial.hands l.initial.slots l.rx l.initial.ring (handles l.initial.pools l.initial.ids l.initial.offsets l.initial.lengths) 0)
    (receiving_as l.stack l.left l.hands l.slots l.index l.ring (handles l.pools l.ids l.offsets l.lengths) l.count)

abbrev pub decreases-loop-count : goal.decreases-loop-count
decreases-loop-count l = l.n - l.count
