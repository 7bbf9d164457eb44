-- `turns::serve` meets its contract: what holds between two records is `Serving`, and the measure is the bytes that are left. Assumes nothing.
use Prim.Native.Nat.{◌-◌}
use Rattle.rules.specs.Handles.{handles}
use Rattle.tally.specs.Tally.{memory_as}
use Rattle.turns.specs.Turns.{ran_as}
use Rattle.turns.proofs.Serving.{Serving}
use Rattle.turns.proofs.serve.Given as goal

abbrev pub invariant-loop-end : goal.invariant-loop-end
invariant-loop-end l =
    Serving l.buffer l.addresses l.to
    (ran_as l.initial.run l.initial.out l.initial.rx l.initial.tx (memory_as l.initial.offsets l.initial.lengths))
    (ran_as l.run l.out l.rx l.tx (memory_as l.offsets l.lengths))
    l.initial.out l.out l.run.at (handles l.initial.pools l.initial.ids l.initial.froms l.initial.sizes) (handles l.pools l.ids l.froms l.sizes)

abbrev pub decreases-loop-end : goal.decreases-loop-end
decreases-loop-end l = l.to - l.run.from
