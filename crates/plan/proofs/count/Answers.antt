-- `plan::count` meets its contract: the parts' products add up. Assumes nothing.
use native.Mathlib.Omega.{arith}
use Rattle.plan.proofs.Laws.{Turn, count-start, count-end, few, turn-counted}
use Rattle.plan.proofs.count.Goals as goal
use Rattle.plan.proofs.count.Goals.{After-how_often}

turn : (c : After-how_often)
    → Turn c.args.setup.receives c.args.setup.sends c.args.setup.interrupts
    c.loop-i.i c.how_often.result c.part_at-times.result
turn c =
    record {
      within = c.loop-i-test.true;
      is = c.part_at-times.ensures;
      receives-few = c.requires.receives;
      sends-few = c.requires.sends;
      many = c.how_often.ensures;
    }

pub loop-i-init : goal.loop-i-init
loop-i-init c = count-start _ _ _

pub overflow_mul-sum : goal.overflow_mul-sum
overflow_mul-sum c = record { fits = omega (arith, few (turn (goal.at.overflow_mul-sum c).After-how_often)) }

pub overflow_add-sum : goal.overflow_add-sum
overflow_add-sum c = record { fits = omega (arith, few (turn (goal.at.overflow_add-sum c).After-how_often), c.loop-i.invariant.small, (turn (goal.at.overflow_add-sum c).After-how_often).within) }

pub loop-i-preserved : goal.loop-i-preserved
loop-i-preserved c = turn-counted (turn (goal.at.loop-i-preserved c).After-how_often) c.loop-i.invariant

pub returns : goal.returns
returns c = count-end _ _ _ c.loop-i.invariant c.loop-i-test.false
