-- `plan::item_at` meets its contract. The invariant is `Here`: the place is `left` into the parts from i on. Assumes nothing.
use mathlib.Core.Path.{sym, ◌∙◌}
use native.Mathlib.Omega.{arith}
use Rattle.plan.proofs.Laws.{here-start, here_end, Turn, few, in-part, a-queue, turn-found, turn-next}
use Rattle.plan.proofs.item_at.Goals as goal
use Rattle.plan.proofs.item_at.Goals.{After-how_often}

turn : (c : After-how_often)
    → Turn c.args.setup.receives c.args.setup.sends c.args.setup.interrupts
    c.loop-i.i c.how_often.result c.part_at-times.result
turn c =
    record {
      within = c.loop-i-test.true;
      is = c.part_at-times.ensures;
      receives-few = c.requires.receives;
      sends-few = c.requires.sends;
      many = c.how_often.ensures;
    }

pub loop-i-init : goal.loop-i-init
loop-i-init c = here-start _ _

pub overflow_mul-n : goal.overflow_mul-n
overflow_mul-n c = record { fits = omega (arith, few (turn (goal.at.overflow_mul-n c).After-how_often)) }

pub template_at-requires : goal.template_at-requires
template_at-requires c = ((turn (goal.at.template_at-requires c).After-how_often).within, in-part (turn (goal.at.template_at-requires c).After-how_often) c.if-left-n.true)

pub fill-requires : goal.fill-requires
fill-requires c = (
  c.requires,
  a-queue (turn (goal.at.fill-requires c).After-how_often) c.if-left-n.true,
)

pub returns-then-left-n : goal.returns-then-left-n
returns-then-left-n c =
    c.fill.ensures
    ∙ rw c.template_at.ensures (sym (turn-found (turn (goal.at.returns-then-left-n c).After-how_often) c.if-left-n.true c.loop-i.invariant))

pub loop-i-preserved : goal.loop-i-preserved
loop-i-preserved c = turn-next (turn (goal.at.loop-i-preserved c).After-how_often) c.loop-i.invariant c.if-left-n.false

pub returns : goal.returns
returns c = sym (here_end _ _ _ _ c.loop-i.invariant c.loop-i-test.false)
