-- `rings::fill` meets its contract: what is left to fill at the loop's head is what was to fill at the start. Assumes nothing.
use mathlib.Core.Path.{sym, ap, ◌∙◌}
use lib.ListN.{length}
use native.Mathlib.Omega.{arith}
use Rattle.rules.specs.Receive.{Filling, fill_rule}
use Rattle.rings.specs.Lent.{filling_as}
use Rattle.rings.proofs.Receives.{stacked-less, fill_step, fill_none, fill-ring}
use Rattle.rings.proofs.fill.Goals as goal
use Rattle.rings.proofs.fill.Goals.{At-loop-slot}

abbrev here : (a : At-loop-slot) → Filling
here a = filling_as a.args.stack.now a.loop-slot.left a.loop-slot.hands a.loop-slot.slots a.loop-slot.ring

pub loop-slot-preserved : goal.loop-slot-preserved
loop-slot-preserved c = (
  omega arith,
  omega arith,
  stacked-less c.loop-slot.invariant.2,
  ap (λ (w : Filling). length w.ring) c.fill_slot.ensures ∙ fill-ring _ _ (here (goal.at.loop-slot-preserved c).At-loop-slot) ∙ c.loop-slot.invariant.3,
  ap (fill_rule _ _ _) c.fill_slot.ensures ∙ sym (fill_step _ _ (here (goal.at.loop-slot-preserved c).At-loop-slot) c.loop-slot-test.true) ∙ c.loop-slot.invariant.4,
)

pub returns : goal.returns
returns c = sym (fill_none _ _ (here (goal.at.returns c).At-loop-slot) (omega (arith, c.loop-slot-test.false))) ∙ c.loop-slot.invariant.4
