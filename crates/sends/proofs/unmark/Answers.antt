-- `sends::unmark` meets its contract: what is left to take away at the loop's head is what was to take away at the start. Assumes nothing.
use mathlib.Core.Path.{sym, ◌∙◌}
use native.Mathlib.Omega.{arith}
use Rattle.sends.proofs.Marks.{unmarked-none, left-less, left-front, left-unmarked}
use Rattle.sends.proofs.unmark.Goals as goal

pub loop-id-preserved : goal.loop-id-preserved
loop-id-preserved c =
    let inv = c.loop-id.invariant in
    let last = c.in-Some.ensures.steps in (
      omega (arith, left-less _ _ _ _ inv.1 last, inv.0),
      left-front _ _ _ _ inv.1 last,
      left-unmarked _ _ _ _ inv.1 last c.loop-id.hands ∙ inv.2,
    )

pub returns : goal.returns
returns c = sym (unmarked-none _ _) ∙ rw c.in-None.ensures.steps.0 at c.loop-id.invariant.2
