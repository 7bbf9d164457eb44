-- `plan::count` meets its contract: the parts' products add up. Assumes nothing.
use Rattle.plan.proofs.Laws.{Counted}
use Rattle.plan.proofs.count.Given as goal

abbrev pub invariant-loop-i : goal.invariant-loop-i
invariant-loop-i l = Counted l.setup.receives l.setup.sends l.setup.interrupts l.sum l.i
