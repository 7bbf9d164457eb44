-- `sends::mark_good` meets its contract. The invariant is `Marking`, and each way out of a turn one law of `Marks`: a handle is good by the marks
-- just where it can be sent. Assumes nothing.
use Rattle.rules.specs.Handles.{handles}
use Rattle.sends.proofs.Marks.{Marking}
use Rattle.sends.proofs.mark_good.Given as goal

abbrev pub invariant-loop-i : goal.invariant-loop-i
invariant-loop-i l = Marking l.pool l.entries l.size l.mark l.initial.hands (handles l.pools l.ids l.offsets l.lengths) l.hands l.i
