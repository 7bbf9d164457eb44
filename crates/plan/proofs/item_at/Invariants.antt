-- `plan::item_at` meets its contract. The invariant is `Here`: the place is `left` into the parts from i on. Assumes nothing.
use Rattle.plan.proofs.Laws.{Here}
use Rattle.plan.proofs.item_at.Given as goal

abbrev pub invariant-loop-i : goal.invariant-loop-i
invariant-loop-i l = Here l.setup l.place l.left l.i
