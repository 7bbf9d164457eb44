-- `benches::skip` ends: the measure is the bytes that are left.
use Rattle.benches.proofs.skip.Given as goal

abbrev pub decreases-loop-left : goal.decreases-loop-left
decreases-loop-left g l = l.left
