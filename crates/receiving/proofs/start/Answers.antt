-- `receiving::start` meets its contract: where the ring can start, what the loop asks is there. Assumes nothing.
use mathlib.Core.Path.{sym}
use Rattle.receiving.proofs.Laws.{fillable}
use Rattle.receiving.proofs.start.Goals as goal

pub fill-account-requires : goal.fill-account-requires
fill-account-requires c = fillable _ _ _ _ (sym c.in_ok-start_verdict.ensures)
