-- `memory::clone_verdict` meets its contract: the view's verdict, and then that of a take. Assumes nothing.
use mathlib.Core.Path.{sym}
use Rattle.std.proofs.lemmas.Result.{err_from_is_err_and}
use Rattle.memory.proofs.Laws.{clone-by-view}
use Rattle.memory.proofs.clone_verdict.Goals as goal

pub returns-in_err-view_verdict : goal.returns-in_err-view_verdict
returns-in_err-view_verdict c = let p = err_from_is_err_and c.from_residual.result c.from_residual.ensures.1 in rw (p.1, p.2, clone-by-view _ _ _ c.requires, sym c.in_err-view_verdict.ensures)

pub returns : goal.returns
returns c = rw (clone-by-view _ _ _ c.requires, sym c.in_ok-view_verdict.ensures) c.take_verdict.ensures
