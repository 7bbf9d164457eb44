-- `packets::release` meets its contract: refused as its verdict says, or the id is pushed. Assumes nothing.
use mathlib.Core.Path.{sym}
use Rattle.std.proofs.lemmas.Result.{err_from_is_err_and}
use Rattle.rules.specs.Packets.{release_call}
use Rattle.rules.proofs.Calls.{handle-done}
use Rattle.packets.proofs.release.Goals as goal

pub push_back-requires : goal.push_back-requires
push_back-requires c = handle-done _ _ (sym c.in_ok-handle_verdict.ensures)

pub returns-in_err-handle_verdict : goal.returns-in_err-handle_verdict
unfolding release_call
returns-in_err-handle_verdict c = let p = err_from_is_err_and c.from_residual.result c.from_residual.ensures.1 in rw (p.1, p.2, sym c.in_err-handle_verdict.ensures)

pub returns : goal.returns
unfolding release_call
returns c = rw (c.push_back.ensures, sym c.in_ok-handle_verdict.ensures)
