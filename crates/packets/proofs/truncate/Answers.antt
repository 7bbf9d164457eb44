-- `packets::truncate` meets its contract: refused as its verdict says, or shortened. Assumes nothing.
use mathlib.Core.Path.{sym}
use Rattle.std.proofs.lemmas.Result.{err_from_is_err_and}
use Rattle.rules.specs.Packets.{truncate_call}
use Rattle.packets.proofs.truncate.Goals as goal

pub returns-in_err-handle_verdict : goal.returns-in_err-handle_verdict
unfolding truncate_call
returns-in_err-handle_verdict c = let p = err_from_is_err_and c.from_residual.result c.from_residual.ensures.1 in rw (p.1, p.2, sym c.in_err-handle_verdict.ensures)

pub returns : goal.returns
unfolding truncate_call
returns c = rw (c.shorten.ensures, sym c.in_ok-handle_verdict.ensures)
