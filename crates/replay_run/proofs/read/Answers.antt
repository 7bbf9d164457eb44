-- `replay_run::read`: what an error leaves read is the head, and what was read of the body behind it.
use Rattle.std.proofs.Common.{ℕ, ◌++◌, take}
use Rattle.std.specs.Io.KnownBytes.{Consumes}
use Rattle.std.proofs.KnownBytes.{Consumes-trans}
use Rattle.replay_run.proofs.Errors.{OnErr-of}
use Rattle.replay_run.proofs.read.Goals as goal

pub returns-in_err-read_body-clause-err : goal.returns-in_err-read_body-clause-err
returns-in_err-read_body-clause-err g c =
    let start = g.R.Read.remaining c.args.input.now in
    let middle = g.R.Read.remaining c.read_full.new.input in
    let end = g.R.Read.remaining c.read_body.new.input in
    let head = take c.in_ok-got.got c.read_full.new.part in
    let read : Consumes start middle head = c.in_ok-got.ensures.bytes in
    let behind : (count : ℕ) × Consumes middle end (take count c.read_body.new.buffer) = c.in_err-read_body.ensures.err in
    OnErr-of c.from_residual-in_err-read_body.result (head ++ take behind.0 c.read_body.new.buffer, Consumes-trans start middle end head (take behind.0 c.read_body.new.buffer) read behind.1)
