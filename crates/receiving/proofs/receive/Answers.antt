-- `receiving::receive` meets its contract: where frames can be received, what the loop asks is there, and the account is made of what it left.
-- Assumes nothing.
use mathlib.Core.Path.{◌≡◌, sym, ap}
use mathlib.Core.Bool.{true}
use Rattle.rules.specs.Receive.{Stopping, receive_end, receive_call}
use Rattle.rules.proofs.Receive.{receive-place}
use Rattle.rules.proofs.Calls.{receive-done}
use Rattle.rules.proofs.Sound.{sound-means}
use Rattle.receiving.proofs.Laws.{receivable}
use Rattle.receiving.proofs.receive.Goals as goal

pub receive-run-requires : goal.receive-run-requires
receive-run-requires c = receivable _ _ _ _ _ _ (sym c.in_ok-receive_verdict.ensures)

pub tail_after-requires : goal.tail_after-requires
tail_after-requires c =
    rw (ap (λ (s : Stopping). s.work.rx) c.receive-run.ensures)
    (receive-place _ _ _ _ _ (sound-means _ c.requires).rx-below)

pub returns : goal.returns
unfolding receive_call
returns c =
    let started : c.args.account.now.started ≡ true = (receive-done _ _ _ _ _ _ (sym c.in_ok-receive_verdict.ensures)).4 in
    rw (sym c.in_ok-receive_verdict.ensures, started, c.tail_after.ensures)
    (ap (receive_end c.args.account.now) c.receive-run.ensures)
