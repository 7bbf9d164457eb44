-- `sending::send` meets its contract: refused as its verdict says, or cleaned and sent. Assumes nothing.
use mathlib.Core.Path.{sym}
use Rattle.rules.specs.Send.{send_call}
use Rattle.sending.proofs.Laws.{queue-below}
use Rattle.sending.proofs.send.Goals as goal

pub run_send-requires : goal.run_send-requires
run_send-requires c =
    let done = sym c.in_ok-send_verdict.ensures.says in
    rw c.in_ok-send_verdict.ensures.leaves (queue-below _ _ _ _ _ done, done)

pub returns : goal.returns
unfolding send_call
returns c = rw (sym c.in_ok-send_verdict.ensures.says) (rw c.in_ok-send_verdict.ensures.leaves at c.run_send.ensures)
