-- `sends::send` meets its contract: what is left to send at the loop's head is what was to send at the start. Assumes nothing.
use mathlib.Core.Path.{◌≡◌, sym, ◌∙◌}
use native.Mathlib.Omega.{arith}
use Rattle.sends.proofs.Laws.{send-turn, send-none}
use Rattle.sends.proofs.send.Goals as goal

pub loop-count-preserved : goal.loop-count-preserved
loop-count-preserved c =
    let sent = rw c.at-handle.ensures at (c.put_packet.ensures c.loop-count.count) in
    send-turn _ _ _ _ _ _ _ _ _ _ _ _ c.loop-count-test.true sent ∙ c.loop-count.invariant

pub returns : goal.returns
returns c =
    let all : c.loop-count.count ≡ c.args.n = omega arith in
    rw all at (sym (send-none _ _ _ _ _ (omega arith)) ∙ c.loop-count.invariant)
