-- `sending::run_send` meets its contract: what the verdict tested is what the loops ask, and the answer is made of what they left. Assumes nothing.
use native.Mathlib.Omega.{arith}
use borrow.Author.Rules.{rules}
use Rattle.rules.specs.Sound.{Full}
use Rattle.sending.proofs.Laws.{clean-place, writable-less, places, cleanable-now, writable_now}
use Rattle.sending.proofs.run_send.Goals as goal

pub clean-end-requires : goal.clean-end-requires
clean-end-requires c =
    let full : Full c.args.account.now =
    record { stack = search rules; hands = search rules; slots = search rules; sent = search rules; clean = search rules; tx = search rules }
    in
    cleanable-now _ _ _ _ _ c.requires.1 full

pub fitting-count-requires : goal.fitting-count-requires
fitting-count-requires c =
    let at = places _ _ _ _ _ c.requires.1 in
    (at.tx-below, clean-place _ _ _ _ _ _ _ _ c.clean-end.ensures at.clean-below)

pub send-tail-requires : goal.send-tail-requires
send-tail-requires c = writable-less (omega (arith, c.fitting-count.ensures)) (writable_now _ _ _ _ _ c.requires.1)
