-- The account of every history is sound: fresh is, and every call keeps it, done or refused.
use Prim.Native.Nat.{ℕ}
use mathlib.Core.Path.{◌≡◌, refl, ap}
use mathlib.Core.Bool.{true}
use Rattle.rules.specs.declared.Account.{Account}
use Rattle.rules.specs.Answers.{Kept, Taken}
use Rattle.rules.specs.Verdict.{Verdict, Done, Refused}
use Rattle.rules.specs.Refusals.{fresh_verdict}
use Rattle.rules.specs.Sound.{sound}
use Rattle.rules.specs.Packets.{Batched, Cloned, fresh_call}
use Rattle.rules.specs.Receive.{AfterStart, AfterReceive}
use Rattle.rules.specs.Send.{AfterSend}
use Rattle.rules.proofs.Sound.{means-sound}
use Rattle.rules.proofs.Verdicts.{not_done}
use Rattle.rules.proofs.Calls.{Whole, fresh-whole, take-keeps, batch-keeps, release-keeps, clone-keeps, start-keeps, receive-keeps, send-keeps-account}
use Rattle.promises.specs.History.{Step, History, counts, take, batch, release, truncate, clone, view, headroom, start, receive, send, fresh, call}

-- a fresh account that answered 0 had numbers in their ranges
pub fresh-passed : (pool entries size receives sends : ℕ) → (fresh_call pool entries size receives sends).verdict ≡ Done → fresh_verdict entries size receives sends ≡ Done
unfolding fresh_call
fresh-passed pool entries size receives sends e = by-verdict (fresh_verdict entries size receives sends) refl
  where
    by-verdict : (v : Verdict) → fresh_verdict entries size receives sends ≡ v → fresh_verdict entries size receives sends ≡ Done
    by-verdict Done z = z
    by-verdict (Refused why) z = absurd (not_done why (rw z at e))

step-whole : {a b : Account} → Whole a → Step a b → Whole b
step-whole w (counts r e) = w
step-whole w (take len r e) = rw (ap (λ (o : Taken). o.account) e) (take-keeps w.0 w.1 len)
step-whole w (batch n len lists left r e) = rw (ap (λ (o : Batched). o.answer.account) e) (batch-keeps w.0 w.1 n len lists)
step-whole w (release h r e) = rw (ap (λ (o : Kept). o.account) e) (release-keeps w.0 w.1 h)
step-whole w (truncate h len r e) = w
step-whole w (clone h memory left r e) = rw (ap (λ (o : Cloned). o.answer.account) e) (clone-keeps w.0 w.1 h memory)
step-whole w (view h memory part e) = w
step-whole w (headroom h asked memory part e) = w
step-whole w (start q ring addresses left r e) = rw (ap (λ (o : AfterStart). o.answer.account) e) (start-keeps w.0 w.1 q ring addresses)
step-whole w (receive q ring addresses n lists left filled r e) =
    rw (ap (λ (o : AfterReceive). o.answer.account) e) (receive-keeps w.0 w.1 q ring addresses n lists)
step-whole w (send q ring addresses lists left r e) = rw (ap (λ (o : AfterSend). o.answer.account) e) (send-keeps-account w.0 w.1 q ring addresses lists)

-- the account stays sound
pub always-whole : {a : Account} → History a → Whole a
always-whole (fresh pool entries size receives sends r e done) =
    rw e (fresh-whole pool entries size receives sends (fresh-passed pool entries size receives sends (rw e at done)))
always-whole (call h s) = step-whole (always-whole h) s

pub always-sound : {a : Account} → History a → sound a ≡ true
always-sound {a} h = means-sound a (always-whole h).1
