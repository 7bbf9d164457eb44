-- A start, a receive and a send leave a sound account sound; the count of a receive is in its range. What a take and a release leave stands in
-- `tally`.
use Prim.Native.Nat.{ℕ, ◌≤◌}
use mathlib.Core.Path.{◌≡◌}
use mathlib.Core.Bool.{Bool, true, false}
use mathlib.Core.List.{List}
use lib.Dec.{ltb}
use native.Mathlib.Nat.{zero-add}
use native.Mathlib.Omega.{arith}
use Rattle.limits.specs.Limits.{SLOTS}
use Rattle.laws.specs.Test.{pick}
use Rattle.rules.specs.declared.Account.{Account}
use Rattle.rules.specs.Verdict.{Done}
use Rattle.rules.specs.Handles.{Handles}
use Rattle.rules.specs.Sound.{sound, Full}
use Rattle.rules.specs.Refusals.{receive_verdict}
use Rattle.rules.specs.Receive.{start_call, AfterReceive, receiving, receive_call}
use Rattle.rules.specs.Send.{send_call}
use Rattle.rules.proofs.Sound.{sound-means, means-sound}
use Rattle.rules.proofs.Verdicts.{verdict-holds}
use Rattle.rules.proofs.Receive.{Ready, ready-turn, receive-holds}
use Rattle.rules.proofs.Calls.{start-keeps, receive-keeps, send-keeps-account}
use Rattle.receiving.proofs.Laws.{receivable}
use Rattle.tally.specs.Tally.{Memory, answered_as}
use Rattle.stream.specs.Bench.{start_answer, no_handles, receive_answer, send_answered, ring_of, send_from, send_answer}

module _ {a : Account} (full : Full a) (e : sound a ≡ true) where
  pub start-stays : (rx addresses : List ℕ) → sound (start_call a 0 rx addresses).answer.account ≡ true
  start-stays rx addresses = means-sound _ (start-keeps full (sound-means a e) 0 rx addresses).1

  pub receive-stays : (n : ℕ) (rx addresses : List ℕ) (lists : Handles) → sound (receive_call a 0 rx addresses n lists).answer.account ≡ true
  receive-stays n rx addresses lists = means-sound _ (receive-keeps full (sound-means a e) 0 rx addresses n lists).1

  pub send-stays : (queue : ℕ) (ring addresses : List ℕ) (lists : Handles) → sound (send_call a queue ring addresses lists).answer.account ≡ true
  send-stays queue ring addresses lists = means-sound _ (send-keeps-account full (sound-means a e) queue ring addresses lists).1

  -- a receive that is done starts ready
  pub ready-first : (n : ℕ) (rx addresses : List ℕ) (lists : Handles) → receive_verdict a 0 rx addresses n lists ≡ Done → Ready n (receiving a rx lists)
  ready-first n rx addresses lists done =
      let lent = receivable a rx addresses 0 n lists done in
      record { place = lent.place; whole = lent.whole; room = rw zero-add lent.room; not-over = omega arith; cleared = λ j h. absurd (omega arith) }

  -- a receive takes no more than a ring has: a slot taken reads not done
  pub received-few : (n : ℕ) (rx addresses : List ℕ) (lists : Handles) → (receive_call a 0 rx addresses n lists).answer.count ≤ SLOTS
  unfolding receive_call
  received-few n rx addresses lists =
      verdict-holds (λ (r : AfterReceive). r.answer.count ≤ SLOTS) (receive_verdict a 0 rx addresses n lists) _ _
      (λ done.
      receive-holds a.pool a.size addresses Ready (λ o. o.work.count ≤ SLOTS) (λ m w reason ready. ready.not-over)
      (λ m len w frame ready. ready-turn a.pool a.size addresses ready frame) n (receiving a rx lists) (ready-first n rx addresses lists done))
      (λ why refused. omega arith)

  -- ---- the same of what the records answer

  pub start-answer : (rx addresses : List ℕ) → sound (start_answer a rx addresses).answer.account ≡ true
  unfolding start_answer
  start-answer = start-stays

  pub receive-answer : (n : ℕ) (rx addresses : List ℕ) (m : Memory) → sound (receive_answer a n rx addresses m).answer.account ≡ true
  unfolding receive_answer
  receive-answer n rx addresses m = receive-stays n rx addresses no_handles

  -- no such queue leaves the account as it was
  pub send-answer : (queue : ℕ) (lists : Handles) (addresses tx : List ℕ) → sound (send_answer a queue lists addresses tx).answer.account ≡ true
  unfolding send_answer
  send-answer queue lists addresses tx = by-case (ltb queue a.sends)
    where
      by-case : (b : Bool) → sound (pick b (send_from queue (send_call a queue (ring_of queue tx) addresses lists) tx) (send_answered (answered_as 3 0 a) tx)).answer.account ≡ true
      by-case true = send-stays queue (ring_of queue tx) addresses lists
      by-case false = e
