-- Demand 3 for the send queues, over every history: a queue has what was sent on it less what was given back, oldest first; each giving-back
-- is of 32 and saw the done bit of the last of them in the ring that the call was lent; no other call changes a queue.
use Prim.Native.Nat.{ℕ, zero, suc, ◌+◌, ◌-◌, ◌%◌, ◌≤◌, ◌<◌, min}
use mathlib.Core.Path.{◌≡◌, refl, sym, ap, subst, ◌∙◌}
use mathlib.Core.Bool.{Bool, true, false}
use mathlib.Core.List.{List, [], ◌++◌, append-nil}
use lib.ListN.{length, get_or, take, drop, get_or-replicate}
use lib.Seq.{get_or-set_same, get_or-set_other}
use lib.Dec.{eqb, leb}
use native.Mathlib.Nat.{zero-add}
use native.Mathlib.Decide.{ℕ_discrete}
use native.Mathlib.Omega.{arith}
use borrow.Author.Tests.{eq-eqb, ne_eqb, ltb-true, leb-true, lt-leb}
use Rattle.limits.specs.Limits.{SENDS, SLOTS, BATCH}
use Rattle.laws.specs.Test.{pick}
use Rattle.laws.proofs.Test.{both_left, both_right}
use Rattle.rules.specs.declared.Account.{Account}
use Rattle.rules.specs.Answers.{Kept, Sent}
use Rattle.rules.specs.Verdict.{Verdict, Done, Refused}
use Rattle.rules.specs.Numbers.{on_verdict}
use Rattle.rules.specs.Handles.{Handles}
use Rattle.rules.specs.Account.{pending, send_place, around, send_list, opened}
use Rattle.rules.specs.Refusals.{size_given, send_verdict}
use Rattle.rules.specs.Send.{Cleaning, cleaning, cleaned, Sending, sending, sent_after, room_after, AfterSend, sent_as, send_end, send_call}
use Rattle.rules.proofs.Lists.{queued-other}
use Rattle.rules.proofs.Sound.{in-range-means}
use Rattle.rules.proofs.Send.{send-count}
use Rattle.rules.proofs.Verdicts.{verdict-holds}
use Rattle.rules.proofs.Calls.{Whole, fresh-done, send-done}
use Rattle.promises.specs.History.{Step, History}
use Rattle.promises.specs.History as h
use Rattle.promises.specs.Queues.{sent_by, sent_on, may_return, back_after, back_by, back_on, Batches, none, batch, ring_of, sends_on}
use Rattle.promises.proofs.Always.{fresh-passed, always-whole}
use Rattle.promises.proofs.Balance.{fresh-opened}
use Rattle.promises.proofs.Quiet.{Kind, quiet, a-send, kind, step-numbers}
use Rattle.promises.proofs.Around.{InStep, left-waits, clean_back, many_more, others-stay}

-- a queue of an account is in step with what was sent on it and how much was given back
abbrev Queue : Account → ℕ → List ℕ → ℕ → Type 0
Queue a q all back = InStep q a.sent (get_or a.clean q 0) (get_or a.tx q 0) all back

-- and so it is after an answer to a send, on this queue or on another
abbrev After : Bool → ℕ → List ℕ → ℕ → List ℕ → Handles → Sent → Type 0
After own q all back ring lists r =
    Queue r.account q (all ++ pick own (take r.count lists.ids) [])
    (pick own (on_verdict r.verdict (back_after (length all - back) (length all) ring back) (λ why. back)) back)

-- ---- a send

module _ {a : Account} (whole : Whole a) (q : ℕ) (queue : q < a.sends) (c : Cleaning) (w : Sending) where
  -- a queue is as the send on it left it
  own-end : (all : List ℕ) (back : ℕ) → InStep q w.sent c.clean w.tx all back → Queue (send_end a q c w).answer.account q all back
  own-end all back s =
      rw (
        get_or-set_same a.clean q c.clean 0 (omega (arith, whole.0.clean, whole.1.numbers.few-sends)),
        get_or-set_same a.tx q w.tx 0 (omega (arith, whole.0.tx, whole.1.numbers.few-sends)),
      )
      s

  -- and as it was, where the send was on another
  other-end : (k : ℕ) → (q ≡ k → ⊥)
      → ((other slot : ℕ) → (other ≡ k → ⊥) → slot < SLOTS → get_or w.sent (send_place other slot) 0 ≡ get_or a.sent (send_place other slot) 0)
      → (all : List ℕ) (back : ℕ) → Queue a q all back → Queue (send_end a k c w).answer.account q all back
  other-end k ne stay all back now =
      record {
        list = queued-other a c.free w.hands w.sent k c.clean w.tx stay (λ other below. (whole.1.queues other below).clean-below) q queue ne ∙ now.list;
        sent = now.sent;
        tx-is = get_or-set_other a.tx k q w.tx 0 ne ∙ now.tx-is;
        clean_is = get_or-set_other a.clean k q c.clean 0 ne ∙ now.clean_is;
      }

module _ {a : Account} (whole : Whole a) (q : ℕ) (queue : q < a.sends) (all : List ℕ) (back : ℕ) (now : Queue a q all back) (ring addresses : List ℕ) (lists : Handles) where
  -- a send on the queue cleans it, and then sends as many as it counts
  own-send : After true q all back ring lists (send_call a q ring addresses lists).answer
  unfolding send_call
  own-send =
      verdict-holds (λ (r : AfterSend). After true q all back ring lists r.answer) (send_verdict a q ring addresses lists) _ _
      (λ e. ran (cleaned a q ring) (rw (← (left-waits now)) (clean_back q a.sent (get_or a.tx q 0) all ring (pending a q) (cleaning a q) back now)))
      (λ why e. rw append-nil now)
    where
      ran : (c : Cleaning) → InStep q a.sent c.clean (get_or a.tx q 0) all (back_after (length all - back) (length all) ring back)
          → After true q all back ring lists (send_end a q c (sent_after a q ring addresses lists c)).answer
      ran c s =
          let n : ℕ = min (length lists.ids) (room_after a q c) in
          rw (send-count q addresses lists n (sending a q ring c), zero-add)
          (own-end whole q queue c (sent_after a q ring addresses lists c) _ _
          (many_more q addresses lists n c.clean (sending a q ring c) all _ s (omega (arith, left-waits s)) (omega arith) (omega (arith, whole.1.numbers.few-sends)) whole.0.sent))

  -- a send on another leaves it
  other-send : (k : ℕ) → (q ≡ k → ⊥) → After false q all back ring lists (send_call a k ring addresses lists).answer
  unfolding send_call
  other-send k ne =
      verdict-holds (λ (r : AfterSend). After false q all back ring lists r.answer) (send_verdict a k ring addresses lists) _ _
      (λ e.
      let below = (whole.1.queues k (ltb-true k a.sends (send-done a k ring addresses lists e).3)).tx-below in
      rw append-nil (other-end whole q queue (cleaned a k ring) (sent_after a k ring addresses lists (cleaned a k ring)) k ne (others-stay k addresses lists _ (sending a k ring (cleaned a k ring)) below) all back now))
      (λ why e. rw append-nil now)

-- ---- each step, and a history

-- a call keeps a queue in step with the ledger
step-queue : {a b : Account} → Whole a → (q : ℕ) → q < a.sends → (all : List ℕ) (back : ℕ) → Queue a q all back → (s : Step a b) → Kind b s
    → Queue b q (all ++ sent_by q s) (back_by q (length all) back s)
step-queue whole q queue all back now s (quiet same nothing kept) =
    rw (nothing q, kept q (length all) back, append-nil, ap (λ o. o.1) same, ap (λ o. o.2) same, ap (λ o. o.3) same) now
step-queue {a} whole q queue all back now s (a-send k ring addresses lists left r e) =
    subst (λ (o : AfterSend). After (eqb k q) q all back ring lists o.answer) (sym e) (by-case (ℕ_discrete q k))
  where
    by-case : Dec (q ≡ k) → After (eqb k q) q all back ring lists (send_call a k ring addresses lists).answer
    by-case (yes p) = rw (← p, eq-eqb q q refl) (own-send whole q queue all back now ring addresses lists)
    by-case (no ne) = rw (ne_eqb k q (λ z. ne (sym z))) (other-send whole q queue all back now ring addresses lists k ne)

-- nothing was sent on a fresh account
fresh-queue : (pool entries size receives sends q : ℕ) → q < sends → sends ≤ SENDS → Queue (opened pool entries size receives sends) q [] 0
unfolding opened around
fresh-queue pool entries size receives sends q queue few =
    rw (get_or-replicate {A = ℕ} SENDS q 0 0 (omega arith)) (record { list = refl; sent = omega arith; tx-is = refl; clean_is = refl })

-- so it is over every history
in_step : {a : Account} (t : History a) (q : ℕ) → q < a.sends → Queue a q (sent_on q t) (back_on q t)
unfolding sent_on back_on opened
in_step (h.fresh pool entries size receives sends r e done) q queue =
    let passed = fresh-passed pool entries size receives sends (rw e at done) in
    let numbers = in-range-means entries (size_given size) receives sends (fresh-done entries size receives sends passed) in
    let same = ap (λ (k : Kept). k.account) e ∙ fresh-opened pool entries size receives sends passed in
    rw same (fresh-queue pool entries (size_given size) receives sends q (rw same at queue) numbers.few-sends)
in_step (h.call before s) q queue =
    let was = rw (ap (λ o. o.1) (step-numbers s)) at queue in
    step-queue (always-whole before) q was (sent_on q before) (back_on q before) (in_step before q was) s (kind s)

-- ---- what is given back

-- what the ledger gives back are batches
after-batches : (turns sent : ℕ) (ring : List ℕ) (back : ℕ) → Batches sent ring back (back_after turns sent ring back)
unfolding back_after
after-batches zero sent ring back = none
after-batches (suc turns) sent ring back = by-case (may_return sent ring back) refl (after-batches turns sent ring (back + BATCH))
  where
    by-case : (b : Bool) → may_return sent ring back ≡ b → Batches sent ring (back + BATCH) (back_after turns sent ring (back + BATCH))
        → Batches sent ring back (pick b (back_after turns sent ring (back + BATCH)) back)
    by-case true e rest = batch (leb-true (back + BATCH) sent (both_left (leb (back + BATCH) sent) _ e)) (both_right (leb (back + BATCH) sent) _ e) rest
    by-case false e rest = none

-- and so is what a call gives back
step-batches : {a b : Account} (q sent back : ℕ) (s : Step a b) → Kind b s → Batches sent (ring_of s) back (back_by q sent back s)
step-batches q sent back s (quiet same nothing kept) = rw (kept q sent back) none
step-batches q sent back s (a-send k ring addresses lists left r e) = by-case (eqb k q) r.verdict
  where
    by-case : (b : Bool) (v : Verdict) → Batches sent ring back (pick b (on_verdict v (back_after (sent - back) sent ring back) (λ why. back)) back)
    by-case true Done = after-batches (sent - back) sent ring back
    by-case true (Refused why) = none
    by-case false v = none

-- with as many turns as there are packets left, no batch that may be given back is left
after-ends : (turns sent : ℕ) (ring : List ℕ) (back : ℕ) → sent - back ≤ turns → may_return sent ring (back_after turns sent ring back) ≡ false
unfolding back_after
after-ends zero sent ring back few = rw (lt-leb (back + BATCH) sent (omega arith))
after-ends (suc turns) sent ring back few = by-case (may_return sent ring back) refl (after-ends turns sent ring (back + BATCH) (omega arith))
  where
    by-case : (b : Bool) → may_return sent ring back ≡ b → may_return sent ring (back_after turns sent ring (back + BATCH)) ≡ false
        → may_return sent ring (pick b (back_after turns sent ring (back + BATCH)) back) ≡ false
    by-case true e rest = rest
    by-case false e rest = e

-- a call that is no send on a queue sends nothing on it and gives nothing back
idle : {a b : Account} (q sent back : ℕ) (s : Step a b) → Kind b s → sends_on q s ≡ false → (sent_by q s ≡ []) × (back_by q sent back s ≡ back)
idle q sent back s (quiet same nothing kept) other = (nothing q, kept q sent back)
idle q sent back s (a-send k ring addresses lists left r e) other = (rw other, rw other)

module _ {a : Account} (t : History a) (q : ℕ) (queue : q < a.sends) where
  -- a queue has what was sent on it less what was given back, oldest first
  pub queue-has : send_list a q ≡ drop (back_on q t) (sent_on q t)
  queue-has = (in_step t q queue).list

  -- no more was given back than was sent, and never over 511 are left
  pub queue-few : (back_on q t ≤ length (sent_on q t)) × (length (sent_on q t) - back_on q t < SLOTS)
  queue-few = ((in_step t q queue).sent, omega (arith, left-waits (in_step t q queue)))

  -- the next packet goes to slot (sent mod 512), and the oldest stands at slot (given back mod 512)
  pub queue-at : (get_or a.tx q 0 ≡ length (sent_on q t) % SLOTS) × (get_or a.clean q 0 ≡ back_on q t % SLOTS)
  queue-at = ((in_step t q queue).tx-is, (in_step t q queue).clean_is)

  -- a send that is done gives back all that it may
  pub no-batch-left : (ring addresses : List ℕ) (lists : Handles) (left : List ℕ) (r : Sent) (e : sent_as r left ≡ send_call a q ring addresses lists) → r.verdict ≡ Done
      → may_return (length (sent_on q t)) ring (back_on q (h.call t (h.send q ring addresses lists left r e))) ≡ false
  unfolding back_on
  no-batch-left ring addresses lists left r e done =
      rw (eq-eqb q q refl, done) (after-ends (length (sent_on q t) - back_on q t) (length (sent_on q t)) ring (back_on q t) (omega arith))

  module _ {b : Account} (s : Step a b) where
    -- what a call gives back are batches of 32, each on the done bit of its last in the ring that the call was lent
    pub on-done-bit : Batches (length (sent_on q t)) (ring_of s) (back_on q t) (back_on q (h.call t s))
    unfolding back_on
    on-done-bit = step-batches q (length (sent_on q t)) (back_on q t) s (kind s)

    -- a call that is no send on the queue leaves it as it was
    pub else-untouched : sends_on q s ≡ false → send_list b q ≡ send_list a q
    unfolding sent_on back_on
    else-untouched e =
        let still = idle q (length (sent_on q t)) (back_on q t) s (kind s) e in
        (in_step (h.call t s) q (rw (ap (λ o. o.1) (step-numbers s)) queue)).list ∙ rw (still.0, still.1, append-nil) (sym (in_step t q queue).list)
