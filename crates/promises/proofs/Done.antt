-- An outcome that says it is done: its call passed every test, and it is what the call's rule leaves.
use Prim.Native.Nat.{ℕ, ◌≤◌, ◌<◌, min}
use mathlib.Core.Path.{◌≡◌, refl, sym, ap, ◌∙◌}
use mathlib.Core.Bool.{true}
use mathlib.Core.List.{List}
use lib.ListN.{length, get_or}
use lib.Dec.{eqb, ltb}
use native.Mathlib.Nat.{zero-add}
use native.Mathlib.Omega.{arith}
use borrow.Author.Tests.{ltb-true, eqb-true}
use Rattle.limits.specs.Limits.{RING-BYTES}
use Rattle.laws.proofs.Test.{both_left}
use Rattle.rules.specs.declared.Account.{Account}
use Rattle.rules.specs.Answers.{Batch, Received, Sent}
use Rattle.refusals.specs.declared.Refusal.{Refusal}
use Rattle.rules.specs.Verdict.{Verdict, Done, Refused}
use Rattle.rules.specs.Numbers.{verdict_of, on_verdict}
use Rattle.rules.specs.Handles.{Handles, handle_at, has_room}
use Rattle.rules.specs.Sound.{Indices, sound}
use Rattle.rules.specs.Refusals.{rings_fit, batch_verdict, receive_verdict, handles_verdict, send_verdict}
use Rattle.rules.specs.Packets.{Batched, batched, batch_rule, taking_of, batch_end, batch_call}
use Rattle.rules.specs.Receive.{receiving, receive_rule, AfterReceive, received_as, receive_end, receive_call}
use Rattle.rules.specs.Send.{cleaned, sending, room_after, sent_after, AfterSend, sent_as, send_end, send_call}
use Rattle.rules.proofs.Sound.{sound-means}
use Rattle.rules.proofs.Facts.{LARGEST-SIZE, bounds}
use Rattle.rules.proofs.Send.{send-count}
use Rattle.rules.proofs.Verdicts.{not_done, handles-done, sendable-good}
use Rattle.rules.proofs.Calls.{send-done}

-- of any call: a refusal says so, so what says done is what the call leaves where it is done
pub ended : {A : Type 0} (says : A → Verdict) (v : Verdict) (done : A) (refused : Refusal → A) {r : A} → ((why : Refusal) → says (refused why) ≡ Refused why)
    → r ≡ on_verdict v done refused → says r ≡ Done → (v ≡ Done) × (r ≡ done)
ended says Done done refused so post d = (refl, post)
ended says (Refused why) done refused so post d = absurd (not_done why (sym (so why) ∙ ap says (sym post) ∙ d))

-- a batch, a receive and a send that say they are done
pub batch-ended : (a : Account) (n len : ℕ) (lists : Handles) (r : Batch) (after : Handles) → batched r after ≡ batch_call a n len lists → r.verdict ≡ Done
    → (batch_verdict a n lists ≡ Done) × (batched r after ≡ batch_end a (batch_rule a.pool a.size n len (taking_of a lists)))
unfolding batch_call
batch-ended a n len lists r after = ended (λ (o : Batched). o.answer.verdict) _ _ _ (λ why. refl)

module _ (a : Account) (q : ℕ) (ring addresses : List ℕ) where
  pub receive-ended : (n : ℕ) (lists : Handles) (r : Received) (after : List ℕ) (filled : Handles)
      → received_as r after filled ≡ receive_call a q ring addresses n lists → verdict_of r.ended ≡ Done
      → (receive_verdict a q ring addresses n lists ≡ Done)
      × (received_as r after filled ≡ receive_end a (receive_rule a.pool a.size addresses n (receiving a ring lists)))
  unfolding receive_call
  receive-ended n lists r after filled = ended (λ (o : AfterReceive). verdict_of o.answer.ended) _ _ _ (λ why. refl)

  module _ (lists : Handles) (r : Sent) (after : List ℕ) (post : sent_as r after ≡ send_call a q ring addresses lists) (done : r.verdict ≡ Done) where
    pub send-ended : (send_verdict a q ring addresses lists ≡ Done) × (sent_as r after ≡ send_end a q (cleaned a q ring) (sent_after a q ring addresses lists (cleaned a q ring)))
    unfolding send_call
    send-ended = ended (λ (o : AfterSend). o.answer.verdict) _ _ _ (λ why. refl) post done

    -- it sent as many as the list has and the room lets in
    pub sent-count : r.count ≡ min (length lists.ids) (room_after a q (cleaned a q ring))
    sent-count = ap (λ o. o.answer.count) send-ended.1 ∙ send-count q addresses lists _ (sending a q ring (cleaned a q ring)) ∙ zero-add _

    -- its tests held
    sent-tests : (sound a ≡ true) × (rings_fit a.entries ring addresses ≡ true) × (has_room (length lists.ids) lists ≡ true) × (ltb q a.sends ≡ true)
        × (handles_verdict a lists 0 (length lists.ids) ≡ Done)
    sent-tests = send-done a q ring addresses lists send-ended.0

    -- so its queue's indices are in their ranges,
    pub sent-indices : Indices (get_or a.clean q 0) (get_or a.tx q 0)
    sent-indices = (sound-means a sent-tests.0).queues q (ltb-true q a.sends sent-tests.3)

    -- its ring is whole,
    pub sent-whole : length ring ≡ RING-BYTES
    sent-whole = eqb-true (length ring) RING-BYTES (both_left (eqb (length ring) RING-BYTES) _ sent-tests.1)

    -- and no packet is longer than an entry
    pub sent-short : (i : ℕ) → i < length lists.ids → (handle_at lists i).length ≤ LARGEST-SIZE
    sent-short i below =
        let good = sendable-good a lists i (handles-done a lists 0 (length lists.ids) sent-tests.4 i (omega arith) (omega arith)) in
        omega (arith, good.inside, (bounds a sent-tests.0).size-most)
