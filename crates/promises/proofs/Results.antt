-- From the calls' contracts to the histories. A contract makes an answer of the call's Result and of the account that it leaves
-- (rules/specs/Results.antt), and its equation is the step's. So a call is a step of the history that says what the Result says, and an Err
-- left all that was lent as it was. A view and a headroom have the step's equation as it is.
use Prim.Native.Nat.{ℕ}
use mathlib.Core.Path.{◌≡◌, refl, ap, sym, ◌∙◌}
use mathlib.Core.List.{List}
use lib.ListN.{length}
use Rattle.std.specs.Prelude.{Result, Ok, Err}
use Rattle.refusals.specs.declared.Refusal.{Refusal}
use Rattle.pool.specs.declared.Handle.{Handle}
use Rattle.rules.specs.declared.Account.{Account}
use Rattle.rules.specs.declared.Counts as counts
use Rattle.rules.specs.declared.Received as received
use Rattle.rules.specs.declared.Sent as sent
use Rattle.rules.specs.Verdict.{Verdict}
use Rattle.rules.specs.Numbers.{verdict_of}
use Rattle.rules.specs.Answers.{Kept, Taken}
use Rattle.rules.specs.Handles.{Handles}
use Rattle.rules.specs.Refusals.{fresh_verdict, take_verdict, batch_verdict, handle_verdict, clone_verdict, start_verdict, receive_verdict, send_verdict}
use Rattle.rules.specs.Results.{says, fresh_as, counts_as, taken_as, batch_as, kept_as, truncated_as, start_as, receive_as, send_as}
use Rattle.rules.specs.Packets.{Batched, Cloned, fresh_call, counts_call, take_call, batched, batch_call, release_call, truncate_call, cloned_as, clone_call}
use Rattle.rules.specs.Receive.{AfterStart, AfterReceive, started_as, start_call, received_as, receive_call}
use Rattle.rules.specs.Send.{AfterSend, sent_as, send_call}
use Rattle.promises.specs.History.{Step, History, verdict_by}
use Rattle.promises.specs.History as h
use Rattle.promises.proofs.Refused.{take-refused, batch-refused, release-refused, clone-refused, start-refused, receive-refused, send-refused}
use Rattle.promises.proofs.Never.{said}
use Rattle.promises.proofs.Known.{Known, fresh-known}

-- a step from one account to another that says so
pub record Stepped (a b : Account) (v : Verdict) : Type 0 where
  pub step : Step a b
  pub said : verdict_by step ≡ v

-- ---- a call is a step

-- a fresh that is Ok begins a history
pub fresh-begins : (pool entries size receives sends : ℕ) (b : Account) → fresh_as (Ok b) ≡ fresh_call pool entries size receives sends → History b
fresh-begins pool entries size receives sends b e = h.fresh pool entries size receives sends (fresh_as (Ok b)) e refl

-- and what a fresh answers is done or one of the account's numbers
pub fresh-answer-known : (pool entries size receives sends : ℕ) (r : Result Account Refusal) → fresh_as r ≡ fresh_call pool entries size receives sends → Known (says r)
unfolding fresh_call
fresh-answer-known pool entries size receives sends r e =
    rw (by_result r ∙ said (λ (o : Kept). o.verdict) (fresh_verdict entries size receives sends) refl (λ why. refl) e) (fresh-known entries size receives sends)
  where
    by_result : (r : Result Account Refusal) → says r ≡ (fresh_as r).verdict
    by_result (Ok b) = refl
    by_result (Err why) = refl

module _ (a : Account) where
  pub counts-is-step : (r : Result counts.Counts Refusal) → counts_as r ≡ counts_call a → Stepped a a (says r)
  counts-is-step (Ok c) e = record { step = h.counts (counts_as (Ok c)) e; said = refl }
  counts-is-step (Err why) e = record { step = h.counts (counts_as (Err why)) e; said = refl }

  pub take-is-step : (len : ℕ) (r : Result Handle Refusal) (b : Account) → taken_as r b ≡ take_call a len → Stepped a b (says r)
  take-is-step len (Ok taken) b e = record { step = h.take len (taken_as (Ok taken) b) e; said = refl }
  take-is-step len (Err why) b e = record { step = h.take len (taken_as (Err why) b) e; said = refl }

  pub batch-is-step : (n len : ℕ) (lists after : Handles) (r : Result ℕ Refusal) (b : Account)
      → batched (batch_as r b) after ≡ batch_call a n len lists → Stepped a b (says r)
  batch-is-step n len lists after (Ok count) b e = record { step = h.batch n len lists after (batch_as (Ok count) b) e; said = refl }
  batch-is-step n len lists after (Err why) b e = record { step = h.batch n len lists after (batch_as (Err why) b) e; said = refl }

  module _ (handle : Handle) where
    pub release-is-step : {A : Type 0} (r : Result A Refusal) (b : Account) → kept_as r b ≡ release_call a handle → Stepped a b (says r)
    release-is-step r b e = record { step = h.release handle (kept_as r b) e; said = refl }

    pub truncate-is-step : (len : ℕ) (r : Result Handle Refusal) → truncated_as r handle ≡ truncate_call a handle len → Stepped a a (says r)
    truncate-is-step len (Ok short) e = record { step = h.truncate handle len (truncated_as (Ok short) handle) e; said = refl }
    truncate-is-step len (Err why) e = record { step = h.truncate handle len (truncated_as (Err why) handle) e; said = refl }

    pub clone-is-step : (memory after : List ℕ) (r : Result Handle Refusal) (b : Account)
        → cloned_as (taken_as r b) after ≡ clone_call a handle memory → Stepped a b (says r)
    clone-is-step memory after (Ok copy) b e = record { step = h.clone handle memory after (taken_as (Ok copy) b) e; said = refl }
    clone-is-step memory after (Err why) b e = record { step = h.clone handle memory after (taken_as (Err why) b) e; said = refl }

  module _ (q : ℕ) (ring addresses after : List ℕ) where
    pub start-is-step : (r : Result ℕ Refusal) (b : Account) → started_as (start_as r b) after ≡ start_call a q ring addresses → Stepped a b (says r)
    start-is-step (Ok slot) b e = record { step = h.start q ring addresses after (start_as (Ok slot) b) e; said = refl }
    start-is-step (Err why) b e = record { step = h.start q ring addresses after (start_as (Err why) b) e; said = refl }

    pub receive-is-step : (n : ℕ) (lists filled : Handles) (r : Result received.Received Refusal) (b : Account)
        → received_as (receive_as r b) after filled ≡ receive_call a q ring addresses n lists → Stepped a b (says r)
    receive-is-step n lists filled (Ok frames) b e = record { step = h.receive q ring addresses n lists after filled (receive_as (Ok frames) b) e; said = refl }
    receive-is-step n lists filled (Err why) b e = record { step = h.receive q ring addresses n lists after filled (receive_as (Err why) b) e; said = refl }

    pub send-is-step : (lists : Handles) (r : Result sent.Sent Refusal) (b : Account)
        → sent_as (send_as r b) after ≡ send_call a q ring addresses lists → Stepped a b (says r)
    send-is-step lists (Ok packets) b e = record { step = h.send q ring addresses lists after (send_as (Ok packets) b) e; said = refl }
    send-is-step lists (Err why) b e = record { step = h.send q ring addresses lists after (send_as (Err why) b) e; said = refl }

-- ---- an Err leaves all that was lent as it was

module _ (a b : Account) (why : Refusal) where
  pub take-err : (len : ℕ) → taken_as (Err why) b ≡ take_call a len → b ≡ a
  unfolding take_call
  take-err len e =
      ap (λ (o : Taken). o.account) (e ∙ take-refused a why len (sym (said (λ (o : Taken). o.verdict) (take_verdict a len) refl (λ w. refl) e)))

  pub batch-err : (n len : ℕ) (lists after : Handles) → batched (batch_as (Err why) b) after ≡ batch_call a n len lists → (b ≡ a) × (after ≡ lists)
  unfolding batch_call
  batch-err n len lists after e =
      let x = e ∙ batch-refused a why n len lists (sym (said (λ (o : Batched). o.answer.verdict) (batch_verdict a n lists) refl (λ w. refl) e)) in
      (ap (λ (o : Batched). o.answer.account) x, ap (λ (o : Batched). o.lists) x)

  module _ (h : Handle) where
    pub release-err : (A : Type 0) → kept_as {A = A} (Err why) b ≡ release_call a h → b ≡ a
    unfolding release_call
    release-err A e =
        ap (λ (o : Kept). o.account) (e ∙ release-refused a why h (sym (said (λ (o : Kept). o.verdict) (handle_verdict a h) refl (λ w. refl) e)))

    pub clone-err : (memory after : List ℕ) → cloned_as (taken_as (Err why) b) after ≡ clone_call a h memory → (b ≡ a) × (after ≡ memory)
    unfolding clone_call
    clone-err memory after e =
        let x = e ∙ clone-refused a why h memory (sym (said (λ (o : Cloned). o.answer.verdict) (clone_verdict a h (length memory)) refl (λ w. refl) e)) in
        (ap (λ (o : Cloned). o.answer.account) x, ap (λ (o : Cloned). o.memory) x)

  module _ (q : ℕ) (ring addresses after : List ℕ) where
    pub start-err : started_as (start_as (Err why) b) after ≡ start_call a q ring addresses → (b ≡ a) × (after ≡ ring)
    unfolding start_call
    start-err e =
        let x = e ∙ start-refused a why q ring addresses (sym (said (λ (o : AfterStart). o.answer.verdict) (start_verdict a q ring addresses) refl (λ w. refl) e)) in
        (ap (λ (o : AfterStart). o.answer.account) x, ap (λ (o : AfterStart). o.ring) x)

    pub receive-err : (n : ℕ) (lists filled : Handles)
        → received_as (receive_as (Err why) b) after filled ≡ receive_call a q ring addresses n lists → (b ≡ a) × (after ≡ ring) × (filled ≡ lists)
    unfolding receive_call
    receive-err n lists filled e =
        let v = said (λ (o : AfterReceive). verdict_of o.answer.ended) (receive_verdict a q ring addresses n lists) refl (λ w. refl) e in
        let x = e ∙ receive-refused a why q ring addresses n lists (sym v) in
        (ap (λ (o : AfterReceive). o.answer.account) x, ap (λ (o : AfterReceive). o.ring) x, ap (λ (o : AfterReceive). o.lists) x)

    pub send-err : (lists : Handles) → sent_as (send_as (Err why) b) after ≡ send_call a q ring addresses lists → (b ≡ a) × (after ≡ ring)
    unfolding send_call
    send-err lists e =
        let x = e ∙ send-refused a why q ring addresses lists (sym (said (λ (o : AfterSend). o.answer.verdict) (send_verdict a q ring addresses lists) refl (λ w. refl) e)) in
        (ap (λ (o : AfterSend). o.answer.account) x, ap (λ (o : AfterSend). o.ring) x)
