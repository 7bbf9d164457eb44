-- No call of a history is refused with 1. Only the first test of a call gives that number, and the account of a history is sound.
use Prim.Native.Nat.{ℕ, zero, suc, ◌+◌}
use mathlib.Core.Path.{◌≡◌, refl, ap, ◌∙◌}
use mathlib.Core.List.{List}
use lib.ListN.{length}
use native.Mathlib.Omega.{arith}
use Rattle.pool.specs.declared.Handle.{Handle}
use Rattle.rules.specs.declared.Account.{Account}
use Rattle.rules.specs.Answers.{Counts, Kept, Taken, Truncated}
use Rattle.refusals.specs.declared.Refusal.{Refusal}
use Rattle.rules.specs.Verdict.{Verdict, Done, Refused}
use Rattle.rules.specs.Numbers.{number, on_verdict, verdict_of}
use Rattle.rules.specs.Handles.{Handles}
use Rattle.rules.specs.Refusals.{counts_verdict, take_verdict, batch_verdict, handle_verdict, view_verdict, clone_verdict, headroom_verdict, start_verdict, receive_verdict, handles_verdict, send_verdict}
use Rattle.rules.specs.Packets.{Batched, Cloned, counts_call, take_call, batch_call, release_call, truncate_call, clone_call}
use Rattle.rules.specs.Receive.{AfterStart, AfterReceive, start_call, receive_call}
use Rattle.rules.specs.Send.{AfterSend, send_call}
use Rattle.promises.specs.History.{Step, History, verdict_by}
use Rattle.promises.specs.History as h
use Rattle.promises.proofs.Always.{always-sound}

-- the handles of a send, from a place on
handles-not-1 : (a : Account) (lists : Handles) (i n : ℕ) → number (handles_verdict a lists i n) ≡ 1 → ⊥
unfolding handles_verdict
handles-not-1 a lists i zero = grind arith
handles-not-1 a lists i (suc n) = grind (arith, handles-not-1 a lists (i + 1) n)

module _ {a : Account} (t : History a) where
  pub counts-not-1 : number (counts_verdict a) ≡ 1 → ⊥
  unfolding counts_verdict
  counts-not-1 = grind (arith, always-sound t)

  pub take-not-1 : (len : ℕ) → number (take_verdict a len) ≡ 1 → ⊥
  unfolding take_verdict
  take-not-1 len = grind (arith, always-sound t)

  pub batch-not-1 : (n : ℕ) (lists : Handles) → number (batch_verdict a n lists) ≡ 1 → ⊥
  unfolding batch_verdict
  batch-not-1 n lists = grind (arith, always-sound t)

  module _ (h : Handle) where
    pub handle-not-1 : number (handle_verdict a h) ≡ 1 → ⊥
    unfolding handle_verdict
    handle-not-1 = grind (arith, always-sound t)

    pub view-not-1 : (bytes : ℕ) → number (view_verdict a h bytes) ≡ 1 → ⊥
    unfolding view_verdict
    view-not-1 bytes = grind (arith, always-sound t)

    pub clone-not-1 : (bytes : ℕ) → number (clone_verdict a h bytes) ≡ 1 → ⊥
    unfolding clone_verdict
    clone-not-1 bytes = grind (arith, always-sound t)

    pub headroom-not-1 : (asked bytes : ℕ) → number (headroom_verdict a h asked bytes) ≡ 1 → ⊥
    unfolding headroom_verdict
    headroom-not-1 asked bytes = grind (arith, always-sound t)

  module _ (q : ℕ) (ring addresses : List ℕ) where
    pub start-not-1 : number (start_verdict a q ring addresses) ≡ 1 → ⊥
    unfolding start_verdict
    start-not-1 = grind (arith, always-sound t)

    pub receive-not-1 : (n : ℕ) (lists : Handles) → number (receive_verdict a q ring addresses n lists) ≡ 1 → ⊥
    unfolding receive_verdict
    receive-not-1 n lists = grind (arith, always-sound t)

    pub send-not-1 : (lists : Handles) → number (send_verdict a q ring addresses lists) ≡ 1 → ⊥
    unfolding send_verdict
    send-not-1 lists = grind (arith, always-sound t, handles-not-1 a lists 0 (length lists.ids))

-- ---- so no step of a history is

-- an answer says what its call's tests say
pub said : {A : Type 0} (say : A → Verdict) (v : Verdict) {done : A} {refused : Refusal → A} {r : A}
    → say done ≡ Done → ((why : Refusal) → say (refused why) ≡ Refused why) → r ≡ on_verdict v done refused → say r ≡ v
said say Done d r e = ap say e ∙ d
said say (Refused why) d r e = ap say e ∙ r why

pub step-not-1 : {a b : Account} → History a → (s : Step a b) → number (verdict_by s) ≡ 1 → ⊥
unfolding counts_call take_call batch_call release_call truncate_call clone_call start_call receive_call send_call
step-not-1 {a} t (h.counts r e) = rw (said (λ (o : Counts). o.verdict) (counts_verdict a) refl (λ why. refl) e) (counts-not-1 t)
step-not-1 {a} t (h.take len r e) = rw (said (λ (o : Taken). o.verdict) (take_verdict a len) refl (λ why. refl) e) (take-not-1 t len)
step-not-1 {a} t (h.batch n len lists left r e) =
    rw (said (λ (o : Batched). o.answer.verdict) (batch_verdict a n lists) refl (λ why. refl) e) (batch-not-1 t n lists)
step-not-1 {a} t (h.release handle r e) = rw (said (λ (o : Kept). o.verdict) (handle_verdict a handle) refl (λ why. refl) e) (handle-not-1 t handle)
step-not-1 {a} t (h.truncate handle len r e) = rw (said (λ (o : Truncated). o.verdict) (handle_verdict a handle) refl (λ why. refl) e) (handle-not-1 t handle)
step-not-1 {a} t (h.clone handle memory left r e) =
    rw (said (λ (o : Cloned). o.answer.verdict) (clone_verdict a handle (length memory)) refl (λ why. refl) e) (clone-not-1 t handle (length memory))
step-not-1 {a} t (h.view handle memory part e) = view-not-1 t handle (length memory.bytes)
step-not-1 {a} t (h.headroom handle asked memory part e) = headroom-not-1 t handle asked (length memory.bytes)
step-not-1 {a} t (h.start q ring addresses left r e) =
    rw (said (λ (o : AfterStart). o.answer.verdict) (start_verdict a q ring addresses) refl (λ why. refl) e) (start-not-1 t q ring addresses)
step-not-1 {a} t (h.receive q ring addresses n lists left filled r e) =
    rw (said (λ (o : AfterReceive). verdict_of o.answer.ended) (receive_verdict a q ring addresses n lists) refl (λ why. refl) e)
    (receive-not-1 t q ring addresses n lists)
step-not-1 {a} t (h.send q ring addresses lists left r e) =
    rw (said (λ (o : AfterSend). o.answer.verdict) (send_verdict a q ring addresses lists) refl (λ why. refl) e) (send-not-1 t q ring addresses lists)
