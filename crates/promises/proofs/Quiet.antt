-- Two kinds of calls: a send, and any other, which leaves the account's numbers and its send queues, sends nothing and gives nothing back.
use Prim.Native.Nat.{ℕ}
use mathlib.Core.Path.{◌≡◌, refl, ap, ◌∙◌}
use mathlib.Core.List.{List, []}
use lib.ListN.{length}
use Rattle.pool.specs.declared.Handle.{Handle}
use Rattle.rules.specs.declared.Account.{Account}
use Rattle.rules.specs.Answers.{Kept, Sent, Taken}
use Rattle.rules.specs.Handles.{Handles}
use Rattle.rules.specs.Refusals.{take_verdict, batch_verdict, handle_verdict, clone_verdict, start_verdict, receive_verdict, send_verdict}
use Rattle.rules.specs.Packets.{Batched, Cloned, taken, take_call, batch_call, released, release_call, clone_call}
use Rattle.rules.specs.Receive.{AfterStart, AfterReceive, start_call, receive_call}
use Rattle.rules.specs.Send.{AfterSend, sent_as, send_call}
use Rattle.rules.proofs.Verdicts.{verdict-holds}
use Rattle.promises.specs.History.{Step}
use Rattle.promises.specs.History as h
use Rattle.promises.specs.Queues.{sent_by, back_by}

-- the numbers that no call changes
abbrev pub numbers : Account → ℕ × ℕ
numbers a = (a.entries, a.sends)

-- and with them what only a send changes
abbrev pub rest : Account → (ℕ × ℕ) × List ℕ × List ℕ × List ℕ
rest a = (numbers a, a.sent, a.clean, a.tx)

-- what each call leaves
module _ (a : Account) where
  take_rest : (len : ℕ) → rest (take_call a len).account ≡ rest a
  unfolding take_call taken
  take_rest len = verdict-holds (λ (r : Taken). rest r.account ≡ rest a) (take_verdict a len) _ _ (λ e. refl) (λ why e. refl)

  batch-rest : (n len : ℕ) (lists : Handles) → rest (batch_call a n len lists).answer.account ≡ rest a
  unfolding batch_call
  batch-rest n len lists = verdict-holds (λ (r : Batched). rest r.answer.account ≡ rest a) (batch_verdict a n lists) _ _ (λ e. refl) (λ why e. refl)

  release-rest : (h : Handle) → rest (release_call a h).account ≡ rest a
  unfolding release_call released
  release-rest h = verdict-holds (λ (r : Kept). rest r.account ≡ rest a) (handle_verdict a h) _ _ (λ e. refl) (λ why e. refl)

  clone-rest : (h : Handle) (memory : List ℕ) → rest (clone_call a h memory).answer.account ≡ rest a
  unfolding clone_call taken
  clone-rest h memory = verdict-holds (λ (r : Cloned). rest r.answer.account ≡ rest a) (clone_verdict a h (length memory)) _ _ (λ e. refl) (λ why e. refl)

  start-rest : (q : ℕ) (ring addresses : List ℕ) → rest (start_call a q ring addresses).answer.account ≡ rest a
  unfolding start_call
  start-rest q ring addresses = verdict-holds (λ (r : AfterStart). rest r.answer.account ≡ rest a) (start_verdict a q ring addresses) _ _ (λ e. refl) (λ why e. refl)

  receive-rest : (q : ℕ) (ring addresses : List ℕ) (n : ℕ) (lists : Handles) → rest (receive_call a q ring addresses n lists).answer.account ≡ rest a
  unfolding receive_call
  receive-rest q ring addresses n lists =
      verdict-holds (λ (r : AfterReceive). rest r.answer.account ≡ rest a) (receive_verdict a q ring addresses n lists) _ _ (λ e. refl) (λ why e. refl)

  send-numbers : (q : ℕ) (ring addresses : List ℕ) (lists : Handles) → numbers (send_call a q ring addresses lists).answer.account ≡ numbers a
  unfolding send_call
  send-numbers q ring addresses lists =
      verdict-holds (λ (r : AfterSend). numbers r.answer.account ≡ numbers a) (send_verdict a q ring addresses lists) _ _ (λ e. refl) (λ why e. refl)

-- the kind of a call, with what it says of the send queues
pub data Kind {a : Account} : (b : Account) → Step a b → Type 0 where
  quiet : {b : Account} {s : Step a b} → rest b ≡ rest a → ((q : ℕ) → sent_by q s ≡ []) → ((q sent back : ℕ) → back_by q sent back s ≡ back) → Kind b s
  a-send : (q : ℕ) (ring addresses : List ℕ) (lists : Handles) (left : List ℕ) (r : Sent) (e : sent_as r left ≡ send_call a q ring addresses lists)
      → Kind r.account (h.send q ring addresses lists left r e)

-- every call is of one of the two
pub kind : {a b : Account} (s : Step a b) → Kind b s
kind {a} (h.counts r e) = quiet refl (λ q. refl) (λ q sent back. refl)
kind {a} (h.take len r e) = quiet (ap (λ o. rest o.account) e ∙ take_rest a len) (λ q. refl) (λ q sent back. refl)
kind {a} (h.batch n len lists left r e) = quiet (ap (λ o. rest o.answer.account) e ∙ batch-rest a n len lists) (λ q. refl) (λ q sent back. refl)
kind {a} (h.release handle r e) = quiet (ap (λ o. rest o.account) e ∙ release-rest a handle) (λ q. refl) (λ q sent back. refl)
kind {a} (h.truncate handle len r e) = quiet refl (λ q. refl) (λ q sent back. refl)
kind {a} (h.clone handle memory left r e) = quiet (ap (λ o. rest o.answer.account) e ∙ clone-rest a handle memory) (λ q. refl) (λ q sent back. refl)
kind {a} (h.view handle memory part e) = quiet refl (λ q. refl) (λ q sent back. refl)
kind {a} (h.headroom handle asked memory part e) = quiet refl (λ q. refl) (λ q sent back. refl)
kind {a} (h.start q ring addresses left r e) = quiet (ap (λ o. rest o.answer.account) e ∙ start-rest a q ring addresses) (λ q. refl) (λ q sent back. refl)
kind {a} (h.receive q ring addresses n lists left filled r e) =
    quiet (ap (λ o. rest o.answer.account) e ∙ receive-rest a q ring addresses n lists) (λ q. refl) (λ q sent back. refl)
kind {a} (h.send q ring addresses lists left r e) = a-send q ring addresses lists left r e

-- no call changes the numbers of buffers and of send queues
pub step-numbers : {a b : Account} → Step a b → numbers b ≡ numbers a
step-numbers s = by-kind s (kind s)
  where
    by-kind : {a b : Account} (s : Step a b) → Kind b s → numbers b ≡ numbers a
    by-kind s (quiet same none back) = ap (λ o. o.0) same
    by-kind s (a-send q ring addresses lists left r e) = ap (λ o. numbers o.answer.account) e ∙ send-numbers _ q ring addresses lists
