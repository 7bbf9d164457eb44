-- What a call of the account answers is done, or one of the account's own numbers, 1 to 9: 10 to 12 are the registers'.
use Prim.Native.Nat.{ℕ, zero, suc, ◌+◌, ◌≤◌}
use mathlib.Core.Path.{◌≡◌, refl}
use mathlib.Core.Logic.{◌⊎◌, inl}
use mathlib.Core.List.{List}
use lib.ListN.{length}
use native.Mathlib.Omega.{arith}
use Rattle.pool.specs.declared.Handle.{Handle}
use Rattle.rules.specs.declared.Account.{Account}
use Rattle.rules.specs.Answers.{Counts, Kept, Taken, Truncated}
use Rattle.refusals.specs.declared.Refusal.TheVariants.{Unsound, WrongSize, NoQueue, BadHandle, TooLarge, NoneFree, NoHeadroom, NotNow, OutOfRange, Waited, OutsideMap, NoInterrupt}
use Rattle.rules.specs.Verdict.{Verdict, Done, Refused}
use Rattle.rules.specs.Numbers.{number, verdict_of}
use Rattle.rules.specs.Handles.{Handles}
use Rattle.rules.specs.Refusals.{fresh_verdict, counts_verdict, take_verdict, batch_verdict, handle_verdict, view_verdict, clone_verdict, headroom_verdict, start_verdict, receive_verdict, handles_verdict, send_verdict}
use Rattle.rules.specs.Packets.{Batched, Cloned, counts_call, take_call, batch_call, release_call, truncate_call, clone_call}
use Rattle.rules.specs.Receive.{AfterStart, AfterReceive, start_call, receive_call}
use Rattle.rules.specs.Send.{AfterSend, send_call}
use Rattle.promises.specs.History.{Step, verdict_by}
use Rattle.promises.specs.History as h
use Rattle.promises.proofs.Never.{said}

-- done, or one of the account's numbers
abbrev pub Known : Verdict → Type 0
Known v = (v ≡ Done) ⊎ ((1 ≤ number v) × (number v ≤ 9))

-- a verdict but for the registers' three refusals
abbrev pub Own : Verdict → Type 0
Own Done = Unit {0}
Own (Refused Unsound) = Unit {0}
Own (Refused WrongSize) = Unit {0}
Own (Refused NoQueue) = Unit {0}
Own (Refused (BadHandle index)) = Unit {0}
Own (Refused TooLarge) = Unit {0}
Own (Refused NoneFree) = Unit {0}
Own (Refused NoHeadroom) = Unit {0}
Own (Refused NotNow) = Unit {0}
Own (Refused OutOfRange) = Unit {0}
Own (Refused (Waited register)) = ⊥
Own (Refused (OutsideMap register)) = ⊥
Own (Refused NoInterrupt) = ⊥

-- of every such verdict, also one that no call answers
pub own-known : (v : Verdict) → Own v → Known v
own-known Done o = inl refl
own-known (Refused Unsound) o = grind arith
own-known (Refused WrongSize) o = grind arith
own-known (Refused NoQueue) o = grind arith
own-known (Refused (BadHandle index)) o = grind arith
own-known (Refused TooLarge) o = grind arith
own-known (Refused NoneFree) o = grind arith
own-known (Refused NoHeadroom) o = grind arith
own-known (Refused NotNow) o = grind arith
own-known (Refused OutOfRange) o = grind arith
own-known (Refused (Waited register)) o = elim o [ ]
own-known (Refused (OutsideMap register)) o = elim o [ ]
own-known (Refused NoInterrupt) o = elim o [ ]

pub fresh-known : (entries size receives sends : ℕ) → Known (fresh_verdict entries size receives sends)
unfolding fresh_verdict
fresh-known entries size receives sends = grind arith

-- the handles of a send, from a place on
handles-known : (a : Account) (lists : Handles) (i n : ℕ) → Known (handles_verdict a lists i n)
unfolding handles_verdict
handles-known a lists i zero = inl refl
handles-known a lists i (suc n) = grind (arith, handles-known a lists (i + 1) n)

module _ (a : Account) where
  pub counts-known : Known (counts_verdict a)
  unfolding counts_verdict
  counts-known = grind arith

  pub take-known : (len : ℕ) → Known (take_verdict a len)
  unfolding take_verdict
  take-known len = grind arith

  pub batch-known : (n : ℕ) (lists : Handles) → Known (batch_verdict a n lists)
  unfolding batch_verdict
  batch-known n lists = grind arith

  module _ (h : Handle) where
    pub handle-known : Known (handle_verdict a h)
    unfolding handle_verdict
    handle-known = grind arith

    pub view-known : (bytes : ℕ) → Known (view_verdict a h bytes)
    unfolding view_verdict
    view-known bytes = grind arith

    pub clone-known : (bytes : ℕ) → Known (clone_verdict a h bytes)
    unfolding clone_verdict
    clone-known bytes = grind arith

    pub headroom-known : (asked bytes : ℕ) → Known (headroom_verdict a h asked bytes)
    unfolding headroom_verdict
    headroom-known asked bytes = grind arith

  module _ (q : ℕ) (ring addresses : List ℕ) where
    pub start-known : Known (start_verdict a q ring addresses)
    unfolding start_verdict
    start-known = grind arith

    pub receive-known : (n : ℕ) (lists : Handles) → Known (receive_verdict a q ring addresses n lists)
    unfolding receive_verdict
    receive-known n lists = grind arith

    pub send-known : (lists : Handles) → Known (send_verdict a q ring addresses lists)
    unfolding send_verdict
    send-known lists = grind (arith, handles-known a lists 0 (length lists.ids))

-- so is each answer of a history
pub answer-known : {a b : Account} (s : Step a b) → Known (verdict_by s)
unfolding counts_call take_call batch_call release_call truncate_call clone_call start_call receive_call send_call
answer-known {a} (h.counts r e) = rw (said (λ (o : Counts). o.verdict) (counts_verdict a) refl (λ why. refl) e) (counts-known a)
answer-known {a} (h.take len r e) = rw (said (λ (o : Taken). o.verdict) (take_verdict a len) refl (λ why. refl) e) (take-known a len)
answer-known {a} (h.batch n len lists left r e) = rw (said (λ (o : Batched). o.answer.verdict) (batch_verdict a n lists) refl (λ why. refl) e) (batch-known a n lists)
answer-known {a} (h.release handle r e) = rw (said (λ (o : Kept). o.verdict) (handle_verdict a handle) refl (λ why. refl) e) (handle-known a handle)
answer-known {a} (h.truncate handle len r e) = rw (said (λ (o : Truncated). o.verdict) (handle_verdict a handle) refl (λ why. refl) e) (handle-known a handle)
answer-known {a} (h.clone handle memory left r e) =
    rw (said (λ (o : Cloned). o.answer.verdict) (clone_verdict a handle (length memory)) refl (λ why. refl) e) (clone-known a handle (length memory))
answer-known {a} (h.view handle memory part e) = view-known a handle (length memory.bytes)
answer-known {a} (h.headroom handle asked memory part e) = headroom-known a handle asked (length memory.bytes)
answer-known {a} (h.start q ring addresses left r e) =
    rw (said (λ (o : AfterStart). o.answer.verdict) (start_verdict a q ring addresses) refl (λ why. refl) e) (start-known a q ring addresses)
answer-known {a} (h.receive q ring addresses n lists left filled r e) =
    rw (said (λ (o : AfterReceive). verdict_of o.answer.ended) (receive_verdict a q ring addresses n lists) refl (λ why. refl) e) (receive-known a q ring addresses n lists)
answer-known {a} (h.send q ring addresses lists left r e) =
    rw (said (λ (o : AfterSend). o.answer.verdict) (send_verdict a q ring addresses lists) refl (λ why. refl) e) (send-known a q ring addresses lists)
