-- One outcome: no two different outcomes satisfy a public call's contract on the same input. Each contract is one equation, outcome ≡ rule,
-- so two outcomes are equal through the rule. The parts that `view` and `headroom` return lie at the same place, with the same bytes.
use Prim.Native.Nat.{ℕ}
use mathlib.Core.Path.{◌≡◌, sym, ap, ◌∙◌}
use mathlib.Core.List.{List}
use Rattle.pool.specs.declared.Handle.{Handle}
use Rattle.rules.specs.declared.Account.{Account}
use Rattle.rules.specs.Answers.{Batch, Counts, Kept, Received, Sent, Started, Taken, Truncated}
use Rattle.rules.specs.Verdict.{Verdict}
use Rattle.rules.specs.Handles.{Handles}
use Rattle.rules.specs.Refusals.{view_verdict, headroom_verdict}
use Rattle.rules.specs.Packets.{fresh_call, counts_call, take_call, batched, Batched, batch_call, release_call, truncate_call, cloned_as, Cloned, clone_call, Lent, view_call, headroom_call}
use Rattle.rules.specs.Receive.{started_as, AfterStart, start_call, received_as, AfterReceive, receive_call}
use Rattle.rules.specs.Send.{sent_as, AfterSend, send_call}

-- two things that equal one rule
pub same : {A : Type 0} {x y rule : A} → x ≡ rule → y ≡ rule → x ≡ y
same p q = p ∙ sym q

pub fresh-unique : (pool entries size receives sends : ℕ) (r s : Kept) → r ≡ fresh_call pool entries size receives sends → s ≡ fresh_call pool entries size receives sends → r ≡ s
fresh-unique pool entries size receives sends r s p q = same p q

module _ (a : Account) where
  pub counts-unique : (r s : Counts) → r ≡ counts_call a → s ≡ counts_call a → r ≡ s
  counts-unique r s p q = same p q

  pub take-unique : (len : ℕ) (r s : Taken) → r ≡ take_call a len → s ≡ take_call a len → r ≡ s
  take-unique len r s p q = same p q

  pub batch-unique : (n len : ℕ) (lists : Handles) (r s : Batch) (l m : Handles) → batched r l ≡ batch_call a n len lists → batched s m ≡ batch_call a n len lists → (r ≡ s) × (l ≡ m)
  batch-unique n len lists r s l m p q = (ap (λ (o : Batched). o.answer) (same p q), ap (λ (o : Batched). o.lists) (same p q))

  module _ (h : Handle) where
    pub release-unique : (r s : Kept) → r ≡ release_call a h → s ≡ release_call a h → r ≡ s
    release-unique r s p q = same p q

    pub truncate-unique : (len : ℕ) (r s : Truncated) → r ≡ truncate_call a h len → s ≡ truncate_call a h len → r ≡ s
    truncate-unique len r s p q = same p q

    pub clone-unique : (memory : List ℕ) (r s : Taken) (l m : List ℕ) → cloned_as r l ≡ clone_call a h memory → cloned_as s m ≡ clone_call a h memory → (r ≡ s) × (l ≡ m)
    clone-unique memory r s l m p q = (ap (λ (o : Cloned). o.answer) (same p q), ap (λ (o : Cloned). o.memory) (same p q))

    pub view-unique : (memory l m : Lent) → l ≡ view_call a h memory → m ≡ view_call a h memory → l ≡ m
    view-unique memory l m p q = same p q

    pub view-verdict-unique : (bytes : ℕ) (r s : Verdict) → r ≡ view_verdict a h bytes → s ≡ view_verdict a h bytes → r ≡ s
    view-verdict-unique bytes r s p q = same p q

    pub headroom-unique : (asked : ℕ) (memory l m : Lent) → l ≡ headroom_call a h asked memory → m ≡ headroom_call a h asked memory → l ≡ m
    headroom-unique asked memory l m p q = same p q

    pub headroom-verdict-unique : (asked bytes : ℕ) (r s : Verdict) → r ≡ headroom_verdict a h asked bytes → s ≡ headroom_verdict a h asked bytes → r ≡ s
    headroom-verdict-unique asked bytes r s p q = same p q

  module _ (q : ℕ) (ring addresses : List ℕ) where
    pub start-unique : (r s : Started) (l m : List ℕ) → started_as r l ≡ start_call a q ring addresses → started_as s m ≡ start_call a q ring addresses → (r ≡ s) × (l ≡ m)
    start-unique r s l m p o = (ap (λ (x : AfterStart). x.answer) (same p o), ap (λ (x : AfterStart). x.ring) (same p o))

    pub receive-unique : (n : ℕ) (lists : Handles) (r s : Received) (l m : List ℕ) (k j : Handles)
        → received_as r l k ≡ receive_call a q ring addresses n lists → received_as s m j ≡ receive_call a q ring addresses n lists → (r ≡ s) × (l ≡ m) × (k ≡ j)
    receive-unique n lists r s l m k j p o =
        (ap (λ (x : AfterReceive). x.answer) (same p o), ap (λ (x : AfterReceive). x.ring) (same p o), ap (λ (x : AfterReceive). x.lists) (same p o))

    pub send-unique : (lists : Handles) (r s : Sent) (l m : List ℕ) → sent_as r l ≡ send_call a q ring addresses lists → sent_as s m ≡ send_call a q ring addresses lists → (r ≡ s) × (l ≡ m)
    send-unique lists r s l m p o = (ap (λ (x : AfterSend). x.answer) (same p o), ap (λ (x : AfterSend). x.ring) (same p o))
