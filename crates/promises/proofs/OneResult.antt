-- One outcome, of a call's Result: no two different Results, with what they leave, satisfy a public call's contract on the same input. What is
-- told of a Result gives it back, so from Unique.antt's one answer comes one Result.
use Prim.Native.Nat.{ℕ}
use mathlib.Core.Path.{◌≡◌, refl, sym, ap, ◌∙◌}
use mathlib.Core.List.{List}
use Rattle.std.specs.Prelude.{Result, Ok, Err, Option, None, Some}
use Rattle.refusals.specs.declared.Refusal.{Refusal}
use Rattle.pool.specs.declared.Handle.{Handle}
use Rattle.rules.specs.declared.Account.{Account}
use Rattle.rules.specs.declared.Counts as counts
use Rattle.rules.specs.declared.Received as received
use Rattle.rules.specs.declared.Sent as sent
use Rattle.rules.specs.Answers.{Batch, Counts, Kept, Received, Sent, Started, Taken}
use Rattle.rules.specs.Ended.{Ended, Stopped}
use Rattle.rules.specs.Ended as ended
use Rattle.rules.specs.Tail.{Tail, Unwritten, Written}
use Rattle.rules.specs.Verdict.{Verdict}
use Rattle.rules.specs.Numbers.{on_verdict, tail_or}
use Rattle.rules.specs.Results.{says, tail_as, fresh_as, counts_as, taken_as, batch_as, kept_as, truncated_as, start_as, receive_as, send_as}
use Rattle.rules.specs.Handles.{Handles}
use Rattle.rules.specs.Refusals.{view_verdict, headroom_verdict}
use Rattle.rules.specs.Packets.{fresh_call, counts_call, take_call, batched, batch_call, release_call, truncate_call, cloned_as, clone_call}
use Rattle.rules.specs.Receive.{started_as, start_call, received_as, receive_call}
use Rattle.rules.specs.Send.{sent_as, send_call}
use Rattle.promises.proofs.Unique.{same, batch-unique, clone-unique, start-unique, receive-unique, send-unique}

-- what is told of a thing gives the thing back, so two things of which one thing is told are one
one : {A B : Type 0} (back : B → A) (tell : A → B) {x y : A} → ((z : A) → back (tell z) ≡ z) → tell x ≡ tell y → x ≡ y
one back tell {x} {y} gives e = sym (gives x) ∙ ap back e ∙ gives y

-- and so the two parts of a pair
both-one : {A B C : Type 0} (back : C → A × B) (tell : A × B → C) → ((z : A × B) → back (tell z) ≡ z) → (x y : A × B) → tell x ≡ tell y → (x.0 ≡ y.0) × (x.1 ≡ y.1)
both-one back tell gives x y e = (ap (λ z. z.0) (one back tell {x = x} {y = y} gives e), ap (λ z. z.1) (one back tell {x = x} {y = y} gives e))

-- ---- back from an answer to the Result

result_of : {A : Type 0} → Verdict → A → Result A Refusal
result_of v answer = on_verdict v (Ok answer) (λ why. Err why)

said-back : (r : Result Unit Refusal) → result_of (says r) tt ≡ r
unfolding result_of
said-back (Ok answer) = refl
said-back (Err why) = refl

fresh-back : (r : Result Account Refusal) → result_of (fresh_as r).verdict (fresh_as r).account ≡ r
unfolding result_of
fresh-back (Ok a) = refl
fresh-back (Err why) = refl

counts_back : Counts → Result counts.Counts Refusal
counts_back o = result_of o.verdict (record { free = o.free; receive = o.receive; send = o.send; out = o.out })

counts-back : (r : Result counts.Counts Refusal) → counts_back (counts_as r) ≡ r
unfolding result_of counts_back
counts-back (Ok c) = refl
counts-back (Err why) = refl

taken_back : Taken → Result Handle Refusal × Account
taken_back o = (result_of o.verdict o.handle, o.account)

taken-back : (z : Result Handle Refusal × Account) → taken_back (taken_as z.0 z.1) ≡ z
unfolding result_of taken_back
taken-back (Ok handle, a) = refl
taken-back (Err why, a) = refl

batch_back : Batch → Result ℕ Refusal × Account
batch_back o = (result_of o.verdict o.count, o.account)

batch-back : (z : Result ℕ Refusal × Account) → batch_back (batch_as z.0 z.1) ≡ z
unfolding result_of batch_back
batch-back (Ok count, a) = refl
batch-back (Err why, a) = refl

start_back : Started → Result ℕ Refusal × Account
start_back o = (result_of o.verdict (tail_or 0 o.tail), o.account)

start-back : (z : Result ℕ Refusal × Account) → start_back (start_as z.0 z.1) ≡ z
unfolding result_of start_back
start-back (Ok slot, a) = refl
start-back (Err why, a) = refl

kept_back : Kept → Result Unit Refusal × Account
kept_back o = (result_of o.verdict tt, o.account)

kept-back : (z : Result Unit Refusal × Account) → kept_back (kept_as z.0 z.1) ≡ z
unfolding result_of kept_back
kept-back (Ok answer, a) = refl
kept-back (Err why, a) = refl

truncated-back : (h : Handle) (r : Result Handle Refusal) → result_of (truncated_as r h).verdict (truncated_as r h).handle ≡ r
unfolding result_of
truncated-back h (Ok handle) = refl
truncated-back h (Err why) = refl

tail_back : Tail → Option ℕ
tail_back Unwritten = None
tail_back (Written slot) = Some slot

tail-back : (tail : Option ℕ) → tail_back (tail_as tail) ≡ tail
unfolding tail_back
tail-back None = refl
tail-back (Some slot) = refl

ended_back : Ended → ℕ → Option ℕ → Result received.Received Refusal
ended_back (Stopped stop) count tail = Ok (record { stop = stop; count = count; tail = tail })
ended_back (ended.Refused why) count tail = Err why

received_back : Received → Result received.Received Refusal × Account
received_back o = (ended_back o.ended o.count (tail_back o.tail), o.account)

received-back : (z : Result received.Received Refusal × Account) → received_back (receive_as z.0 z.1) ≡ z
unfolding received_back ended_back
received-back (Ok r, a) = rw (tail-back r.tail) refl
received-back (Err why, a) = refl

sent_back : Sent → Result sent.Sent Refusal × Account
sent_back o = (result_of o.verdict (record { count = o.count; tail = tail_or 0 o.tail }), o.account)

sent-back : (z : Result sent.Sent Refusal × Account) → sent_back (send_as z.0 z.1) ≡ z
unfolding result_of sent_back
sent-back (Ok s, a) = refl
sent-back (Err why, a) = refl

-- ---- one Result

pub fresh-result-unique : (pool entries size receives sends : ℕ) (r s : Result Account Refusal)
    → fresh_as r ≡ fresh_call pool entries size receives sends → fresh_as s ≡ fresh_call pool entries size receives sends → r ≡ s
fresh-result-unique pool entries size receives sends r s p q = one (λ o. result_of o.verdict o.account) fresh_as fresh-back (same p q)

module _ (a : Account) where
  pub counts-result-unique : (r s : Result counts.Counts Refusal) → counts_as r ≡ counts_call a → counts_as s ≡ counts_call a → r ≡ s
  counts-result-unique r s p q = one counts_back counts_as counts-back (same p q)

  module _ (h : Handle) where
    pub truncate-result-unique : (len : ℕ) (r s : Result Handle Refusal) → truncated_as r h ≡ truncate_call a h len → truncated_as s h ≡ truncate_call a h len → r ≡ s
    truncate-result-unique len r s p q = one (λ o. result_of o.verdict o.handle) (λ x. truncated_as x h) (truncated-back h) (same p q)

    pub view-result-unique : (bytes : ℕ) (r s : Result Unit Refusal) → says r ≡ view_verdict a h bytes → says s ≡ view_verdict a h bytes → r ≡ s
    view-result-unique bytes r s p q = one (λ v. result_of v tt) says said-back (same p q)

    pub headroom-result-unique : (asked bytes : ℕ) (r s : Result Unit Refusal)
        → says r ≡ headroom_verdict a h asked bytes → says s ≡ headroom_verdict a h asked bytes → r ≡ s
    headroom-result-unique asked bytes r s p q = one (λ v. result_of v tt) says said-back (same p q)

  -- of a call that changes the account: the Result, the account, and what else it was lent
  module _ (b c : Account) where
    pub take-result-unique : (len : ℕ) (r s : Result Handle Refusal) → taken_as r b ≡ take_call a len → taken_as s c ≡ take_call a len → (r ≡ s) × (b ≡ c)
    take-result-unique len r s p q = both-one taken_back (λ z. taken_as z.0 z.1) taken-back (r, b) (s, c) (same p q)

    pub batch-result-unique : (n len : ℕ) (lists l m : Handles) (r s : Result ℕ Refusal)
        → batched (batch_as r b) l ≡ batch_call a n len lists → batched (batch_as s c) m ≡ batch_call a n len lists → (r ≡ s) × (b ≡ c) × (l ≡ m)
    batch-result-unique n len lists l m r s p q =
        let u = batch-unique a n len lists (batch_as r b) (batch_as s c) l m p q in
        let x = both-one batch_back (λ z. batch_as z.0 z.1) batch-back (r, b) (s, c) u.0 in
        (x.0, x.1, u.1)

    module _ (h : Handle) where
      pub release-result-unique : (r s : Result Unit Refusal) → kept_as r b ≡ release_call a h → kept_as s c ≡ release_call a h → (r ≡ s) × (b ≡ c)
      release-result-unique r s p q = both-one kept_back (λ z. kept_as z.0 z.1) kept-back (r, b) (s, c) (same p q)

      pub clone-result-unique : (memory l m : List ℕ) (r s : Result Handle Refusal)
          → cloned_as (taken_as r b) l ≡ clone_call a h memory → cloned_as (taken_as s c) m ≡ clone_call a h memory → (r ≡ s) × (b ≡ c) × (l ≡ m)
      clone-result-unique memory l m r s p q =
          let u = clone-unique a h memory (taken_as r b) (taken_as s c) l m p q in
          let x = both-one taken_back (λ z. taken_as z.0 z.1) taken-back (r, b) (s, c) u.0 in
          (x.0, x.1, u.1)

    module _ (q : ℕ) (ring addresses l m : List ℕ) where
      pub start-result-unique : (r s : Result ℕ Refusal)
          → started_as (start_as r b) l ≡ start_call a q ring addresses → started_as (start_as s c) m ≡ start_call a q ring addresses → (r ≡ s) × (b ≡ c) × (l ≡ m)
      start-result-unique r s p o =
          let u = start-unique a q ring addresses (start_as r b) (start_as s c) l m p o in
          let x = both-one start_back (λ z. start_as z.0 z.1) start-back (r, b) (s, c) u.0 in
          (x.0, x.1, u.1)

      pub receive-result-unique : (n : ℕ) (lists k j : Handles) (r s : Result received.Received Refusal)
          → received_as (receive_as r b) l k ≡ receive_call a q ring addresses n lists → received_as (receive_as s c) m j ≡ receive_call a q ring addresses n lists
          → (r ≡ s) × (b ≡ c) × (l ≡ m) × (k ≡ j)
      receive-result-unique n lists k j r s p o =
          let u = receive-unique a q ring addresses n lists (receive_as r b) (receive_as s c) l m k j p o in
          let x = both-one received_back (λ z. receive_as z.0 z.1) received-back (r, b) (s, c) u.0 in
          (x.0, x.1, u.1, u.2)

      pub send-result-unique : (lists : Handles) (r s : Result sent.Sent Refusal)
          → sent_as (send_as r b) l ≡ send_call a q ring addresses lists → sent_as (send_as s c) m ≡ send_call a q ring addresses lists → (r ≡ s) × (b ≡ c) × (l ≡ m)
      send-result-unique lists r s p o =
          let u = send-unique a q ring addresses lists (send_as r b) (send_as s c) l m p o in
          let x = both-one sent_back (λ z. send_as z.0 z.1) sent-back (r, b) (s, c) u.0 in
          (x.0, x.1, u.1)
