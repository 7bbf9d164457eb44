-- What each hand has, by an account's numbers, is what the counts of document 01 say. The recorded hands are counted twice: there is one for
-- each entry, and each is free, receive, out or a send queue's; and as many are a hand's as its list is long.
use Prim.Native.Nat.{ℕ, zero, suc, ◌+◌, ◌≤◌, ◌<◌}
use mathlib.Core.Path.{◌≡◌, refl, sym, ap, ◌∙◌}
use mathlib.Core.Bool.{Bool, true, false}
use mathlib.Core.List.{List, map}
use lib.ListN.{length, get_or, take}
use lib.Seq.{length-take-le}
use lib.Dec.{eqb, ltb}
use native.Mathlib.Decide.{ℕ_discrete}
use native.Mathlib.Numerals.{add-one}
use native.Mathlib.Omega.{arith}
use borrow.Author.Tests.{eq-eqb, ne_eqb, lt-ltb, le-ltb}
use Rattle.limits.specs.Limits.{SENDS}
use Rattle.laws.specs.Test.{pick}
use Rattle.laws.specs.Occurs.{ind, occurs, sum_to, up_from}
use Rattle.laws.proofs.Occurs.{occurs-more}
use Rattle.laws.proofs.Sum.{sum_same, sum-counts}
use Rattle.pool.specs.Hands.{HAND-FREE, HAND-RECEIVE, HAND-OUT, HAND-SEND}
use Rattle.rules.specs.declared.Account.{Account}
use Rattle.rules.specs.Account.{receive_list, pending, list_of}
use Rattle.rules.specs.Sound.{Sound, Full}
use Rattle.rules.specs.Refusals.{counts_verdict}
use Rattle.rules.specs.Packets.{counts_call}
use Rattle.rules.proofs.Lists.{list-free, list-receive, list-send, list-beyond, length-around}
use Rattle.rules.proofs.Sound.{means-sound}
use Rattle.tally.specs.Tally.{pending_of, receive_of, tally_of}

-- ---- sums

-- the first three terms, and the rest
sum-three : (n : ℕ) (f : ℕ → ℕ) → sum_to (HAND-SEND + n) f ≡ f 0 + f 1 + f 2 + sum_to n (λ q. f (HAND-SEND + q))
unfolding sum_to
sum-three zero f = omega arith
sum-three (suc n) f = let e : HAND-SEND + suc n ≡ suc (HAND-SEND + n) = omega arith in rw e (omega (arith, sum-three n f))

-- terms beyond a bound are none
sum_first : (n k : ℕ) (f : ℕ → ℕ) → k ≤ n → sum_to n (λ q. pick (ltb q k) (f q) 0) ≡ sum_to k f
unfolding sum_to
sum_first zero k f h = let e : k ≡ 0 = omega arith in rw e
sum_first (suc n) k f h = by-case (ℕ_discrete k (suc n)) (λ l. sum_first n k f l)
  where
    by-case : Dec (k ≡ suc n) → (k ≤ n → sum_to n (λ q. pick (ltb q k) (f q) 0) ≡ sum_to k f)
        → sum_to n (λ q. pick (ltb q k) (f q) 0) + pick (ltb n k) (f n) 0 ≡ sum_to k f
    by-case (yes e) less = rw e (sum_same (suc n) (λ q. pick (ltb q (suc n)) (f q) 0) f (λ q l. rw (lt-ltb q (suc n) l)))
    by-case (no ne) less = rw (less (omega (arith, ne)), le-ltb n k (omega (arith, ne))) (omega arith)

-- a list that has a term at each place
sum-listed : (f : ℕ → ℕ) → sum_to SENDS (λ q. get_or (map f (up_from 0 SENDS)) q 0) ≡ sum_to SENDS f
unfolding sum_to up_from
sum-listed f = refl

-- ---- recorded hands

same_test : (x y : ℕ) → eqb x y ≡ eqb y x
same_test x y = by-case (ℕ_discrete x y)
  where
    by-case : Dec (x ≡ y) → eqb x y ≡ eqb y x
    by-case (yes e) = rw (eq-eqb x y e, eq-eqb y x (sym e))
    by-case (no ne) = rw (ne_eqb x y ne, ne_eqb y x (λ e. ne (sym e)))

-- how often a number stands among the first n of a list, place by place
occurs-places : (h : ℕ) (l : List ℕ) (n : ℕ) → n ≤ length l → occurs h (take n l) ≡ sum_to n (λ x. ind (eqb (get_or l x 0) h))
unfolding sum_to
occurs-places h l zero few = refl
occurs-places h l (suc n) few =
    rw (← add-one) (omega (arith, occurs-more h l n (omega arith), occurs-places h l n (omega arith), ap ind (same_test h (get_or l n 0))))

module _ (a : Account) (full : Full a) (s : Sound a) where
  recorded : List ℕ
  recorded = take a.entries a.hands

  -- as many ids are recorded with a hand as its list is long
  of-hand : (h : ℕ) → (h ≡ HAND-OUT → ⊥) → occurs h recorded ≡ length (list_of a h)
  unfolding recorded
  of-hand h out =
      occurs-places h a.hands a.entries (omega (arith, full.hands, s.numbers.few-entries))
      ∙ sum_same a.entries _ _ (λ x below. sym (s.placed x h below out))
      ∙ sum-counts a.entries (list_of a h) (λ x past. s.ids-below x h past)

  -- how long each list is
  free-long : length (list_of a HAND-FREE) ≡ a.free.depth
  free-long = ap length (list-free a) ∙ length-take-le a.free.depth a.free.ids (omega (arith, full.stack, s.free-count, s.numbers.few-entries))

  ring_long : length (receive_list a) ≡ receive_of a
  ring_long = by-case a.started refl
    where
      by-case : (b : Bool) → a.started ≡ b → length (receive_list a) ≡ receive_of a
      by-case true e = rw e full.slots
      by-case false e = rw e

  queue_long : (q : ℕ) → q < a.sends → length (list_of a (HAND-SEND + q)) ≡ pending a q
  queue_long q below = ap length (list-send a q below) ∙ length-around a.sent q _ _

  -- every entry's hand is free, receive, out or a send queue
  pub all-hands : a.entries ≡ a.free.depth + receive_of a + pending_of a.sends a.clean a.tx + occurs HAND-OUT (take a.entries a.hands)
  unfolding recorded pending_of
  all-hands =
      omega (
        arith,
        sum-counts (HAND-SEND + a.sends) recorded (λ h past. of-hand h (λ e. omega arith) ∙ ap length (list-beyond a h past)),
        length-take-le a.entries a.hands (omega (arith, full.hands, s.numbers.few-entries)),
        sum-three a.sends (λ h. occurs h recorded),
        of-hand HAND-FREE (λ e. omega arith) ∙ free-long,
        of-hand HAND-RECEIVE (λ e. omega arith) ∙ ap length (list-receive a) ∙ ring_long,
        sum_same a.sends (λ q. occurs (HAND-SEND + q) recorded) (λ q. pending a q) (λ q below. of-hand (HAND-SEND + q) (λ e. omega arith) ∙ queue_long q below),
      )

  -- the counts of a sound account are its tally
  pub counts-are :
      ((tally_of a).free ≡ (counts_call a).free)
      × ((tally_of a).receive ≡ (counts_call a).receive)
      × ((tally_of a).send ≡ sum_to SENDS (λ q. get_or (counts_call a).send q 0))
      × ((tally_of a).out ≡ (counts_call a).out)
  unfolding tally_of counts_call counts_verdict pending_of
  counts-are = rw (means-sound a s) (refl, sym ring_long, sym (sum-listed _ ∙ sum_first SENDS a.sends _ s.numbers.few-sends), omega (arith, all-hands))
