-- The test and the facts of soundness say the same, and what they say of where ids stand is `Standing`.
use Prim.Native.Nat.{ℕ, ◌+◌, ◌*◌, ◌^◌, ◌≤◌, ◌<◌}
use mathlib.Core.Path.{◌≡◌, refl, ap}
use mathlib.Core.Bool.{Bool, true, false}
use mathlib.Core.List.{List, [], ◌∷◌}
use lib.ListN.{get_or}
use lib.Dec.{eqb, ltb, leb}
use native.Mathlib.Decide.{ℕ_discrete, dec_lt}
use native.Mathlib.Omega.{arith}
use borrow.Author.Tests.{eq-eqb, ne_eqb, lt-ltb, le-ltb, le-leb, eqb-true, ltb-true, leb-true}
use Rattle.limits.specs.Limits.{ENTRIES, SMALLEST-SIZE, SIZE-DOUBLINGS, RECEIVES, SENDS, SLOTS, HEADROOM}
use Rattle.laws.specs.Test.{pick, both, either, every}
use Rattle.laws.specs.Occurs.{ind, occurs}
use Rattle.laws.proofs.Test.{both_left, both_right, both_true, every-at, every-all, some_at, some-found}
use Rattle.pool.specs.declared.Handle.{Handle}
use Rattle.pool.specs.Hands.{HAND-OUT}
use Rattle.rules.specs.declared.Account.{Account}
use Rattle.rules.specs.Account.{hand_of, list_of}
use Rattle.rules.specs.Sound.{is_size, in_range, InRange, is_good, Good, Indices, indices, ring_placed, queues_placed, all_below, hands, in_place, sound, Sound, Full}
use Rattle.rules.proofs.Standing.{in_hand, Standing}
use Rattle.rules.proofs.Lists.{list-free, list-out, list-beyond}

-- ---- numbers

module _ (entries size receives sends : ℕ) where
  pub in-range-means : in_range entries size receives sends ≡ true → InRange entries size receives sends
  unfolding in_range is_size
  in-range-means e =
      let count = both_left (both (ltb 0 entries) (leb entries ENTRIES)) _ e in
      let rest = both_right (both (ltb 0 entries) (leb entries ENTRIES)) _ e in
      let (k, few, power) = some-found (λ k. eqb size (SMALLEST-SIZE * 2 ^ k)) (SIZE-DOUBLINGS + 1) (both_left (is_size size) _ rest) in
      let queues = both_right (is_size size) _ rest in
      record {
        some-entries = ltb-true 0 entries (both_left (ltb 0 entries) _ count);
        few-entries = leb-true entries ENTRIES (both_right (ltb 0 entries) _ count);
        doublings = k;
        few-doublings = omega arith;
        power = eqb-true size (SMALLEST-SIZE * 2 ^ k) power;
        few-receives = leb-true receives RECEIVES (both_left (leb receives RECEIVES) _ queues);
        few-sends = leb-true sends SENDS (both_right (leb receives RECEIVES) _ queues);
      }

  pub means-in-range : InRange entries size receives sends → in_range entries size receives sends ≡ true
  unfolding in_range is_size
  means-in-range m =
      both_true
      (both_true (lt-ltb 0 entries m.some-entries) (le-leb entries ENTRIES m.few-entries))
      (both_true
      (some_at (λ k. eqb size (SMALLEST-SIZE * 2 ^ k)) (SIZE-DOUBLINGS + 1) m.doublings (omega (arith, m.few-doublings)) (eq-eqb size _ m.power))
      (both_true (le-leb receives RECEIVES m.few-receives) (le-leb sends SENDS m.few-sends)))

-- ---- handles

module _ (a : Account) (h : Handle) where
  pub good-means : is_good a h ≡ true → Good a h
  unfolding is_good
  good-means e =
      let e1 = both_right (eqb h.pool a.pool) _ e in
      let e2 = both_right (ltb h.id a.entries) _ e1 in
      let e3 = both_right (eqb (hand_of a h.id) HAND-OUT) _ e2 in
      record {
        own = eqb-true h.pool a.pool (both_left (eqb h.pool a.pool) _ e);
        known = ltb-true h.id a.entries (both_left (ltb h.id a.entries) _ e1);
        out = eqb-true (hand_of a h.id) HAND-OUT (both_left (eqb (hand_of a h.id) HAND-OUT) _ e2);
        offset = both_left (either (eqb h.offset 0) (eqb h.offset HEADROOM)) _ e3;
        inside = leb-true (h.offset + h.length) a.size (both_right (either (eqb h.offset 0) (eqb h.offset HEADROOM)) _ e3);
      }

-- ---- indices

module _ (clean tx : ℕ) where
  pub indices-mean : indices clean tx ≡ true → Indices clean tx
  unfolding indices
  indices-mean e =
      let rest = both_right (ltb clean SLOTS) _ e in
      record {
        clean-below = ltb-true clean SLOTS (both_left (ltb clean SLOTS) _ e);
        tx-below = ltb-true tx SLOTS (both_left (ltb tx SLOTS) _ rest);
        whole-batches = eqb-true _ 0 (both_right (ltb tx SLOTS) _ rest);
      }

  pub means-indices : Indices clean tx → indices clean tx ≡ true
  unfolding indices
  means-indices m =
      both_true (lt-ltb clean SLOTS m.clean-below) (both_true (lt-ltb tx SLOTS m.tx-below) (eq-eqb _ 0 m.whole-batches))

module _ (n : ℕ) (clean tx : List ℕ) where
  pub queues-mean : queues_placed n clean tx ≡ true → (q : ℕ) → q < n → Indices (get_or clean q 0) (get_or tx q 0)
  unfolding queues_placed
  queues-mean e q below = indices-mean _ _ (every-at (λ k. indices (get_or clean k 0) (get_or tx k 0)) n q below e)

  means-queues : ((q : ℕ) → q < n → Indices (get_or clean q 0) (get_or tx q 0)) → queues_placed n clean tx ≡ true
  unfolding queues_placed
  means-queues m = every-all _ n (λ q l. means-indices _ _ (m q l))

-- ---- lists that hold only ids

below-means : (n : ℕ) (l : List ℕ) → all_below n l ≡ true → (x : ℕ) → n ≤ x → occurs x l ≡ 0
below-means n [] e x out = refl
below-means n (y ∷ l) e x out =
    let first = ltb-true y n (both_left (ltb y n) _ e) in
    rw (ne_eqb x y (λ s. omega arith), below-means n l (both_right (ltb y n) _ e) x out)

means-below : (n : ℕ) (l : List ℕ) → ((x : ℕ) → n ≤ x → occurs x l ≡ 0) → all_below n l ≡ true
means-below n [] h = refl
means-below n (y ∷ l) h = both_true (first (dec_lt y n)) (means-below n l (λ x out. omega (arith, h x out)))
  where
    first : Dec (y < n) → ltb y n ≡ true
    first (yes below) = lt-ltb y n below
    first (no out) = absurd (omega (arith, rw (eq-eqb y y refl) at (h y (omega arith))))

-- ---- the receive ring

module _ (started : Bool) (rx receives : ℕ) where
  pub ring-means : ring_placed started rx receives ≡ true → (rx < SLOTS) × (started ≡ true → 0 < receives) × (started ≡ false → rx ≡ 0)
  unfolding ring_placed
  ring-means e =
      let rest = both_right (ltb rx SLOTS) _ e in
      (ltb-true rx SLOTS (both_left (ltb rx SLOTS) _ e), λ on. ltb-true 0 receives (rw on at rest), λ off. eqb-true rx 0 (rw off at rest))

  pub means-ring : rx < SLOTS → (started ≡ true → 0 < receives) → (started ≡ false → rx ≡ 0) → ring_placed started rx receives ≡ true
  unfolding ring_placed
  means-ring below on off = both_true (lt-ltb rx SLOTS below) (by-case started refl)
    where
      by-case : (b : Bool) → started ≡ b → pick started (ltb 0 receives) (eqb rx 0) ≡ true
      by-case true e = rw e (lt-ltb 0 receives (on e))
      by-case false e = rw e (eq-eqb rx 0 (off e))

-- ---- soundness

module _ (a : Account) where
  module _ (x : ℕ) where
    -- the test of one hand's list
    listed : ℕ → Bool
    listed h = either (eqb h HAND-OUT) (eqb (occurs x (list_of a h)) (ind (eqb (hand_of a x) h)))

    place-means : in_place a x ≡ true → (h : ℕ) → (h ≡ HAND-OUT → ⊥) → occurs x (list_of a h) ≡ ind (eqb (hand_of a x) h)
    unfolding listed
    place-means e h out = by-case (dec_lt h (hands a))
      where
        by-case : Dec (h < hands a) → occurs x (list_of a h) ≡ ind (eqb (hand_of a x) h)
        by-case (yes known) =
            eqb-true _ _ (rw (ne_eqb h HAND-OUT out) at (every-at listed (hands a) h known (both_right (ltb (hand_of a x) (hands a)) _ e)))
        by-case (no beyond) =
            let own = ltb-true (hand_of a x) (hands a) (both_left (ltb (hand_of a x) (hands a)) _ e) in
            rw (list-beyond a h (omega arith), ne_eqb (hand_of a x) h (λ s. omega arith))

    means-place : ((h : ℕ) → (h ≡ HAND-OUT → ⊥) → occurs x (list_of a h) ≡ ind (eqb (hand_of a x) h)) → in_place a x ≡ true
    unfolding listed
    means-place m = both_true (known (dec_lt (hand_of a x) (hands a))) (every-all listed (hands a) (λ h l. by-case h (ℕ_discrete h HAND-OUT)))
      where
        known : Dec (hand_of a x < hands a) → ltb (hand_of a x) (hands a) ≡ true
        known (yes own) = lt-ltb (hand_of a x) (hands a) own
        known (no beyond) =
            absurd (omega (arith, rw (list-beyond a (hand_of a x) (omega arith), eq-eqb (hand_of a x) (hand_of a x) refl) at (m (hand_of a x) (λ s. omega arith))))

        by-case : (h : ℕ) → Dec (h ≡ HAND-OUT) → listed h ≡ true
        by-case h (yes e) = rw (eq-eqb h HAND-OUT e)
        by-case h (no ne) = rw (ne_eqb h HAND-OUT ne) (eq-eqb _ _ (m h ne))

  pub sound-means : sound a ≡ true → Sound a
  unfolding sound
  sound-means e =
      let numbers = both_left (in_range a.entries a.size a.receives a.sends) _ e in
      let e1 = both_right (in_range a.entries a.size a.receives a.sends) _ e in
      let deep = both_left (leb a.free.depth a.entries) _ e1 in
      let e2 = both_right (leb a.free.depth a.entries) _ e1 in
      let below = both_left (every (hands a) (λ hand. all_below a.entries (list_of a hand))) _ e2 in
      let e3 = both_right (every (hands a) (λ hand. all_below a.entries (list_of a hand))) _ e2 in
      let ring = ring-means a.started a.rx a.receives (both_left (ring_placed a.started a.rx a.receives) _ e3) in
      let e4 = both_right (ring_placed a.started a.rx a.receives) _ e3 in
      let queues = both_left (queues_placed a.sends a.clean a.tx) _ e4 in
      let all = both_right (queues_placed a.sends a.clean a.tx) _ e4 in
      record {
        numbers = in-range-means a.entries a.size a.receives a.sends numbers;
        free-count = leb-true a.free.depth a.entries deep;
        ids-below = λ x h out. by-case below x h out (dec_lt h (hands a));
        rx-below = ring.0;
        queues = queues-mean a.sends a.clean a.tx queues;
        started-on = ring.1;
        not-started = ring.2;
        placed = λ x h l out. place-means x (every-at (in_place a) a.entries x l all) h out;
      }
    where
      by-case : every (hands a) (λ hand. all_below a.entries (list_of a hand)) ≡ true → (x h : ℕ) → a.entries ≤ x → Dec (h < hands a)
          → occurs x (list_of a h) ≡ 0
      by-case all x h out (yes known) =
          below-means a.entries (list_of a h) (every-at (λ k. all_below a.entries (list_of a k)) (hands a) h known all) x out
      by-case all x h out (no beyond) = rw (list-beyond a h (omega arith))

  pub means-sound : Sound a → sound a ≡ true
  unfolding sound
  means-sound m =
      both_true (means-in-range a.entries a.size a.receives a.sends m.numbers)
      (both_true (le-leb a.free.depth a.entries m.free-count)
      (both_true (every-all _ (hands a) (λ h l. means-below a.entries (list_of a h) (λ x out. m.ids-below x h out)))
      (both_true (means-ring a.started a.rx a.receives m.rx-below m.started-on m.not-started)
      (both_true (means-queues a.sends a.clean a.tx m.queues)
      (every-all _ a.entries (λ x l. means-place x (λ h out. m.placed x h l out)))))))

  -- ---- where the ids of a sound account stand

  -- how often x stands in the list of hand h
  abbrev pub count_of : ℕ → ℕ → ℕ
  count_of h x = occurs x (list_of a h)

  pub standing : Full a → Sound a → Standing a.entries a.free a.hands count_of
  standing full m =
      record {
        few = m.numbers.few-entries;
        stack = full.stack;
        record-of-all = full.hands;
        deep = m.free-count;
        on_stack = λ x. ap (occurs x) (list-free a);
        placed = λ h x out. by-case h x out (dec_lt x a.entries);
      }
    where
      by-case : (h x : ℕ) → (h ≡ HAND-OUT → ⊥) → Dec (x < a.entries) → count_of h x ≡ in_hand a.entries a.hands h x
      by-case h x out (yes below) = rw (lt-ltb x a.entries below) (m.placed x h below out)
      by-case h x out (no past) = rw (le-ltb x a.entries (omega arith)) (m.ids-below x h (omega arith))

  -- and an account whose ids stand so is sound, if its numbers and indices are right
  pub sound-of : InRange a.entries a.size a.receives a.sends → a.rx < SLOTS
      → ((q : ℕ) → q < a.sends → Indices (get_or a.clean q 0) (get_or a.tx q 0))
      → (a.started ≡ true → 0 < a.receives) → (a.started ≡ false → a.rx ≡ 0)
      → Standing a.entries a.free a.hands count_of → Sound a
  sound-of numbers rx queues on off s =
      record {
        numbers = numbers;
        free-count = s.deep;
        ids-below = λ x h out. by-case x h out (ℕ_discrete h HAND-OUT);
        rx-below = rx;
        queues = queues;
        started-on = on;
        not-started = off;
        placed = λ x h l out. rw (lt-ltb x a.entries l) at (s.placed h x out);
      }
    where
      by-case : (x h : ℕ) → a.entries ≤ x → Dec (h ≡ HAND-OUT) → occurs x (list_of a h) ≡ 0
      by-case x h out (yes e) = rw (e, list-out a)
      by-case x h out (no ne) = rw (le-ltb x a.entries out) at (s.placed h x ne)
