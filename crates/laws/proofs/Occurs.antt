-- Counting in lists: what an append, a store, a pop and a push change of how often a number stands in one.
use Prim.Native.Nat.{ℕ, zero, suc, ◌+◌, ◌≤◌, ◌<◌}
use mathlib.Core.Path.{◌≡◌, refl, ap}
use mathlib.Core.Bool.{Bool, true, false}
use mathlib.Core.List.{List, [], ◌∷◌, ◌++◌}
use lib.ListN.{length, get_or, set, take}
use lib.Seq.{get_or-set_same, get_or-set_other, take-suc, take-suc-set}
use lib.Dec.{eqb, leb, ltb}
use native.Mathlib.Decide.{ℕ_discrete, dec_lt}
use native.Mathlib.Numerals.{add-one}
use native.Mathlib.Omega.{arith}
use borrow.Author.Tests.{eq-eqb, ne_eqb, le-leb, lt-leb, lt-ltb, le-ltb}
use Rattle.laws.specs.Test.{pick, both}
use Rattle.laws.specs.Occurs.{ind, occurs, up_from}

pub ind-le : (b : Bool) → ind b ≤ 1
ind-le true = omega arith
ind-le false = omega arith

pub occurs-append : (x : ℕ) (a b : List ℕ) → occurs x (a ++ b) ≡ occurs x a + occurs x b
occurs-append x [] b = omega arith
occurs-append x (y ∷ a) b = omega (arith, occurs-append x a b)

-- a store: what stood there goes, what is stored comes
pub occurs-set : (x : ℕ) (l : List ℕ) (i a : ℕ) → i < length l
    → occurs x (set l i a) + ind (eqb x (get_or l i 0)) ≡ occurs x l + ind (eqb x a)
occurs-set x [] i a h = omega arith
occurs-set x (y ∷ l) zero a h = omega arith
occurs-set x (y ∷ l) (suc i) a h = omega (arith, occurs-set x l i a (omega arith))

-- what stands at a place stands in the list
pub occurs-at : (l : List ℕ) (i : ℕ) → i < length l → 1 ≤ occurs (get_or l i 0) l
occurs-at [] i h = omega arith
occurs-at (y ∷ l) zero h = rw (eq-eqb y y refl) (omega arith)
occurs-at (y ∷ l) (suc i) h = omega (arith, occurs-at l i (omega arith))

pub occurs-le : (x : ℕ) (l : List ℕ) → occurs x l ≤ length l
occurs-le x [] = omega arith
occurs-le x (y ∷ l) = omega (arith, occurs-le x l, ind-le (eqb x y))

-- the first n + 1 of a list are the first n and the one after them
pub occurs-more : (x : ℕ) (l : List ℕ) (n : ℕ) → n < length l
    → occurs x (take (n + 1) l) ≡ occurs x (take n l) + ind (eqb x (get_or l n 0))
occurs-more x l n h =
    let split : occurs x (take (n + 1) l) ≡ occurs x (take n l ++ (get_or l n 0 ∷ [])) = rw (add-one, take-suc l n 0) in
    omega (arith, split, occurs-append x (take n l) (get_or l n 0 ∷ []))

-- the same where the one after them has just been stored
pub occurs-stored : (x : ℕ) (l : List ℕ) (n a : ℕ) → n < length l
    → occurs x (take (n + 1) (set l n a)) ≡ occurs x (take n l) + ind (eqb x a)
occurs-stored x l n a h =
    let split : occurs x (take (n + 1) (set l n a)) ≡ occurs x (take n l ++ (a ∷ [])) = rw (add-one, take-suc-set l n a) in
    omega (arith, split, occurs-append x (take n l) (a ∷ []))

-- an element after a store, by a test
pub get_or-set-pick : (l : List ℕ) (i x a : ℕ) → x < length l → get_or (set l i a) x 0 ≡ pick (eqb x i) a (get_or l x 0)
get_or-set-pick l i x a h = by-case (ℕ_discrete x i)
  where
    by-case : Dec (x ≡ i) → get_or (set l i a) x 0 ≡ pick (eqb x i) a (get_or l x 0)
    by-case (yes e) = rw (eq-eqb x i e, e) (get_or-set_same l i a 0 (rw e at h))
    by-case (no ne) = rw (ne_eqb x i ne) (get_or-set_other l i x a 0 ne)

-- ---- the numbers from a first one up

pub length-up_from : (first n : ℕ) → length (up_from first n) ≡ n
unfolding up_from
length-up_from first zero = refl
length-up_from first (suc n) = ap suc (length-up_from (first + 1) n)

pub get_or-up_from : (first n i : ℕ) → i < n → get_or (up_from first n) i 0 ≡ first + i
unfolding up_from
get_or-up_from first zero i h = absurd (omega arith)
get_or-up_from first (suc n) zero h = omega arith
get_or-up_from first (suc n) (suc i) h = omega (arith, get_or-up_from (first + 1) n i (omega arith))

-- fewer of them are the same from the start
pub take-up_from : (first n m : ℕ) → n ≤ m → take n (up_from first m) ≡ up_from first n
unfolding up_from
take-up_from first zero m h = refl
take-up_from first (suc n) zero h = absurd (omega arith)
take-up_from first (suc n) (suc m) h = ap (λ l. first ∷ l) (take-up_from (first + 1) n m (omega arith))

-- each of them stands there once
pub occurs-up_from : (x first n : ℕ) → occurs x (up_from first n) ≡ ind (both (leb first x) (ltb x (first + n)))
unfolding up_from
occurs-up_from x first zero = by-case (dec_lt x first)
  where
    by-case : Dec (x < first) → 0 ≡ ind (both (leb first x) (ltb x (first + 0)))
    by-case (yes below) = rw (lt-leb first x below)
    by-case (no above) = rw (le-leb first x (omega arith), le-ltb x (first + 0) (omega arith))
occurs-up_from x first (suc n) = rw (occurs-up_from x (first + 1) n) (by-case (ℕ_discrete x first))
  where
    by-case : Dec (x ≡ first)
        → ind (eqb x first) + ind (both (leb (first + 1) x) (ltb x (first + 1 + n))) ≡ ind (both (leb first x) (ltb x (first + suc n)))
    by-case (yes e) =
        rw (eq-eqb x first e, lt-leb (first + 1) x (omega arith), le-leb first x (omega arith), lt-ltb x (first + suc n) (omega arith))
    by-case (no ne) = rw (ne_eqb x first ne, later (dec_lt x first), moved) (omega arith)
      where
        moved : ltb x (first + 1 + n) ≡ ltb x (first + suc n)
        moved = let e : first + 1 + n ≡ first + suc n = omega arith in rw e

        later : Dec (x < first) → leb (first + 1) x ≡ leb first x
        later (yes below) = rw (lt-leb (first + 1) x (omega arith), lt-leb first x below)
        later (no above) = rw (le-leb (first + 1) x (omega (arith, ne)), le-leb first x (omega arith))
