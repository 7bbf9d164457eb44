-- What tests mean: both of two, and one over a range. Each way out of a loop that tests has its law here.
use Prim.Native.Nat.{ℕ, zero, suc, ◌+◌, ◌<◌}
use mathlib.Core.Path.{◌≡◌, refl}
use mathlib.Core.Bool.{Bool, true, false}
use lib.Arith.{lt_of_le-ne}
use native.Mathlib.Decide.{ℕ_discrete}
use native.Mathlib.Numerals.{add-one}
use native.Mathlib.Omega.{arith}
use Rattle.laws.specs.Test.{both, either, every, some}

pub false-not-true : false ≡ true → ⊥
false-not-true e = let z : ◌≡◌ {A = ℕ} 0 1 = cc in omega arith

-- ---- two tests

pub both_false : (b : Bool) → both b false ≡ false
both_false true = refl
both_false false = refl

pub both-same : (b : Bool) → both b true ≡ b
both-same true = refl
both-same false = refl

pub both_left : (a b : Bool) → both a b ≡ true → a ≡ true
both_left true b e = refl
both_left false b e = e

pub both_right : (a b : Bool) → both a b ≡ true → b ≡ true
both_right true b e = e
both_right false b e = cc

pub both_true : {a b : Bool} → a ≡ true → b ≡ true → both a b ≡ true
both_true p q = rw (p, q)

pub either_true : (b : Bool) → either b true ≡ true
either_true true = refl
either_true false = refl

-- ---- every number below n

module _ (test : ℕ → Bool) where
  pub every_more : (i : ℕ) → every i test ≡ true → test i ≡ true → every (i + 1) test ≡ true
  unfolding every
  every_more i e h = rw (add-one, e, h)

  pub every-fails : (n i : ℕ) → i < n → test i ≡ false → every n test ≡ false
  unfolding every
  every-fails zero i h e = absurd (omega arith)
  every-fails (suc n) i h e = by-case (ℕ_discrete i n) (λ lt. every-fails n i lt e)
    where
      by-case : Dec (i ≡ n) → (i < n → every n test ≡ false) → both (every n test) (test n) ≡ false
      by-case (yes same) less = rw (← same, e) (both_false (every i test))
      by-case (no ne) less = rw (less (lt_of_le-ne (omega arith) ne))

  pub every-at : (n i : ℕ) → i < n → every n test ≡ true → test i ≡ true
  unfolding every
  every-at zero i h e = absurd (omega arith)
  every-at (suc n) i h e = by-case (ℕ_discrete i n) (λ lt. every-at n i lt (both_left (every n test) (test n) e))
    where
      by-case : Dec (i ≡ n) → (i < n → test i ≡ true) → test i ≡ true
      by-case (yes same) less = rw same (both_right (every n test) (test n) e)
      by-case (no ne) less = less (lt_of_le-ne (omega arith) ne)

  pub every-all : (n : ℕ) → ((i : ℕ) → i < n → test i ≡ true) → every n test ≡ true
  unfolding every
  every-all zero h = refl
  every-all (suc n) h = rw (every-all n (λ i l. h i (omega arith)), h n (omega arith))

-- ---- some number below n

module _ (test : ℕ → Bool) where
  pub some_at : (n i : ℕ) → i < n → test i ≡ true → some n test ≡ true
  unfolding some
  some_at zero i h e = absurd (omega arith)
  some_at (suc n) i h e = by-case (ℕ_discrete i n) (λ lt. some_at n i lt e)
    where
      by-case : Dec (i ≡ n) → (i < n → some n test ≡ true) → either (some n test) (test n) ≡ true
      by-case (yes same) less = rw (← same, e) (either_true (some i test))
      by-case (no ne) less = rw (less (lt_of_le-ne (omega arith) ne))

  pub some-found : (n : ℕ) → some n test ≡ true → (i : ℕ) × (i < n) × (test i ≡ true)
  unfolding some
  some-found zero e = absurd (false-not-true e)
  some-found (suc n) e = by-case (some n test) refl (λ z. some-found n z)
    where
      by-case : (b : Bool) → some n test ≡ b → (some n test ≡ true → (i : ℕ) × (i < n) × (test i ≡ true))
          → (i : ℕ) × (i < suc n) × (test i ≡ true)
      by-case true z again = let (i, below, right) = again z in (i, omega arith, right)
      by-case false z again = (n, omega arith, rw z at e)
