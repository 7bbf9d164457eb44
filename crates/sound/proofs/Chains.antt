-- What a chain that tests every number below n answers, in the words of Test.antt.
use Rattle.std.proofs.Common.{◌≡◌, ℕ, zero, suc, ◌+◌, ◌<◌, Bool, true, false, ◌&&◌, ◌||◌, refl, sym, ap, ◌∙◌, arith}
use Rattle.std.specs.List.{list_all, list_any, range_with_len}
use Rattle.laws.specs.Test.{both, either, every, some}

module _ (test : ℕ → Bool) where
  -- the first number may be tested first
  every-front : (n : ℕ) → every (suc n) test ≡ both (test 0) (every n (λ k. test (suc k)))
  unfolding every
  every-front zero = by-case (test 0)
    where
      by-case : (b : Bool) → b ≡ both b true
      by-case true = refl
      by-case false = refl
  every-front (suc n) = rw (every-front n) (by-case (test 0) (every n (λ k. test (suc k))))
    where
      by-case : (a b : Bool) → both (both a b) (test (suc n)) ≡ both a (both b (test (suc n)))
      by-case true b = refl
      by-case false b = refl

  some-front : (n : ℕ) → some (suc n) test ≡ either (test 0) (some n (λ k. test (suc k)))
  unfolding some
  some-front zero = by-case (test 0)
    where
      by-case : (b : Bool) → b ≡ either b false
      by-case true = refl
      by-case false = refl
  some-front (suc n) = rw (some-front n) (by-case (test 0) (some n (λ k. test (suc k))))
    where
      by-case : (a b : Bool) → either (either a b) (test (suc n)) ≡ either a (either b (test (suc n)))
      by-case true b = refl
      by-case false b = refl

-- a chain's test of a number is that of the number's place in the range
abbrev Same : ℕ → ℕ → (ℕ → Bool) → (ℕ → Bool) → Type 0
Same n from test at = (k : ℕ) → k < n → test (from + k) ≡ at k

module _ (n from : ℕ) (test at : ℕ → Bool) (same : Same (suc n) from test at) where
  first : test from ≡ at 0
  first = ap test (omega arith) ∙ same 0 (omega arith)

  others : Same n (from + 1) test (λ k. at (suc k))
  others k below = ap test (omega arith) ∙ same (suc k) (omega arith)

every-from : (n from : ℕ) (test at : ℕ → Bool) → Same n from test at → list_all test (range_with_len from n) ≡ every n at
unfolding every
every-from zero from test at same = refl
every-from (suc n) from test at same =
    by-case (test from) _ ∙ rw (first n from test at same, every-from n (from + 1) test (λ k. at (suc k)) (others n from test at same)) (sym (every-front at n))
  where
    by-case : (a b : Bool) → a && b ≡ both a b
    by-case true b = refl
    by-case false b = refl

some-from : (n from : ℕ) (test at : ℕ → Bool) → Same n from test at → list_any test (range_with_len from n) ≡ some n at
unfolding some
some-from zero from test at same = refl
some-from (suc n) from test at same =
    by-case (test from) _ ∙ rw (first n from test at same, some-from n (from + 1) test (λ k. at (suc k)) (others n from test at same)) (sym (some-front at n))
  where
    by-case : (a b : Bool) → a || b ≡ either a b
    by-case true b = refl
    by-case false b = refl

pub all-every : (n : ℕ) (test : ℕ → Bool) → list_all test (range_with_len 0 n) ≡ every n test
all-every n test = every-from n 0 test test (λ k below. ap test (omega arith))

pub any-some : (n : ℕ) (test at : ℕ → Bool) → ((k : ℕ) → k < n → test k ≡ at k) → list_any test (range_with_len 0 n) ≡ some n at
any-some n test at same = some-from n 0 test at (λ k below. ap test (omega arith) ∙ same k below)
