-- Sums below a bound. A list that holds only numbers below n, each at most once, is at most n long: its length is the sum of its counts.
use Prim.Native.Nat.{ℕ, zero, suc, ◌+◌, ◌≤◌, ◌<◌}
use mathlib.Core.Path.{◌≡◌, refl, sym, ap, ◌∙◌}
use mathlib.Core.List.{List, [], ◌∷◌}
use lib.ListN.{length}
use lib.Dec.{eqb}
use native.Mathlib.Decide.{ℕ_discrete, dec_lt}
use native.Mathlib.Omega.{arith}
use borrow.Author.Tests.{eq-eqb, ne_eqb}
use lib.Arith.{lt_of_le-ne}
use Rattle.laws.specs.Occurs.{ind, occurs, sum_to}
use Rattle.laws.proofs.Occurs.{ind-le}

pub sum-add : (n : ℕ) (f g : ℕ → ℕ) → sum_to n (λ x. f x + g x) ≡ sum_to n f + sum_to n g
unfolding sum_to
sum-add zero f g = refl
sum-add (suc n) f g = omega (arith, sum-add n f g)

pub sum-le : (n : ℕ) (f g : ℕ → ℕ) → ((x : ℕ) → x < n → f x ≤ g x) → sum_to n f ≤ sum_to n g
unfolding sum_to
sum-le zero f g h = omega arith
sum-le (suc n) f g h = omega (arith, sum-le n f g (λ x l. h x (omega arith)), h n (omega arith))

pub sum_same : (n : ℕ) (f g : ℕ → ℕ) → ((x : ℕ) → x < n → f x ≡ g x) → sum_to n f ≡ sum_to n g
unfolding sum_to
sum_same zero f g h = refl
sum_same (suc n) f g h = omega (arith, sum_same n f g (λ x l. h x (omega arith)), h n (omega arith))

sum_zeros : (n : ℕ) → sum_to n (λ x. 0) ≡ 0
unfolding sum_to
sum_zeros zero = refl
sum_zeros (suc n) = omega (arith, sum_zeros n)

sum_ones : (n : ℕ) → sum_to n (λ x. 1) ≡ n
unfolding sum_to
sum_ones zero = refl
sum_ones (suc n) = omega (arith, sum_ones n)

-- one number below n is counted once
sum_one : (n y : ℕ) → y < n → sum_to n (λ x. ind (eqb x y)) ≡ 1
unfolding sum_to
sum_one zero y h = absurd (omega arith)
sum_one (suc n) y h = by-case (ℕ_discrete n y) (λ lt. sum_one n y lt)
  where
    by-case : Dec (n ≡ y) → (y < n → sum_to n (λ x. ind (eqb x y)) ≡ 1) → sum_to n (λ x. ind (eqb x y)) + ind (eqb n y) ≡ 1
    by-case (yes e) less =
        let none : sum_to n (λ x. ind (eqb x y)) ≡ 0
        = sum_same n (λ x. ind (eqb x y)) (λ x. 0) (λ x l. ap ind (ne_eqb x y (λ s. omega arith))) ∙ sum_zeros n in
        rw (none, eq-eqb n y e)
    by-case (no ne) less = rw (less (lt_of_le-ne (omega arith) (λ s. ne (sym s))), ne_eqb n y ne)

-- the sum where one term grows
pub sum-grows : (n q d : ℕ) (f g : ℕ → ℕ) → q < n → g q ≡ f q + d → ((x : ℕ) → x < n → (x ≡ q → ⊥) → g x ≡ f x) → sum_to n g ≡ sum_to n f + d
unfolding sum_to
sum-grows zero q d f g h grown same = absurd (omega arith)
sum-grows (suc n) q d f g h grown same =
    by-case (ℕ_discrete n q) (λ lt. sum-grows n q d f g lt grown (λ x l ne. same x (omega arith) ne))
  where
    by-case : Dec (n ≡ q) → (q < n → sum_to n g ≡ sum_to n f + d) → sum_to n g + g n ≡ sum_to n f + f n + d
    by-case (yes e) less =
        let before : sum_to n g ≡ sum_to n f = sum_same n g f (λ x l. same x (omega arith) (λ s. omega arith)) in
        let here : g n ≡ f n + d = rw (← e) at grown in
        omega arith
    by-case (no ne) less =
        omega (arith, less (lt_of_le-ne (omega arith) (λ s. ne (sym s))), same n (omega arith) ne)

-- the length of a list of numbers below n is the sum of its counts
pub sum-counts : (n : ℕ) (l : List ℕ) → ((x : ℕ) → n ≤ x → occurs x l ≡ 0) → sum_to n (λ x. occurs x l) ≡ length l
sum-counts n [] h = sum_zeros n
sum-counts n (y ∷ l) h =
    let rest : sum_to n (λ x. occurs x l) ≡ length l = sum-counts n l (λ x out. omega (arith, h x out)) in
    omega (arith, sum-add n (λ x. ind (eqb x y)) (λ x. occurs x l), sum_one n y (first (dec_lt y n)))
  where
    first : Dec (y < n) → y < n
    first (yes below) = below
    first (no out) = absurd (omega (arith, rw (eq-eqb y y refl) at (h y (omega arith))))

-- a list of numbers below n, each at most once, is at most n long
pub few : (n : ℕ) (l : List ℕ) → ((x : ℕ) → n ≤ x → occurs x l ≡ 0) → ((x : ℕ) → x < n → occurs x l ≤ 1) → length l ≤ n
few n l below once = omega (arith, sum-counts n l below, sum-le n (λ x. occurs x l) (λ x. 1) once, sum_ones n)

-- and shorter where one of them is missing
pub fewer : (n y : ℕ) (l : List ℕ) → y < n → occurs y l ≡ 0 → ((x : ℕ) → n ≤ x → occurs x l ≡ 0) → ((x : ℕ) → x < n → occurs x l ≤ 1)
    → length l < n
fewer n y l h missing below once = few n (y ∷ l) outside twice
  where
    outside : (x : ℕ) → n ≤ x → ind (eqb x y) + occurs x l ≡ 0
    outside x out = rw (ne_eqb x y (λ e. omega arith), below x out)

    twice : (x : ℕ) → x < n → ind (eqb x y) + occurs x l ≤ 1
    twice x l' = by-case (ℕ_discrete x y)
      where
        by-case : Dec (x ≡ y) → ind (eqb x y) + occurs x l ≤ 1
        by-case (yes e) = rw (e, missing) (omega (arith, ind-le (eqb y y)))
        by-case (no ne) = rw (ne_eqb x y ne) (omega (arith, once x l'))
