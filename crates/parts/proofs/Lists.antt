-- A test that is computed over a whole list of any kind. Assumes nothing.
use Prim.Native.Nat.{ℕ, zero, suc, ◌<◌}
use mathlib.Core.Bool.{Bool, true, false}
use mathlib.Core.List.{List, [], ◌∷◌}
use native.Mathlib.Nat.{not-suc-le-zero, le_of_suc-le-suc}
use lib.Dec.{T}
use lib.ListN.{length, get_or}

module _ {A : Type 0} where
  -- what the test passes at each element of, it passes at any place
  abbrev pub all : (A → Bool) → List A → Bool
  all f [] = true
  all f (x ∷ xs) = elim (f x) [ true ↦ all f xs | false ↦ false ]

  pub all_cons : (f : A → Bool) (x : A) (xs : List A) → T (all f (x ∷ xs)) → T (f x) × T (all f xs)
  all_cons f x xs t = split (f x) t
    where
      split : (b : Bool) → T (elim b [ true ↦ all f xs | false ↦ false ]) → T b × T (all f xs)
      split true t = (tt, t)
      split false t = absurd t

  pub at_all : (f : A → Bool) (xs : List A) (d : A) → T (all f xs) → (k : ℕ) → k < length xs → T (f (get_or xs k d))
  at_all f [] d t k h = absurd (not-suc-le-zero h)
  at_all f (x ∷ xs) d t zero h = (all_cons f x xs t).0
  at_all f (x ∷ xs) d t (suc k) h = at_all f xs d (all_cons f x xs t).1 k (le_of_suc-le-suc h)
