-- The rates as a list: their total is std's sum, and what a slide leaves. Assumes nothing.
use Rattle.std.proofs.Common.{ℕ, suc, ◌+◌, ◌-◌, ◌*◌, ◌^◌, ◌≤◌, ◌<◌, ◌≡◌, refl, sym, List, [], ◌∷◌, ◌++◌, length, get_or, set, take, drop, length-drop, zero-add, arith, Fits, w32}
use Rattle.std.specs.List.{sum, copy_within}
use Rattle.std.proofs.Math.Seq.{length-take-le, drop-cons, append_snoc, set_at}
use Rattle.std.proofs.lemmas.Grind.{common_steps}
use Rattle.std.proofs.lemmas.List.{drop-take}
use Rattle.std.proofs.lemmas.List.Recursion.{is_sum_by}
use Rattle.window.specs.Window.{total, slid}

-- ---- totals

-- std's sum is the same
pub total_is_sum : (l : List ℕ) → total l ≡ sum l
unfolding total
total_is_sum = is_sum_by total (λ x. x) refl (λ _ _. refl)

-- numbers below 2^32 add up to little
pub total_small : (l : List ℕ) → ((k : ℕ) → Fits w32 (get_or l k 0)) → total l ≤ length l * 2 ^ 32
unfolding total
total_small [] fits = omega arith
total_small (x ∷ l) fits = omega (arith, fits 0, total_small l (λ k. fits (suc k)))

-- ---- a slide

module _ (rates : List ℕ) (n : ℕ) (some : 0 < n) (few : n ≤ length rates) where
  -- the oldest is a part of the total
  pub oldest_within : get_or rates 0 0 ≤ total (take n rates)
  oldest_within = grind (arith, common_steps, total_is_sum)

  length-kept : length (drop 1 (take n rates)) ≡ n - 1
  length-kept = simp (length-drop, length-take-le n rates few)

  slid-flat : (x : ℕ) → slid n x rates ≡ drop 1 (take n rates) ++ (x ∷ drop n rates)
  unfolding slid
  slid-flat x = append_snoc (drop 1 (take n rates)) x (drop n rates)

  -- the last of the n places is stored anew
  slid-set : (x y : ℕ) → set (slid n x rates) (n - 1) y ≡ slid n y rates
  slid-set x y = rw (slid-flat x, slid-flat y) (set_at (drop 1 (take n rates)) x (drop n rates) y (n - 1) length-kept)

  -- a copy to the front of all but the oldest leaves the last of the n places as it was, and there the new one is stored
  pub copied_slid : (y : ℕ) → set (copy_within rates 1 n 0) (n - 1) y ≡ slid n y rates
  copied_slid y =
      let whole : 1 + (n - 1) ≡ n = omega arith in
      let next : suc (n - 1) ≡ n = omega arith in
      let front : take (n - 1) (drop 1 rates) ≡ drop 1 (take n rates) = rw whole at (sym (drop-take 1 (n - 1) rates)) in
      let back : drop (0 + (n - 1)) rates ≡ get_or rates (n - 1) 0 ∷ drop n rates = rw (zero-add) (rw next at (drop-cons rates (n - 1) 0 (omega arith))) in
      rw (front, back, ← slid-flat (get_or rates (n - 1) 0)) (slid-set (get_or rates (n - 1) 0) y)
