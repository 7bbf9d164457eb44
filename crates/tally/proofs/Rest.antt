-- What is left of a list that a loop goes over: its first is the next element, and the others are left after it.
use Prim.Native.Nat.{ℕ, zero, suc, ◌+◌, ◌<◌}
use mathlib.Core.Path.{◌≡◌, sym, ap}
use mathlib.Core.List.{List, [], ◌∷◌}
use lib.ListN.{length, get_or, drop}
use native.Mathlib.Omega.{arith}

pub at-rest : (n : ℕ) (l : List ℕ) {x : ℕ} {r : List ℕ} → drop n l ≡ x ∷ r → (n < length l) × (x ≡ get_or l n 0) × (r ≡ drop (n + 1) l)
at-rest zero [] e = absurd (omega (arith, ap length e))
at-rest (suc n) [] e = absurd (omega (arith, ap length e))
at-rest zero (y ∷ l) e = (omega arith, sym (ap (λ k. get_or k 0 0) e), sym (ap (λ k. drop 1 k) e))
at-rest (suc n) (y ∷ l) e =
    let i = at-rest n l e in
    let more : suc n + 1 ≡ suc (n + 1) = omega arith in
    (omega (arith, i.0), i.1, rw more i.2)
