-- How often a number stands in a list, and sums.
use Rattle.std.specs.Prelude.{ℕ, zero, suc, ◌+◌, Bool, true, false, List, [], ◌∷◌, eqb}

-- 1 where the test holds, else 0
abbrev pub ind : Bool → ℕ
ind true = 1
ind false = 0

-- how often x stands in a list
abbrev pub occurs : ℕ → List ℕ → ℕ
occurs x [] = 0
occurs x (y ∷ l) = ind (eqb x y) + occurs x l

-- the sum of what f gives below n
unfoldable pub sum_to : ℕ → (ℕ → ℕ) → ℕ
sum_to zero f = 0
sum_to (suc n) f = sum_to n f + f n

-- n numbers from a first one up
unfoldable pub up_from : ℕ → ℕ → List ℕ
up_from first zero = []
up_from first (suc n) = first ∷ up_from (first + 1) n
