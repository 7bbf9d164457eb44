-- The table as the code has it, a pair of an address and a stride for each register, against the list of specs/. Assumes nothing.
use borrow.Author.Rules.{rules}
use Prim.Native.Nat.{ℕ, zero, suc, ◌+◌, ◌*◌, ◌<◌, ◌^◌}
use mathlib.Core.Path.{◌≡◌, refl}
use mathlib.Core.Bool.{false}
use mathlib.Core.List.{List, [], ◌∷◌}
use native.Mathlib.Omega.{arith}
use denote.Enum.Bare.{false_same}
use denote.Enum.Declared.{tag_of}
use lib.Dec.{eqb}
use lib.ListN.{get_or}
use Rattle.limits.specs.Limits.{QUEUES}
use Rattle.card.specs.contracts.Register.{the_type}
use Rattle.card.specs.declared.Entry.{Entry}
use Rattle.card.specs.declared.Register.{Register}
use Rattle.card.specs.Registers.{ROWS, registers, entry, register_row}
use Rattle.card.proofs.Rule.{scaled, entry-low}

abbrev pub paired : List ℕ → List Entry
paired [] = []
paired (n ∷ []) = (n, 0) ∷ []
paired (n ∷ m ∷ ns) = (n, m) ∷ paired ns

abbrev pub row_at : List ℕ → ℕ → Entry
row_at ns row = get_or (paired ns) row (0, 0)

twice : (k : ℕ) → 2 * suc k ≡ suc (suc (2 * k))
twice k = omega arith

twice-more : (k : ℕ) → 2 * suc k + 1 ≡ suc (suc (2 * k + 1))
twice-more k = omega arith

base-at : (ns : List ℕ) (k : ℕ) → (row_at ns k).0 ≡ get_or ns (2 * k) 0
base-at [] k = refl
base-at (n ∷ []) zero = refl
base-at (n ∷ []) (suc k) = rw (twice k) refl
base-at (n ∷ m ∷ ns) zero = refl
base-at (n ∷ m ∷ ns) (suc k) = rw (twice k) (base-at ns k)

stride-at : (ns : List ℕ) (k : ℕ) → (row_at ns k).1 ≡ get_or ns (2 * k + 1) 0
stride-at [] k = refl
stride-at (n ∷ []) zero = refl
stride-at (n ∷ []) (suc k) = rw (twice-more k) refl
stride-at (n ∷ m ∷ ns) zero = refl
stride-at (n ∷ m ∷ ns) (suc k) = rw (twice-more k) (stride-at ns k)

module _ (row n : ℕ) where
  pub read : (row_at registers row).0 + (row_at registers row).1 * n ≡ entry row n
  unfolding entry
  read = rw (base-at registers row, stride-at registers row) refl

  module _ (h : row < ROWS) (k : n < QUEUES) where
    pub product-fits : (row_at registers row).1 * n < 2 ^ 32
    product-fits = rw (stride-at registers row) (omega (arith, scaled row h n k))

    pub total-fits : (row_at registers row).0 + (row_at registers row).1 * n < 2 ^ 32
    total-fits = rw (base-at registers row, stride-at registers row) (omega (arith, entry-low row h n k))

-- two registers have two rows
same-row : (r : Register) → register_row r ≡ tag_of the_type r
same-row r = search rules

pub apart : (r s : Register) → (r ≡ s → ⊥) → eqb (register_row r) (register_row s) ≡ false
apart r s h = rw (same-row r, same-row s) (false_same the_type tt r s h)
