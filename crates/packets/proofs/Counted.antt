-- How often a number stands in a list, counted by a test.
use Prim.Native.Nat.{ℕ}
use mathlib.Core.Path.{◌≡◌, refl, sym, ◌∙◌}
use mathlib.Core.List.{List}
use Rattle.std.proofs.Common.{rules, ◌==◌}
use Rattle.std.specs.List.{count_by}
use Rattle.std.proofs.lemmas.List.Recursion.{is_count_by}
use Rattle.laws.specs.Occurs.{occurs}

occurs-counts : (x : ℕ) (l : List ℕ) → occurs x l ≡ count_by (λ y. y == x) l
occurs-counts x = is_count_by (occurs x) (λ y. y == x) refl (λ y l. search rules)

pub counts_occur : (x : ℕ) (l : List ℕ) (n : ℕ) → n ≡ count_by (λ y. y == x) l → n ≡ occurs x l
counts_occur x l n e = e ∙ sym (occurs-counts x l)
