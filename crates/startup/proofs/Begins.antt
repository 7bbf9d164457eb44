-- A set-up's number is 0 exactly where its three tests pass: each refusal's number is not 0. Assumes nothing.
use Prim.Native.Nat.{ℕ, ◌+◌, ◌≤◌}
use mathlib.Core.Path.{◌≡◌, refl}
use mathlib.Core.Bool.{Bool, true, false, not}
use native.Mathlib.Omega.{arith}
use borrow.Author.Tests.{ltb-false, le-ltb}
use lib.Dec.{ltb}
use Rattle.laws.specs.Test.{pick}
use Rattle.std.specs.Prelude.{Option}
use Rattle.startup.specs.Machine.{SHORT, OUT-OF-RANGE, NO-INTERRUPT, in_range, kind_ok}
use Rattle.startup.specs.SetUp.{set_up_number}

-- the numbers pass
pub record Passes (receives sends tries : ℕ) (interrupts : Option ℕ) (count : ℕ) : Type 0 where
  pub in-range : in_range receives sends tries ≡ true
  pub enough : receives + sends ≤ count
  pub kind : kind_ok interrupts receives ≡ true

module _ (receives sends tries : ℕ) (interrupts : Option ℕ) (count : ℕ) where
  pub zero-passes : set_up_number receives sends tries interrupts count ≡ 0 → Passes receives sends tries interrupts count
  unfolding set_up_number
  zero-passes = by_tests (in_range receives sends tries) (ltb count (receives + sends)) (kind_ok interrupts receives) refl refl refl
    where
      by_tests : (a b c : Bool) → in_range receives sends tries ≡ a → ltb count (receives + sends) ≡ b → kind_ok interrupts receives ≡ c
          → pick (not a) OUT-OF-RANGE (pick b SHORT (pick (not c) NO-INTERRUPT 0)) ≡ 0 → Passes receives sends tries interrupts count
      by_tests true false true p q r z = record { in-range = p; enough = ltb-false _ _ q; kind = r }
      by_tests true false false p q r z = absurd (omega arith)
      by_tests true true c p q r z = absurd (omega arith)
      by_tests false b c p q r z = absurd (omega arith)

  pub passes-zero : Passes receives sends tries interrupts count → set_up_number receives sends tries interrupts count ≡ 0
  unfolding set_up_number
  passes-zero p = simp (p.in-range, le-ltb count (receives + sends) p.enough, p.kind)
