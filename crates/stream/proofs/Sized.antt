-- The bytes of a send are as many as its count says: of all kinds only its own asks that of them.
use Prim.Native.Nat.{ℕ, ◌+◌, ◌*◌}
use mathlib.Core.Path.{◌≡◌, refl, ap, ◌∙◌}
use mathlib.Core.Bool.{Bool, true, false}
use mathlib.Core.List.{List}
use lib.ListN.{length}
use lib.Dec.{eqb, ltb}
use borrow.Author.Tests.{eqb-true}
use Rattle.std.proofs.Common.{Option, Some, None}
use Rattle.limits.specs.Limits.{SLOTS}
use Rattle.laws.specs.Test.{pick, both}
use Rattle.words.specs.Le.{le_at}
use Rattle.records.specs.declared.Record.{Record}
use Rattle.records.specs.declared.Record.TheVariants as kind
use Rattle.records.specs.declared.Call.TheVariants.{Start, Take, Release, Receive, Send}
use Rattle.records.specs.Records.{record_of}

module _ (b : List ℕ) where
  -- the length that a record of these bytes asks for
  asked : Option Record → ℕ
  asked (Some (kind.Fresh entries size sends)) = length b
  asked (Some (kind.Card event)) = length b
  asked (Some (kind.Call Start)) = length b
  asked (Some (kind.Call (Take size))) = length b
  asked (Some (kind.Call (Release id))) = length b
  asked (Some (kind.Call (Receive n))) = length b
  asked (Some (kind.Call (Send queue count))) = 6 + 2 * count
  asked None = length b

  -- either of two that is picked
  picked : (t : Bool) (x y : Option Record) → (t ≡ true → length b ≡ asked x) → length b ≡ asked y → length b ≡ asked (pick t x y)
  picked true x y p q = p refl
  picked false x y p q = q

  sized : length b ≡ asked (record_of b)
  unfolding record_of asked
  sized =
      picked (ltb (length b) 2) _ _ (λ t. refl)
      (picked (eqb (le_at 2 0 b) 1) _ _ (λ t. picked (eqb (length b) 10) _ _ (λ u. refl) refl)
      (picked (eqb (le_at 2 0 b) 2) _ _ (λ t. picked (eqb (length b) 2) _ _ (λ u. refl) refl)
      (picked (eqb (le_at 2 0 b) 3) _ _ (λ t. picked (eqb (length b) 6) _ _ (λ u. refl) refl)
      (picked (eqb (le_at 2 0 b) 4) _ _ (λ t. picked (eqb (length b) 4) _ _ (λ u. refl) refl)
      (picked (eqb (le_at 2 0 b) 5) _ _ (λ t. picked (both (eqb (length b) 6) (ltb (le_at 2 4 b) SLOTS)) _ _ (λ u. refl) refl)
      (picked (eqb (le_at 2 0 b) 6) _ _ (λ t. picked (both (eqb (length b) 10) (ltb (le_at 2 2 b) SLOTS)) _ _ (λ u. refl) refl)
      (picked (eqb (le_at 2 0 b) 7) _ _ (λ t. picked (eqb (length b) 6) _ _ (λ u. refl) refl)
      (picked (eqb (le_at 2 0 b) 8) _ _ (λ t. picked (eqb (length b) (6 + 2 * le_at 2 4 b)) _ _ (λ u. eqb-true _ _ u) refl) refl))))))))

  pub send-sized : (queue count : ℕ) → record_of b ≡ Some (kind.Call (Send queue count)) → length b ≡ 6 + 2 * count
  unfolding asked
  send-sized queue count e = sized ∙ ap asked e
