-- The three ways of a step. Assumes nothing.
use Prim.Native.Nat.{ℕ, ◌+◌}
use mathlib.Core.Path.{◌≡◌, refl}
use mathlib.Core.Bool.{true, false}
use mathlib.Core.Logic.{◌⊎◌, inl, inr}
use native.Mathlib.Omega.{arith}
use borrow.Author.Tests.{eq-eqb, ne_eqb}
use Rattle.std.specs.Option.{unwrap_or}
use Rattle.plan.specs.declared.Item.{Item}
use Rattle.plan.specs.declared.Item.TheVariants.{End, Write, Read, Change, WaitSet, WaitClear, Pause, Link}
use Rattle.refusals.specs.Numbers.{refusal_number, refusal_also}
use Rattle.startup.specs.declared.Action.TheVariants.{Refused}
use Rattle.startup.specs.declared.State.{State}
use Rattle.startup.specs.Machine.{WAITED, OUTSIDE, number_of, also_of, over, here, register_of, named, kept_refusal, acted, step_of}

-- an item that names no register has 0 for one
pub named_or : (i : Item) → unwrap_or (named i) 0 ≡ register_of i
named_or End = refl
named_or (Write register x) = refl
named_or (Read register) = refl
named_or (Change register clear set) = refl
named_or (WaitSet register mask) = refl
named_or (WaitClear register mask) = refl
named_or (Pause ms) = refl
named_or (Link register) = refl

module _ (s : State) (v : ℕ) where
  pub step_kept : (s.kept ≡ 0 → ⊥) → step_of s v ≡ record { action = Refused (kept_refusal s.kept (register_of (here s))); state = s }
  unfolding step_of
  step_kept k = simp (ne_eqb s.kept 0 k)

  pub step-next : s.kept ≡ 0 → over (here s) s.made v ≡ true → step_of s v ≡ acted s.setup (s.place + 1) 0 v
  unfolding step_of
  step-next k o = simp (eq-eqb s.kept 0 k, o)

  pub step-here : s.kept ≡ 0 → over (here s) s.made v ≡ false → step_of s v ≡ acted s.setup s.place s.made v
  unfolding step_of
  step-here k o = simp (eq-eqb s.kept 0 k, o)

-- a kept number, 10 or 11, is the number of its refusal, and the refusal has the item's register
module _ (n register : ℕ) where
  pub number-kept : (n ≡ WAITED) ⊎ (n ≡ OUTSIDE) → refusal_number (kept_refusal n register) ≡ n
  number-kept (inl k) = rw k
  number-kept (inr k) = rw k

  pub also-kept : (n ≡ WAITED) ⊎ (n ≡ OUTSIDE) → refusal_also (kept_refusal n register) ≡ register
  also-kept (inl k) = rw k
  also-kept (inr k) = rw k

-- so a step of a state that keeps one answers with both
module _ (s : State) (v : ℕ) (which : (s.kept ≡ WAITED) ⊎ (s.kept ≡ OUTSIDE)) where
  not-zero : s.kept ≡ 0 → ⊥
  not-zero z = by_number which
    where
      by_number : (s.kept ≡ WAITED) ⊎ (s.kept ≡ OUTSIDE) → ⊥
      by_number (inl k) = omega (arith, k, z)
      by_number (inr k) = omega (arith, k, z)

  pub kept-answers : (number_of (step_of s v).action ≡ s.kept) × (also_of (step_of s v).action ≡ register_of (here s))
  kept-answers = rw (step_kept s v not-zero) (number-kept s.kept (register_of (here s)) which, also-kept s.kept (register_of (here s)) which)
