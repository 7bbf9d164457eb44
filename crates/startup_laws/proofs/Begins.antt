-- From a set-up: its first state is sound or, refused, is one that is not; so are all that follow, and no step of it is refused with 1.
-- Assumes nothing.
use Prim.Native.Nat.{ℕ, suc, ◌+◌, ◌<◌}
use mathlib.Core.Path.{◌≡◌, refl, sym, ap, ◌∙◌}
use mathlib.Core.Bool.{Bool, true, false, not}
use mathlib.Core.Logic.{◌⊎◌, inl, inr}
use mathlib.Core.List.{List, [], ◌∷◌}
use native.Mathlib.Omega.{arith}
use borrow.Author.Tests.{eqb-true, eqb-false}
use lib.Dec.{eqb, ltb}
use lib.ListN.{length}
use Rattle.std.specs.Prelude.{Option, Result, Ok, Err}
use Rattle.laws.specs.Test.{pick, either}
use Rattle.refusals.specs.declared.Refusal.{Refusal}
use Rattle.refusals.specs.declared.Refusal.TheVariants.{Unsound, WrongSize, NoQueue, BadHandle, TooLarge, NoneFree, NoHeadroom, NotNow, OutOfRange, Waited, OutsideMap, NoInterrupt}
use Rattle.refusals.specs.Numbers.{refusal_number}
use Rattle.plan.specs.declared.Setup.{Setup}
use Rattle.startup.specs.declared.Action.{Action}
use Rattle.startup.specs.declared.Action.TheVariants.{Read, Write, Pause, Done, Refused}
use Rattle.startup.specs.declared.State.{State}
use Rattle.startup.specs.declared.Stepped.{Stepped}
use Rattle.startup.specs.Machine.{UNSOUND, SHORT, OUT-OF-RANGE, NO-INTERRUPT, WAITED, OUTSIDE, number_of, in_range, kind_ok, setup_ok, sound_of, start, stepped, Sound, first}
use Rattle.startup.specs.SetUp.{Begun, set_up_number, no_state, setup_for, begun, begun_as}
use Rattle.startup.proofs.Sound.{range-facts}
use Rattle.startup.proofs.Begins.{Passes, zero-passes}
use Rattle.startup_laws.specs.Run.{after, Ends, bound}
use Rattle.startup_laws.proofs.Keeps.{differ, stays-sound, refused-with}
use Rattle.startup_laws.proofs.Bound.{start-up-ends}

-- ---- one outcome

-- two answers that meet the contract of a set-up are the same
pub one-set-up : (map receives sends tries : ℕ) (interrupts : Option ℕ) (rate : ℕ) (addresses : List ℕ) (a b : Begun)
    → a ≡ begun map receives sends tries interrupts rate addresses → b ≡ begun map receives sends tries interrupts rate addresses → a ≡ b
one-set-up map receives sends tries interrupts rate addresses a b p q = p ∙ sym q

-- and of a step
pub one-step : (s : State) (v : ℕ) (a b : Stepped) → a ≡ stepped s v → b ≡ stepped s v → a ≡ b
one-step s v a b p q = p ∙ sym q

-- ---- the state of a caller that has none from a set-up is not sound, so every step on it answers 1

pub no-state-unsound : sound_of no_state ≡ false
unfolding sound_of setup_ok in_range no_state
no-state-unsound = refl

pub no-state-steps : (v : ℕ) → stepped no_state v ≡ record { action = Refused Unsound; state = no_state }
unfolding stepped
no-state-steps v = simp no-state-unsound

-- every refusal has a number, and those of a set-up are told by it
positive : (why : Refusal) → 0 < refusal_number why
positive Unsound = omega arith
positive WrongSize = omega arith
positive NoQueue = omega arith
positive (BadHandle index) = omega arith
positive TooLarge = omega arith
positive NoneFree = omega arith
positive NoHeadroom = omega arith
positive NotNow = omega arith
positive OutOfRange = omega arith
positive (Waited register) = omega arith
positive (OutsideMap register) = omega arith
positive NoInterrupt = omega arith

abbrev of-set-up : ℕ → Bool
of-set-up n = either (eqb n SHORT) (either (eqb n OUT-OF-RANGE) (eqb n NO-INTERRUPT))

abbrev plain : ℕ → Refusal
plain n = pick (eqb n SHORT) WrongSize (pick (eqb n OUT-OF-RANGE) OutOfRange NoInterrupt)

plain-is : (why : Refusal) → of-set-up (refusal_number why) ≡ true → why ≡ plain (refusal_number why)
plain-is Unsound e = absurd (differ (sym e))
plain-is WrongSize e = refl
plain-is NoQueue e = absurd (differ (sym e))
plain-is (BadHandle index) e = absurd (differ (sym e))
plain-is TooLarge e = absurd (differ (sym e))
plain-is NoneFree e = absurd (differ (sym e))
plain-is NoHeadroom e = absurd (differ (sym e))
plain-is NotNow e = absurd (differ (sym e))
plain-is OutOfRange e = refl
plain-is (Waited register) e = absurd (differ (sym e))
plain-is (OutsideMap register) e = absurd (differ (sym e))
plain-is NoInterrupt e = refl

-- ---- a set-up that is not refused

-- any state on the way is sound
pub sound-after : (s : State) → Sound s → (vs : List ℕ) → Sound (after s vs)
sound-after s sound [] = sound
sound-after s sound (v ∷ vs) = sound-after (stepped s v).state (stays-sound s sound v) vs

module _ (map receives sends tries : ℕ) (interrupts : Option ℕ) (rate : ℕ) (addresses : List ℕ) where
  abbrev answer : Begun
  answer = begun map receives sends tries interrupts rate addresses

  abbrev setup : Setup
  setup = setup_for map receives sends tries interrupts rate addresses

  abbrev number : ℕ
  number = set_up_number receives sends tries interrupts (length addresses)

  -- the answer's number is the set-up's
  number_is : answer.number ≡ number
  unfolding begun
  number_is = by_number (eqb number 0) refl
    where
      by_number : (b : Bool) → eqb number 0 ≡ b
          → (pick {A = Begun} b (record { number = 0; state = start setup }) (record { number = number; state = no_state })).number ≡ number
      by_number true e = sym (eqb-true number 0 e)
      by_number false e = refl

  -- two results that meet the contract of a set-up are the same: they have its number and state, and the number says which refusal
  number-known : (number ≡ 0) ⊎ (of-set-up number ≡ true)
  unfolding set_up_number
  number-known = by_tests (in_range receives sends tries) (ltb (length addresses) (receives + sends)) (kind_ok interrupts receives)
    where
      by_tests : (a b c : Bool) → (pick (not a) OUT-OF-RANGE (pick b SHORT (pick (not c) NO-INTERRUPT 0)) ≡ 0)
          ⊎ (of-set-up (pick (not a) OUT-OF-RANGE (pick b SHORT (pick (not c) NO-INTERRUPT 0))) ≡ true)
      by_tests true false true = inl refl
      by_tests true false false = inr refl
      by_tests true true c = inr refl
      by_tests false b c = inr refl

  refused-as : (why : Refusal) → refusal_number why ≡ number → why ≡ plain number
  refused-as why e = by_number number-known
    where
      by_number : (number ≡ 0) ⊎ (of-set-up number ≡ true) → why ≡ plain number
      by_number (inl z) = absurd (omega (arith, positive why, e, z))
      by_number (inr t) = plain-is why (rw e t) ∙ ap plain e

  pub one-result : (a b : Result State Refusal) → begun_as a ≡ answer → begun_as b ≡ answer → a ≡ b
  one-result (Ok s) (Ok t) p q = ap Ok (ap (λ r. r.state) (p ∙ sym q))
  one-result (Ok s) (Err w) p q = absurd (omega (arith, positive w, ap (λ r. r.number) (p ∙ sym q)))
  one-result (Err v) (Ok t) p q = absurd (omega (arith, positive v, ap (λ r. r.number) (p ∙ sym q)))
  one-result (Err v) (Err w) p q =
      ap Err (refused-as v (ap (λ r. r.number) p ∙ number_is) ∙ sym (refused-as w (ap (λ r. r.number) q ∙ number_is)))

  module _ (taken : answer.number ≡ 0) where
    pub first-state : answer.state ≡ start setup
    unfolding begun
    first-state = by_number (eqb number 0) refl
      where
        by_number : (b : Bool) → eqb number 0 ≡ b
            → (pick {A = Begun} b (record { number = 0; state = start setup }) (record { number = number; state = no_state })).state ≡ start setup
        by_number true e = refl
        by_number false e = absurd (eqb-false number 0 e (sym number_is ∙ taken))

    passes : Passes receives sends tries interrupts (length addresses)
    passes = zero-passes receives sends tries interrupts (length addresses) (sym number_is ∙ taken)

    sound-start : Sound (start setup)
    sound-start =
        let f = range-facts receives sends tries passes.in-range in
        record {
          receives = f.0;
          sends = f.1;
          some = f.2;
          few = f.3;
          kind = passes.kind;
          place = omega arith;
          passed = λ k h. absurd (omega arith);
          kept = first refl refl refl;
        }

    -- the first state is sound, and all that follow, whatever is read
    pub sound-from : (vs : List ℕ) → Sound (after answer.state vs)
    sound-from vs = rw first-state (sound-after (start setup) sound-start vs)

    -- so no step of it is refused with 1
    pub never-unsound : (vs : List ℕ) (v : ℕ) → number_of (stepped (after answer.state vs) v).action ≡ UNSOUND → ⊥
    never-unsound vs v = by-action (stepped (after answer.state vs) v).action refl
      where
        by_number : (n : ℕ) → (n ≡ WAITED) ⊎ (n ≡ OUTSIDE) → n ≡ UNSOUND → ⊥
        by_number n (inl z) e = omega (arith, z, e)
        by_number n (inr z) e = omega (arith, z, e)

        by-action : (a : Action) → (stepped (after answer.state vs) v).action ≡ a → number_of a ≡ UNSOUND → ⊥
        by-action (Read register) e z = omega arith
        by-action (Write register x) e z = omega arith
        by-action (Pause ms) e z = omega arith
        by-action Done e z = omega arith
        by-action (Refused why) e z = by_number (refusal_number why) (refused-with (after answer.state vs) (sound-from vs) v why e).0 z

    -- and Done or Refused is reached within the bound, whatever is read
    pub set-up-ends : (v : ℕ → ℕ) → Ends v 0 (suc (bound setup)) answer.state
    set-up-ends v = rw first-state (start-up-ends v setup sound-start)

  -- ---- a set-up that is refused leaves a state that is not sound, so every step on it answers 1

  module _ (refused : answer.number ≡ 0 → ⊥) where
    pub refused-state : answer.state ≡ no_state
    unfolding begun
    refused-state = by_number (eqb number 0) refl
      where
        by_number : (b : Bool) → eqb number 0 ≡ b
            → (pick {A = Begun} b (record { number = 0; state = start setup }) (record { number = number; state = no_state })).state ≡ no_state
        by_number true e = absurd (refused (number_is ∙ eqb-true number 0 e))
        by_number false e = refl

    pub refused-steps : (v : ℕ) → stepped answer.state v ≡ record { action = Refused Unsound; state = no_state }
    refused-steps v = rw refused-state (no-state-steps v)
