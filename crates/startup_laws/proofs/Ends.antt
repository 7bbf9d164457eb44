-- A step after Done is Done, and changes nothing: only the end answers Done, and it is never over. Assumes nothing.
use Prim.Native.Nat.{ℕ, ◌+◌, ◌-◌, ◌*◌, ◌%◌}
use mathlib.Core.Path.{◌≡◌, refl, sym, ap, ◌∙◌}
use mathlib.Core.Bool.{Bool, true, false}
use mathlib.Core.Logic.{◌⊎◌, inl, inr}
use borrow.Author.Tests.{eqb-true, eqb-false}
use lib.Dec.{eqb}
use Rattle.laws.specs.Test.{pick}
use Rattle.plan.specs.declared.Setup.{Setup}
use Rattle.plan.specs.declared.Item.{Item}
use Rattle.plan.specs.declared.Item.TheVariants.{End, Write, Read, Change, WaitSet, WaitClear, Pause, Link}
use Rattle.refusals.specs.declared.Refusal.TheVariants.{OutsideMap}
use Rattle.startup.specs.declared.Action.{Action}
use Rattle.startup.specs.declared.Action.TheVariants as action
use Rattle.startup.specs.declared.State.{State}
use Rattle.startup.specs.Machine.{over, waiting, looking, changing, intended, answer, reachable, register_of, settled, acted, item_at, here, state, step_of, stepped, Sound}
use Rattle.startup.proofs.Ways.{step_kept, step-next, step-here}
use Rattle.startup_laws.proofs.Keeps.{differ, sound-steps, stays-sound}

abbrev is_done : Action → Bool
is_done (action.Read register) = false
is_done (action.Write register x) = false
is_done (action.Pause ms) = false
is_done action.Done = true
is_done (action.Refused why) = false

either-not : (b : Bool) (x y : Action) → is_done x ≡ false → is_done y ≡ false → is_done (pick b x y) ≡ false
either-not true x y p q = p
either-not false x y p q = q

-- only the end answers Done
module _ (map w made v : ℕ) where
  outside-not : (i : Item) → is_done (intended w i made v) ≡ false → is_done (answer map w i made v) ≡ false
  unfolding answer
  outside-not i h = either-not (reachable map i) (intended w i made v) (action.Refused (OutsideMap (register_of i))) h refl

  end-or-not : (i : Item) → (i ≡ End) ⊎ (is_done (answer map w i made v) ≡ false)
  unfolding waiting looking changing
  end-or-not End = inl refl
  end-or-not (Write register x) = inr (outside-not (Write register x) refl)
  end-or-not (Read register) = inr (outside-not (Read register) refl)
  end-or-not (Change register clear set) =
      inr (outside-not (Change register clear set) (either-not (eqb made 0) _ _ refl refl))
  end-or-not (WaitSet register mask) =
      inr (outside-not (WaitSet register mask) (either-not (eqb (made % 2) 0) _ _ refl (either-not (eqb made (2 * w - 1)) _ _ refl refl)))
  end-or-not (WaitClear register mask) =
      inr (outside-not (WaitClear register mask) (either-not (eqb (made % 2) 0) _ _ refl (either-not (eqb made (2 * w - 1)) _ _ refl refl)))
  end-or-not (Pause ms) = inr (outside-not (Pause ms) refl)
  end-or-not (Link register) = inr (outside-not (Link register) (either-not (eqb (made % 2) 0) _ _ refl refl))

settled-action : (setup : Setup) (place made : ℕ) (a : Action) → (settled setup place made a).action ≡ a
settled-action setup place made (action.Read register) = refl
settled-action setup place made (action.Write register x) = refl
settled-action setup place made (action.Pause ms) = refl
settled-action setup place made action.Done = refl
settled-action setup place made (action.Refused why) = refl

module _ (setup : Setup) (place made : ℕ) where
  -- at the end, an action is Done and changes nothing
  pub acted-end : item_at setup place ≡ End → (v : ℕ) → acted setup place made v ≡ record { action = action.Done; state = state setup place made 0 }
  unfolding answer reachable
  acted-end e v = rw e

  step_end : item_at setup place ≡ End → (v : ℕ)
      → step_of (state setup place made 0) v ≡ record { action = action.Done; state = state setup place made 0 }
  step_end e v = step-here (state setup place made 0) v refl (rw e) ∙ acted-end e v

  done-here : (v : ℕ) → (acted setup place made v).action ≡ action.Done
      → (v' : ℕ) → step_of (acted setup place made v).state v' ≡ record { action = action.Done; state = (acted setup place made v).state }
  done-here v d v' = by-item (end-or-not setup.map setup.tries made v (item_at setup place))
    where
      by-item : (item_at setup place ≡ End) ⊎ (is_done (answer setup.map setup.tries (item_at setup place) made v) ≡ false)
          → step_of (acted setup place made v).state v' ≡ record { action = action.Done; state = (acted setup place made v).state }
      by-item (inl e) = rw (acted-end e v) (step_end e v')
      by-item (inr n) =
          absurd (differ (ap is_done (sym d ∙ settled-action setup place made (answer setup.map setup.tries (item_at setup place) made v)) ∙ n))

module _ (s : State) (sound : Sound s) where
  done-step : (v : ℕ) → (step_of s v).action ≡ action.Done
      → (v' : ℕ) → step_of (step_of s v).state v' ≡ record { action = action.Done; state = (step_of s v).state }
  done-step v d v' = by-kept (eqb s.kept 0) refl
    where
      by_over : (b : Bool) → over (here s) s.made v ≡ b → s.kept ≡ 0
          → step_of (step_of s v).state v' ≡ record { action = action.Done; state = (step_of s v).state }
      by_over true o k =
          let e = step-next s v k o in
          rw e (done-here s.setup (s.place + 1) 0 v (ap (λ r. r.action) (sym e) ∙ d) v')
      by_over false o k =
          let e = step-here s v k o in
          rw e (done-here s.setup s.place s.made v (ap (λ r. r.action) (sym e) ∙ d) v')

      by-kept : (b : Bool) → eqb s.kept 0 ≡ b → step_of (step_of s v).state v' ≡ record { action = action.Done; state = (step_of s v).state }
      by-kept true e = by_over (over (here s) s.made v) refl (eqb-true s.kept 0 e)
      by-kept false e =
          absurd (differ (sym (ap is_done (ap (λ r. r.action) (sym (step_kept s v (eqb-false s.kept 0 e))) ∙ d))))

  -- a step after Done is Done, and its state stays
  pub done-again : (v : ℕ) → (stepped s v).action ≡ action.Done
      → (v' : ℕ) → stepped (stepped s v).state v' ≡ record { action = action.Done; state = (stepped s v).state }
  done-again v d v' =
      sound-steps (stepped s v).state (stays-sound s sound v) v'
      ∙ rw (sound-steps s sound v) (done-step v (ap (λ r. r.action) (sym (sound-steps s sound v)) ∙ d) v')
