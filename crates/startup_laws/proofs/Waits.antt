-- A wait that never passes: its reads and pauses take turns, W reads with W - 1 pauses between them, then 10 and no pause after the last read.
-- The link wait the same with 101 reads, then Done. One induction on the turns left serves both. Assumes nothing.
use Prim.Native.Nat.{ℕ, zero, suc, ◌+◌, ◌-◌, ◌*◌, ◌/◌, ◌%◌, ◌≤◌, ◌<◌}
use mathlib.Core.Path.{◌≡◌, refl, sym, ap, ◌∙◌}
use mathlib.Core.Bool.{Bool, true, false}
use mathlib.Core.List.{[], ◌∷◌, ◌++◌}
use mathlib.Core.Logic.{◌⊎◌, inl, inr}
use native.Mathlib.Omega.{arith}
use borrow.Author.Tests.{eq-eqb, ne_eqb, le-leb, lt-leb}
use lib.Dec.{leb}
use Rattle.laws.specs.Test.{pick}
use Rattle.plan.specs.declared.Setup.{Setup}
use Rattle.plan.specs.declared.Item.{Item}
use Rattle.plan.specs.declared.Item.TheVariants.{End, Write, Read, Change, WaitSet, WaitClear, Pause, Link}
use Rattle.refusals.specs.declared.Refusal.TheVariants.{Waited}
use Rattle.startup.specs.declared.Action.{Action}
use Rattle.startup.specs.declared.Action.TheVariants as action
use Rattle.startup.specs.declared.State.{State}
use Rattle.startup.specs.Machine.{WAIT-MS, WAITED, LINK-READS, LINK-ACTIONS, seen, link_up, cost, over, waiting, looking, intended, answer, reachable, waits, register_of, settled, acted, item_at, here, state, stepped, Kept, first, done, begun, failed, outside, Sound}
use Rattle.startup.proofs.Sound.{made-most}
use Rattle.startup.proofs.Ways.{step-next, step-here}
use Rattle.startup_laws.specs.Run.{actions, ready, turns}
use Rattle.startup_laws.proofs.Keeps.{differ, sound-steps}
use Rattle.startup_laws.proofs.Ends.{acted-end}

-- ---- turns of a pause and a read, and then a last action

module _ (setup : Setup) (place register reads : ℕ) (v : ℕ → ℕ) (last : Action)
    (paused : (t k : ℕ) → t + 1 < reads
    → stepped (state setup place (2 * t + 1) 0) (v k) ≡ record { action = action.Pause WAIT-MS; state = state setup place (2 * t + 2) 0 })
    (read : (t k : ℕ) → t + 1 < reads
    → stepped (state setup place (2 * t + 2) 0) (v k) ≡ record { action = action.Read register; state = state setup place (2 * (t + 1) + 1) 0 })
    (over-now : (t k : ℕ) → t + 1 ≡ reads → (stepped (state setup place (2 * t + 1) 0) (v k)).action ≡ last) where
  turns-left : (n t k : ℕ) → t + 1 + n ≡ reads
      → actions v k (2 * n + 1) (state setup place (2 * t + 1) 0) ≡ turns n register ++ (last ∷ [])
  turns-left zero t k h = ap (λ a. a ∷ []) (over-now t k (omega (arith, h)))
  turns-left (suc n) t k h =
      let e : 2 * suc n + 1 ≡ suc (suc (2 * n + 1)) = omega arith in
      rw e
      (rw (paused t k (omega (arith, h)), read t (suc k) (omega (arith, h)))
      (ap (λ l. action.Pause WAIT-MS ∷ action.Read register ∷ l) (turns-left n (t + 1) (suc (suc k)) (omega (arith, h)))))

-- ---- a begun item

module _ (setup : Setup) (place : ℕ) (sound : Sound (state setup place 1 0)) where
  abbrev i : Item
  i = item_at setup place

  abbrev w : ℕ
  w = setup.tries

  -- its register is in the map
  begun-reached : reachable setup.map i ≡ true
  begun-reached = by-kept sound.kept
    where
      by-kept : Kept setup.map w i place 1 0 → reachable setup.map i ≡ true
      by-kept (first k m p) = absurd (omega arith)
      by-kept (done k m e) = absurd (omega arith)
      by-kept (begun k s h r) = r
      by-kept (failed k m a r) = r
      by-kept (outside k m r) = absurd (omega arith)

  -- so it is sound with more of its actions made
  begun-sound : (m : ℕ) → 0 < m → m ≤ cost w i → Sound (state setup place m 0)
  begun-sound m p h =
      record {
        receives = sound.receives;
        sends = sound.sends;
        some = sound.some;
        few = sound.few;
        kind = sound.kind;
        place = sound.place;
        passed = sound.passed;
        kept = begun refl p h begun-reached;
      }

  -- a step that stays
  stays : (m v : ℕ) (a : Action) → 0 < m → m ≤ cost w i → over i m v ≡ false → intended w i m v ≡ a
      → stepped (state setup place m 0) v ≡ settled setup place m a
  unfolding answer
  stays m v a p h o e =
      sound-steps (state setup place m 0) (begun-sound m p h) v
      ∙ step-here (state setup place m 0) v refl o
      ∙ rw (begun-reached, e)

  -- a step that goes on
  goes : (m v : ℕ) → 0 < m → m ≤ cost w i → over i m v ≡ true → stepped (state setup place m 0) v ≡ acted setup (place + 1) 0 v
  goes m v p h o = sound-steps (state setup place m 0) (begun-sound m p h) v ∙ step-next (state setup place m 0) v refl o

seen-odd : (t : ℕ) (b : Bool) → seen (2 * t + 1) b ≡ b
unfolding seen
seen-odd t b = simp (ne_eqb ((2 * t + 1) % 2) 0 (λ z. omega arith))

seen-even : (t : ℕ) (b : Bool) → seen (2 * t + 2) b ≡ false
unfolding seen
seen-even t b = simp (eq-eqb ((2 * t + 2) % 2) 0 (omega arith))

paused-at : (setup : Setup) (place t : ℕ)
    → settled setup place (2 * t + 1) (action.Pause WAIT-MS) ≡ record { action = action.Pause WAIT-MS; state = state setup place (2 * t + 2) 0 }
paused-at setup place t =
    let e : 2 * t + 1 + 1 ≡ 2 * t + 2 = omega arith in
    rw e

read_at : (setup : Setup) (place register t : ℕ)
    → settled setup place (2 * t + 2) (action.Read register) ≡ record { action = action.Read register; state = state setup place (2 * (t + 1) + 1) 0 }
read_at setup place register t =
    let e : 2 * t + 2 + 1 ≡ 2 * (t + 1) + 1 = omega arith in
    rw e

-- ---- a wait

never : {X : Type 0} → false ≡ true → X
never e = absurd (differ (sym e))

module _ (w m v : ℕ) where
  wait-intended : (i : Item) → waits i ≡ true → intended w i m v ≡ waiting w (register_of i) m
  wait-intended End e = never e
  wait-intended (Write register x) e = never e
  wait-intended (Read register) e = never e
  wait-intended (Change register clear set) e = never e
  wait-intended (WaitSet register mask) e = refl
  wait-intended (WaitClear register mask) e = refl
  wait-intended (Pause ms) e = never e
  wait-intended (Link register) e = never e

  wait-over : (i : Item) → waits i ≡ true → over i m v ≡ seen m (ready i v)
  wait-over End e = never e
  wait-over (Write register x) e = never e
  wait-over (Read register) e = never e
  wait-over (Change register clear set) e = never e
  wait-over (WaitSet register mask) e = refl
  wait-over (WaitClear register mask) e = refl
  wait-over (Pause ms) e = never e
  wait-over (Link register) e = never e

  wait-cost : (i : Item) → waits i ≡ true → cost w i ≡ 2 * w - 1
  wait-cost End e = never e
  wait-cost (Write register x) e = never e
  wait-cost (Read register) e = never e
  wait-cost (Change register clear set) e = never e
  wait-cost (WaitSet register mask) e = refl
  wait-cost (WaitClear register mask) e = refl
  wait-cost (Pause ms) e = never e
  wait-cost (Link register) e = never e

waiting-even : (w register t : ℕ) → waiting w register (2 * t + 2) ≡ action.Read register
unfolding waiting
waiting-even w register t = simp (eq-eqb ((2 * t + 2) % 2) 0 (omega arith))

waiting-odd : (w register t : ℕ) → t + 1 < w → waiting w register (2 * t + 1) ≡ action.Pause WAIT-MS
unfolding waiting
waiting-odd w register t h =
    simp (ne_eqb ((2 * t + 1) % 2) 0 (λ z. omega arith), ne_eqb (2 * t + 1) (2 * w - 1) (λ z. omega arith))

waiting-last : (w register t : ℕ) → t + 1 ≡ w → waiting w register (2 * t + 1) ≡ action.Refused (Waited register)
unfolding waiting
waiting-last w register t h =
    simp (ne_eqb ((2 * t + 1) % 2) 0 (λ z. omega arith), eq-eqb (2 * t + 1) (2 * w - 1) (omega (arith, h)))

module _ (setup : Setup) (place : ℕ) (sound : Sound (state setup place 1 0)) (is : waits (item_at setup place) ≡ true) where
  abbrev item : Item
  item = item_at setup place

  abbrev tries : ℕ
  tries = setup.tries

  most : cost tries item ≡ 2 * tries - 1
  most = wait-cost tries 0 0 item is

  -- after a read of what is not ready: a pause of 100 ms, unless that was read number W
  pub wait-pauses : (t v : ℕ) → t + 1 < tries → ready item v ≡ false
      → stepped (state setup place (2 * t + 1) 0) v ≡ record { action = action.Pause WAIT-MS; state = state setup place (2 * t + 2) 0 }
  wait-pauses t v h f =
      stays setup place sound (2 * t + 1) v (action.Pause WAIT-MS) (omega arith) (omega (arith, most, h))
      (wait-over tries (2 * t + 1) v item is ∙ seen-odd t (ready item v) ∙ f)
      (wait-intended tries (2 * t + 1) v item is ∙ waiting-odd tries (register_of item) t h)
      ∙ paused-at setup place t

  -- after a pause: a read
  pub wait-reads : (t v : ℕ) → t + 1 < tries
      → stepped (state setup place (2 * t + 2) 0) v ≡ record { action = action.Read (register_of item); state = state setup place (2 * (t + 1) + 1) 0 }
  wait-reads t v h =
      stays setup place sound (2 * t + 2) v (action.Read (register_of item)) (omega arith) (omega (arith, most, h))
      (wait-over tries (2 * t + 2) v item is ∙ seen-even t (ready item v))
      (wait-intended tries (2 * t + 2) v item is ∙ waiting-even tries (register_of item) t)
      ∙ read_at setup place (register_of item) t

  -- after read number W of what is not ready: 10, with the register, and no pause
  pub wait-refuses : (t v : ℕ) → t + 1 ≡ tries → ready item v ≡ false
      → stepped (state setup place (2 * t + 1) 0) v
      ≡ record { action = action.Refused (Waited (register_of item)); state = state setup place (2 * t + 1) WAITED }
  wait-refuses t v h f =
      stays setup place sound (2 * t + 1) v (action.Refused (Waited (register_of item))) (omega arith) (omega (arith, most, h))
      (wait-over tries (2 * t + 1) v item is ∙ seen-odd t (ready item v) ∙ f)
      (wait-intended tries (2 * t + 1) v item is ∙ waiting-last tries (register_of item) t h)

  -- after a read of what is ready: the first action of the next item
  pub wait-passes : (t v : ℕ) → t < tries → ready item v ≡ true → stepped (state setup place (2 * t + 1) 0) v ≡ acted setup (place + 1) 0 v
  wait-passes t v h f =
      goes setup place sound (2 * t + 1) v (omega arith) (omega (arith, most, h))
      (wait-over tries (2 * t + 1) v item is ∙ seen-odd t (ready item v) ∙ f)

  -- a wait that never passes, its first read made: W - 1 times a pause and a read, then 10
  pub wait-out : (v : ℕ → ℕ) → ((k : ℕ) → ready item (v k) ≡ false)
      → actions v 0 (2 * (tries - 1) + 1) (state setup place 1 0)
      ≡ turns (tries - 1) (register_of item) ++ (action.Refused (Waited (register_of item)) ∷ [])
  wait-out v f =
      turns-left setup place (register_of item) tries v (action.Refused (Waited (register_of item)))
      (λ t k h. wait-pauses t (v k) h (f k))
      (λ t k h. wait-reads t (v k) h)
      (λ t k h. ap (λ r. r.action) (wait-refuses t (v k) h (f k)))
      (tries - 1) 0 0 (omega (arith, sound.some))

-- at any time at most W reads and W - 1 pauses of a wait were made: they take turns, and a read is the first
pub wait-most : (s : State) → Sound s → waits (here s) ≡ true → ((s.made + 1) / 2 ≤ s.setup.tries) × (s.made / 2 ≤ s.setup.tries - 1)
wait-most s sound is =
    let h = made-most _ _ _ _ _ _ sound.kept in
    let c = wait-cost s.setup.tries 0 0 (here s) is in
    (omega (arith, h, c, sound.some), omega (arith, h, c, sound.some))

-- and it begins with a read
pub wait-begins : (setup : Setup) (place v : ℕ) → waits (item_at setup place) ≡ true → reachable setup.map (item_at setup place) ≡ true
    → acted setup place 0 v ≡ record { action = action.Read (register_of (item_at setup place)); state = state setup place 1 0 }
unfolding answer waiting
wait-begins setup place v is r = rw (r, wait-intended setup.tries 0 v (item_at setup place) is)

-- ---- the link wait: the last item

module _ (setup : Setup) (place register : ℕ) (sound : Sound (state setup place 1 0)) (is : item_at setup place ≡ Link register)
    (end : item_at setup (place + 1) ≡ End) where
  link-over : (m v : ℕ) → over (item_at setup place) m v ≡ pick (leb LINK-ACTIONS m) true (seen m (link_up v))
  link-over m v = rw is

  link-intended : (m v : ℕ) → intended setup.tries (item_at setup place) m v ≡ looking register m
  link-intended m v = rw is

  link-cost : cost setup.tries (item_at setup place) ≡ LINK-ACTIONS
  link-cost = rw is

  looking-odd : (t : ℕ) → looking register (2 * t + 1) ≡ action.Pause WAIT-MS
  unfolding looking
  looking-odd t = simp (ne_eqb ((2 * t + 1) % 2) 0 (λ z. omega arith))

  looking-even : (t : ℕ) → looking register (2 * t + 2) ≡ action.Read register
  unfolding looking
  looking-even t = simp (eq-eqb ((2 * t + 2) % 2) 0 (omega arith))

  pub link-pauses : (t v : ℕ) → t + 1 < LINK-READS → link_up v ≡ false
      → stepped (state setup place (2 * t + 1) 0) v ≡ record { action = action.Pause WAIT-MS; state = state setup place (2 * t + 2) 0 }
  link-pauses t v h f =
      stays setup place sound (2 * t + 1) v (action.Pause WAIT-MS) (omega arith) (omega (arith, link-cost, h))
      (link-over (2 * t + 1) v ∙ simp (lt-leb LINK-ACTIONS (2 * t + 1) (omega arith)) (seen-odd t (link_up v) ∙ f))
      (link-intended (2 * t + 1) v ∙ looking-odd t)
      ∙ paused-at setup place t

  pub link-reads : (t v : ℕ) → t + 1 < LINK-READS
      → stepped (state setup place (2 * t + 2) 0) v ≡ record { action = action.Read register; state = state setup place (2 * (t + 1) + 1) 0 }
  link-reads t v h =
      stays setup place sound (2 * t + 2) v (action.Read register) (omega arith) (omega (arith, link-cost, h))
      (link-over (2 * t + 2) v ∙ simp (lt-leb LINK-ACTIONS (2 * t + 2) (omega arith)) (seen-even t (link_up v)))
      (link-intended (2 * t + 2) v ∙ looking-even t)
      ∙ read_at setup place register t

  -- after the last read, and after any that finds a link: Done
  pub link-done : (t v : ℕ) → t < LINK-READS → (t + 1 ≡ LINK-READS) ⊎ (link_up v ≡ true)
      → stepped (state setup place (2 * t + 1) 0) v ≡ record { action = action.Done; state = state setup (place + 1) 0 0 }
  link-done t v h which =
      goes setup place sound (2 * t + 1) v (omega arith) (omega (arith, link-cost, h)) (link-over (2 * t + 1) v ∙ by-case which)
      ∙ acted-end setup (place + 1) 0 end v
    where
      either_way : (b : Bool) → pick b true true ≡ true
      either_way true = refl
      either_way false = refl

      by-case : (t + 1 ≡ LINK-READS) ⊎ (link_up v ≡ true) → pick (leb LINK-ACTIONS (2 * t + 1)) true (seen (2 * t + 1) (link_up v)) ≡ true
      by-case (inl e) = rw (le-leb LINK-ACTIONS (2 * t + 1) (omega (arith, e)))
      by-case (inr u) = rw (seen-odd t (link_up v) ∙ u) (either_way (leb LINK-ACTIONS (2 * t + 1)))

  -- a link that never comes up, its first read made: 100 times a pause and a read, then Done
  pub link-out : (v : ℕ → ℕ) → ((k : ℕ) → link_up (v k) ≡ false)
      → actions v 0 LINK-ACTIONS (state setup place 1 0) ≡ turns (LINK-READS - 1) register ++ (action.Done ∷ [])
  link-out v f =
      turns-left setup place register LINK-READS v action.Done
      (λ t k h. link-pauses t (v k) h (f k))
      (λ t k h. link-reads t (v k) h)
      (λ t k h. ap (λ r. r.action) (link-done t (v k) (omega (arith, h)) (inl h)))
      (LINK-READS - 1) 0 0 (omega arith)

-- at any time at most 101 reads and 100 pauses were made
pub link-most : (s : State) (register : ℕ) → Sound s → here s ≡ Link register → ((s.made + 1) / 2 ≤ LINK-READS) × (s.made / 2 ≤ LINK-READS - 1)
link-most s register sound is =
    let h = made-most _ _ _ _ _ _ sound.kept in
    let c : cost s.setup.tries (here s) ≡ LINK-ACTIONS = rw is in
    (omega (arith, h, c), omega (arith, h, c))
