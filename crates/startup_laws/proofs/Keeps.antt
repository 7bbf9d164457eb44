-- A sound state stays sound, and every run from it ends: a step that does not end the run leaves fewer actions. A refusal is kept with its
-- number, so it is repeated, and its number is 10 or 11. Assumes nothing.
use Prim.Native.Nat.{ℕ, zero, suc, ◌+◌, ◌-◌, ◌*◌, ◌%◌, ◌≤◌, ◌<◌}
use mathlib.Core.Path.{◌≡◌, refl, sym, ap, ◌∙◌}
use mathlib.Core.Bool.{Bool, true, false}
use mathlib.Core.Logic.{◌⊎◌, inl, inr}
use mathlib.Core.List.{List, [], ◌∷◌}
use native.Mathlib.Decide.{dec_lt, ℕ_discrete}
use native.Mathlib.Nat.{not-suc-le-zero}
use native.Mathlib.Numerals.{add-one}
use native.Mathlib.Omega.{arith}
use borrow.Author.Tests.{eqb-true, eqb-false, leb-false}
use lib.Arith.{lt_of_le-ne}
use lib.Dec.{eqb, leb}
use lib.ListN.{length, get_or, drop, get_or-eq_default}
use lib.Seq.{drop-cons}
use Rattle.laws.specs.Test.{pick}
use Rattle.plan.specs.Sequence.{sequence}
use Rattle.plan.specs.declared.Setup.{Setup}
use Rattle.plan.specs.declared.Item.{Item}
use Rattle.plan.specs.declared.Item.TheVariants.{End, Write, Read, Change, WaitSet, WaitClear, Pause, Link}
use Rattle.refusals.specs.declared.Refusal.{Refusal}
use Rattle.refusals.specs.declared.Refusal.TheVariants.{Waited, OutsideMap}
use Rattle.refusals.specs.Numbers.{refusal_number, refusal_also}
use Rattle.startup.specs.declared.Action.{Action}
use Rattle.startup.specs.declared.Action.TheVariants as action
use Rattle.startup.specs.declared.State.{State}
use Rattle.startup.specs.declared.Stepped.{Stepped}
use Rattle.startup.specs.Machine.{WAIT-MS, WAITED, OUTSIDE, LINK-ACTIONS, seen, link_up, cost, over, waiting, looking, changing, intended, answer, reachable, waits, register_of, kept_refusal, settled, item_at, here, state, step_of, stepped, Kept, first, done, begun, failed, outside, Sound}
use Rattle.startup.proofs.Sound.{made-most, facts-sound}
use Rattle.startup.proofs.Ways.{step_kept, number-kept, step-next, step-here}
use Rattle.startup_laws.specs.Run.{ends, Ends, now, later, total, left}

pub differ : true ≡ false → ⊥
differ e = let z : ◌≡◌ {A = ℕ} 0 1 = cc in omega arith

-- a refusal is kept with its number, and is 10 or 11 with the item's register
abbrev Again : Item → Stepped → Type 0
Again i r =
    (why : Refusal) → r.action ≡ action.Refused why
    → (r.state.kept ≡ refusal_number why) × ((why ≡ Waited (register_of i)) ⊎ (why ≡ OutsideMap (register_of i)))

quiet : {X : Type 0} (a : Action) → ends a ≡ false → (why : Refusal) → a ≡ action.Refused why → X
quiet a e why f = absurd (differ (sym (ap ends f) ∙ e))

kept_again : (i : Item) (why : Refusal) (t : State) → t.kept ≡ refusal_number why → (why ≡ Waited (register_of i)) ⊎ (why ≡ OutsideMap (register_of i))
    → Again i (record { action = action.Refused why; state = t })
kept_again i why t k which why' f =
    let e : why ≡ why' = cc in
    (k ∙ ap refusal_number e, by_case which e)
  where
    by_case : (why ≡ Waited (register_of i)) ⊎ (why ≡ OutsideMap (register_of i)) → why ≡ why'
        → (why' ≡ Waited (register_of i)) ⊎ (why' ≡ OutsideMap (register_of i))
    by_case (inl z) e = inl (sym e ∙ z)
    by_case (inr z) e = inr (sym e ∙ z)

-- a kept number, 10 or 11, says which refusal it is, and the other way
which-kept : (n register : ℕ) → (n ≡ WAITED) ⊎ (n ≡ OUTSIDE) → (kept_refusal n register ≡ Waited register) ⊎ (kept_refusal n register ≡ OutsideMap register)
which-kept n register (inl k) = inl (rw k)
which-kept n register (inr k) = inr (rw k)

module _ (why : Refusal) (register : ℕ) where
  again-kept : (why ≡ Waited register) ⊎ (why ≡ OutsideMap register) → kept_refusal (refusal_number why) register ≡ why
  again-kept (inl z) = rw z
  again-kept (inr z) = rw z

  number-of : (why ≡ Waited register) ⊎ (why ≡ OutsideMap register) → (refusal_number why ≡ WAITED) ⊎ (refusal_number why ≡ OUTSIDE)
  number-of (inl z) = inl (rw z)
  number-of (inr z) = inr (rw z)

  also-of : (why ≡ Waited register) ⊎ (why ≡ OutsideMap register) → refusal_also why ≡ register
  also-of (inl z) = rw z
  also-of (inr z) = rw z

-- ---- an action

-- what an item's next action leaves: the place, a right count and refusal, and an end or one more action made
record Progress (setup : Setup) (place made : ℕ) (i : Item) (r : Stepped) : Type 0 where
  pub same : r.state.setup ≡ setup
  pub stays : r.state.place ≡ place
  pub kept : Kept setup.map setup.tries i place r.state.made r.state.kept
  pub moved : (ends r.action ≡ true) ⊎ ((made < cost setup.tries i) × (r.state.made ≡ made + 1))
  pub again : Again i r

module _ (setup : Setup) (place made v : ℕ) (some : 0 < setup.tries) where
  abbrev w : ℕ
  w = setup.tries

  -- an action that does not end the run
  on : (i : Item) (a : Action) → reachable setup.map i ≡ true → made < cost w i → ends a ≡ false
      → Progress setup place made i (settled setup place made a)
  on i (action.Read register) r h e =
      record { same = refl; stays = refl; kept = begun refl (omega arith) (omega arith) r; moved = inr (h, refl); again = λ why f. quiet (action.Read register) refl why f }
  on i (action.Write register x) r h e =
      record { same = refl; stays = refl; kept = begun refl (omega arith) (omega arith) r; moved = inr (h, refl); again = λ why f. quiet (action.Write register x) refl why f }
  on i (action.Pause ms) r h e =
      record { same = refl; stays = refl; kept = begun refl (omega arith) (omega arith) r; moved = inr (h, refl); again = λ why f. quiet (action.Pause ms) refl why f }
  on i action.Done r h e = absurd (differ e)
  on i (action.Refused why) r h e = absurd (differ e)

  wait : (i : Item) (register : ℕ) (a b : Bool) → eqb (made % 2) 0 ≡ a → eqb made (2 * w - 1) ≡ b
      → register_of i ≡ register → waits i ≡ true → cost w i ≡ 2 * w - 1 → reachable setup.map i ≡ true → made ≤ cost w i
      → Progress setup place made i (settled setup place made (pick a (action.Read register) (pick b (action.Refused (Waited register)) (action.Pause WAIT-MS))))
  wait i register true b e f g q c r h = on i (action.Read register) r (omega (arith, c, h, some, eqb-true (made % 2) 0 e)) refl
  wait i register false true e f g q c r h =
      record {
        same = refl;
        stays = refl;
        kept = failed refl (omega (arith, c, eqb-true made (2 * w - 1) f)) q r;
        moved = inl refl;
        again = kept_again i (Waited register) (state setup place made WAITED) refl (inl (rw g));
      }
  wait i register false false e f g q c r h =
      let h' : made ≤ 2 * w - 1 = omega (arith, c, h) in
      on i (action.Pause WAIT-MS) r (omega (arith, c, lt_of_le-ne h' (eqb-false made (2 * w - 1) f))) refl

  look : (i : Item) (register : ℕ) (a : Bool) → reachable setup.map i ≡ true → made < cost w i
      → Progress setup place made i (settled setup place made (pick a (action.Read register) (action.Pause WAIT-MS)))
  look i register true r h = on i (action.Read register) r h refl
  look i register false r h = on i (action.Pause WAIT-MS) r h refl

  change : (i : Item) (register x : ℕ) (a : Bool) → reachable setup.map i ≡ true → made < cost w i
      → Progress setup place made i (settled setup place made (pick a (action.Read register) (action.Write register x)))
  change i register x true r h = on i (action.Read register) r h refl
  change i register x false r h = on i (action.Write register x) r h refl

  not_yet : (a b : Bool) → pick a true b ≡ false → a ≡ false
  not_yet true b e = e
  not_yet false b e = refl

  done-not : {X : Type 0} {why : Refusal} → action.Done ≡ action.Refused why → X
  done-not f = let z : ◌≡◌ {A = ℕ} 0 1 = cc in absurd (omega arith)

  -- a register in the map
  reached : (i : Item) → reachable setup.map i ≡ true → made ≤ cost w i → over i made v ≡ false
      → Progress setup place made i (settled setup place made (intended w i made v))
  unfolding waiting looking changing
  reached End r h o =
      record { same = refl; stays = refl; kept = done refl (omega arith) refl; moved = inl refl; again = λ why f. done-not f }
  reached (Write register x) r h o = on (Write register x) (action.Write register x) r (leb-false _ _ o) refl
  reached (Read register) r h o = on (Read register) (action.Read register) r (leb-false _ _ o) refl
  reached (Change register c s) r h o = change (Change register c s) register _ (eqb made 0) r (leb-false _ _ o)
  reached (WaitSet register m) r h o =
      wait (WaitSet register m) register (eqb (made % 2) 0) (eqb made (2 * w - 1)) refl refl refl refl refl r h
  reached (WaitClear register m) r h o =
      wait (WaitClear register m) register (eqb (made % 2) 0) (eqb made (2 * w - 1)) refl refl refl refl refl r h
  reached (Pause ms) r h o = on (Pause ms) (action.Pause ms) r (leb-false _ _ o) refl
  reached (Link register) r h o =
      look (Link register) register (eqb (made % 2) 0) r (leb-false _ _ (not_yet (leb LINK-ACTIONS made) (seen made (link_up v)) o))

  progress : (i : Item) → ((made ≡ 0) ⊎ (reachable setup.map i ≡ true)) → made ≤ cost w i → over i made v ≡ false
      → Progress setup place made i (settled setup place made (answer setup.map w i made v))
  unfolding answer
  progress i was h o = by_map (reachable setup.map i) refl
    where
      unmade : (made ≡ 0) ⊎ (reachable setup.map i ≡ true) → reachable setup.map i ≡ false → made ≡ 0
      unmade (inl z) e = z
      unmade (inr r) e = absurd (differ (sym r ∙ e))

      by_map : (b : Bool) → reachable setup.map i ≡ b
          → Progress setup place made i (settled setup place made (pick b (intended w i made v) (action.Refused (OutsideMap (register_of i)))))
      by_map true r = reached i r h o
      by_map false r =
          record {
            same = refl;
            stays = refl;
            kept = outside refl (unmade was r) r;
            moved = inl refl;
            again = kept_again i (OutsideMap (register_of i)) (state setup place made OUTSIDE) refl (inr refl);
          }

-- an item is not over before its first action
pub over_first : (i : Item) (v : ℕ) → over i 0 v ≡ false
unfolding seen
over_first End v = refl
over_first (Write register x) v = refl
over_first (Read register) v = refl
over_first (Change register c s) v = refl
over_first (WaitSet register m) v = refl
over_first (WaitClear register m) v = refl
over_first (Pause ms) v = refl
over_first (Link register) v = refl

-- ---- the actions left

cost-total : (w : ℕ) (l : List Item) (k : ℕ) → cost w (get_or l k End) ≤ total w (drop k l)
cost-total w [] zero = omega arith
cost-total w [] (suc k) = omega arith
cost-total w (i ∷ l) zero = omega arith
cost-total w (i ∷ l) (suc k) = cost-total w l k

total-drop : (w : ℕ) (l : List Item) (k : ℕ) → k < length l → total w (drop k l) ≡ cost w (get_or l k End) + total w (drop (k + 1) l)
total-drop w l k h = ap (total w) (drop-cons l k End h) ∙ rw add-one

-- only an item can be over
inside : (l : List Item) (k made v : ℕ) → over (get_or l k End) made v ≡ true → k < length l
inside l k made v o = by-case (dec_lt k (length l))
  where
    by-case : Dec (k < length l) → k < length l
    by-case (yes h) = h
    by-case (no h) =
        let e : get_or l k End ≡ End = get_or-eq_default l End {n = k} (omega (arith, h)) in
        absurd (differ (sym o ∙ ap (λ i. over i made v) e))

-- ---- a step

-- what a step leaves: a sound state of the same set-up, and an end or fewer actions
record Kept-on (s : State) (r : Stepped) : Type 0 where
  pub sound : Sound r.state
  pub same : r.state.setup ≡ s.setup
  pub moved : (ends r.action ≡ true) ⊎ (left r.state < left s)
  pub again : Again (here r.state) r

module _ (s : State) (sound : Sound s) where
  abbrev seq : List Item
  seq = sequence s.setup

  abbrev Passed : ℕ → Type 0
  Passed place = (k : ℕ) → k < place → reachable s.setup.map (item_at s.setup k) ≡ true

  -- one more place, whose register is in the map
  passed_on : reachable s.setup.map (here s) ≡ true → Passed (s.place + 1)
  passed_on r k h = by-case (ℕ_discrete k s.place)
    where
      by-case : Dec (k ≡ s.place) → reachable s.setup.map (item_at s.setup k) ≡ true
      by-case (yes e) = rw e r
      by-case (no ne) = sound.passed k (lt_of_le-ne (omega arith) ne)

  sound-at : (t : State) → t.setup ≡ s.setup → t.place ≤ length seq → Passed t.place
      → Kept s.setup.map s.setup.tries (item_at s.setup t.place) t.place t.made t.kept → Sound t
  sound-at t e p b k =
      record {
        receives = rw e sound.receives;
        sends = rw e sound.sends;
        some = rw e sound.some;
        few = rw e sound.few;
        kind = rw e sound.kind;
        place = rw e p;
        passed = rw e b;
        kept = rw e k;
      }

  -- progress at a place of the sequence is a step's, if the place has no more left than the state
  of-progress : (place made : ℕ) (r : Stepped) → Progress s.setup place made (item_at s.setup place) r → place ≤ length seq
      → Passed place → total s.setup.tries (drop place seq) - made ≤ left s → Kept-on s r
  of-progress place made r p h b fewer =
      record {
        sound = sound-at r.state p.same (rw p.stays h) (rw p.stays b) (rw p.stays p.kept);
        same = p.same;
        moved = less p.moved;
        again = rw (p.same, p.stays) p.again;
      }
    where
      less : (ends r.action ≡ true) ⊎ ((made < cost s.setup.tries (item_at s.setup place)) × (r.state.made ≡ made + 1))
          → (ends r.action ≡ true) ⊎ (left r.state < left s)
      less (inl e) = inl e
      less (inr q) =
          inr (rw (p.same, p.stays, q.1) (omega (arith, q.0, fewer, cost-total s.setup.tries seq place)))

  zero-kept : (v : ℕ) → s.kept ≡ 0 → ((s.made ≡ 0) ⊎ (reachable s.setup.map (here s) ≡ true)) → Kept-on s (step_of s v)
  zero-kept v z was = by_over (over (here s) s.made v) refl
    where
      most : s.made ≤ cost s.setup.tries (here s)
      most = made-most _ _ _ _ _ _ sound.kept

      -- an item that is over was begun, so its register is in the map
      met : (s.made ≡ 0) ⊎ (reachable s.setup.map (here s) ≡ true) → over (here s) s.made v ≡ true
          → reachable s.setup.map (here s) ≡ true
      met (inl m) o = absurd (differ (sym (rw m at o) ∙ over_first (here s) v))
      met (inr r) o = r

      by_over : (b : Bool) → over (here s) s.made v ≡ b → Kept-on s (step_of s v)
      by_over true o =
          let h = inside seq s.place s.made v o in
          rw (step-next s v z o)
          (of-progress (s.place + 1) 0 _
          (progress s.setup (s.place + 1) 0 v sound.some (item_at s.setup (s.place + 1)) (inl refl) (omega arith) (over_first (item_at s.setup (s.place + 1)) v))
          (omega (arith, h))
          (passed_on (met was o))
          (omega (arith, most, total-drop s.setup.tries seq s.place h)))
      by_over false o =
          rw (step-here s v z o)
          (of-progress s.place s.made _
          (progress s.setup s.place s.made v sound.some (here s) was most o)
          sound.place
          sound.passed
          (omega arith))

  keeps : (v : ℕ) → Kept-on s (step_of s v)
  keeps v = by-kept sound.kept
    where
      refused : (s.kept ≡ 0 → ⊥) → (s.kept ≡ WAITED) ⊎ (s.kept ≡ OUTSIDE) → Kept-on s (step_of s v)
      refused n which =
          rw (step_kept s v n)
          (record {
            sound = sound;
            same = refl;
            moved = inl refl;
            again = kept_again (here s) (kept_refusal s.kept (register_of (here s))) s (sym (number-kept s.kept (register_of (here s)) which)) (which-kept _ _ which);
          })

      by-kept : Kept s.setup.map s.setup.tries (here s) s.place s.made s.kept → Kept-on s (step_of s v)
      by-kept (first k m p) = zero-kept v k (inl m)
      by-kept (done k m e) = zero-kept v k (inl m)
      by-kept (begun k b h r) = zero-kept v k (inr r)
      by-kept (failed k m a r) = refused (λ z. omega (arith, k, z)) (inl k)
      by-kept (outside k m r) = refused (λ z. omega (arith, k, z)) (inr k)

  -- a step of a sound state is no refusal with 1
  pub sound-steps : (v : ℕ) → stepped s v ≡ step_of s v
  unfolding stepped
  sound-steps v = simp (facts-sound s sound)

  -- a sound state stays sound, and of the same set-up
  pub stays-sound : (v : ℕ) → Sound (stepped s v).state
  stays-sound v = rw (sound-steps v) (keeps v).sound

  pub stays-set-up : (v : ℕ) → (stepped s v).state.setup ≡ s.setup
  stays-set-up v = rw (sound-steps v) (keeps v).same

  -- a step ends the run or leaves fewer actions
  pub moves : (v : ℕ) → (ends (stepped s v).action ≡ true) ⊎ (left (stepped s v).state < left s)
  moves v = rw (sound-steps v) (keeps v).moved

  -- a step of a sound state is refused with 10 or 11 only, never with 1, and with the register of the item that it is at then
  refused-again-with : (v : ℕ) (why : Refusal) → (stepped s v).action ≡ action.Refused why
      → ((stepped s v).state.kept ≡ refusal_number why)
      × ((why ≡ Waited (register_of (here (stepped s v).state))) ⊎ (why ≡ OutsideMap (register_of (here (stepped s v).state))))
  refused-again-with v = rw (sound-steps v) (keeps v).again

  pub refused-with : (v : ℕ) (why : Refusal) → (stepped s v).action ≡ action.Refused why
      → ((refusal_number why ≡ WAITED) ⊎ (refusal_number why ≡ OUTSIDE)) × (refusal_also why ≡ register_of (here (stepped s v).state))
  refused-with v why e = (number-of why _ (refused-again-with v why e).1, also-of why _ (refused-again-with v why e).1)

-- a start-up that refused makes no further action and repeats its refusal: its state stays
pub refused-again : (s : State) → Sound s → (v : ℕ) (why : Refusal) → (stepped s v).action ≡ action.Refused why
    → (v' : ℕ) → stepped (stepped s v).state v' ≡ record { action = action.Refused why; state = (stepped s v).state }
refused-again s sound v why e v' =
    let k = refused-again-with s sound v why e in
    sound-steps (stepped s v).state (stays-sound s sound v) v'
    ∙ step_kept (stepped s v).state v' (λ z. by_number (number-of why _ k.1) (sym k.0 ∙ z))
    ∙ rw (k.0, again-kept why _ k.1)
  where
    by_number : (refusal_number why ≡ WAITED) ⊎ (refusal_number why ≡ OUTSIDE) → refusal_number why ≡ 0 → ⊥
    by_number (inl a) b = omega (arith, a, b)
    by_number (inr a) b = omega (arith, a, b)

-- ---- a run

-- from a sound state, one of the next steps ends the run, whatever is read: one more than the actions left
run_ends : (v : ℕ → ℕ) (n k : ℕ) (s : State) → Sound s → left s < n → Ends v k n s
run_ends v zero k s sound h = absurd (not-suc-le-zero h)
run_ends v (suc n) k s sound h =
    by_move (moves s sound (v k)) (λ l. run_ends v n (suc k) (stepped s (v k)).state (stays-sound s sound (v k)) (omega (arith, l, h)))
  where
    by_move : (ends (stepped s (v k)).action ≡ true) ⊎ (left (stepped s (v k)).state < left s)
        → (left (stepped s (v k)).state < left s → Ends v (suc k) n (stepped s (v k)).state) → Ends v k (suc n) s
    by_move (inl e) rest = now e
    by_move (inr l) rest = later (rest l)

pub every-run-ends : (v : ℕ → ℕ) (s : State) → Sound s → Ends v 0 (suc (left s)) s
every-run-ends v s sound = run_ends v (suc (left s)) 0 s sound (omega arith)
