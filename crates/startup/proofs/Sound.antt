-- Soundness as a test and as facts, both ways: each test means its fact, in order. And what the machine's functions need of it.
-- Assumes nothing.
use Prim.Native.Nat.{ℕ, ◌≤◌, ◌<◌}
use mathlib.Core.Path.{◌≡◌, refl}
use mathlib.Core.Bool.{Bool, true, false, not}
use native.Mathlib.Omega.{arith}
use borrow.Author.Tests.{eqb-true, leb-true, eqb-false, eq-eqb, ne_eqb, le-leb, not-true}
use lib.Dec.{eqb, leb}
use lib.ListN.{length}
use Rattle.limits.specs.Limits.{QUEUES, TRIES}
use Rattle.laws.specs.Test.{pick, both, either}
use Rattle.laws.proofs.Test.{both_left, both_right, either_true}
use Rattle.plan.specs.Sequence.{Ranged, sequence, ITEMS}
use Rattle.plan.proofs.Laws.{length-few}
use Rattle.plan.specs.declared.Setup.{Setup}
use Rattle.plan.specs.declared.Item.{Item}
use Rattle.startup.specs.declared.State.{State}
use Rattle.startup.specs.Machine.{WAITED, OUTSIDE, cost, waits, is_end, reachable, here, in_range, kind_ok, setup_ok, all_passed, kept_ok, sound_of, Kept, first, done, begun, failed, outside, Sound, Good}
use Rattle.startup.proofs.Map.{passed-at, passed-all}

-- ---- what is kept

module _ (map w : ℕ) (i : Item) (place made kept : ℕ) where
  none-facts : kept ≡ 0 → (c : Bool) → eqb made 0 ≡ c
      → pick c (either (eqb place 0) (is_end i)) (both (reachable map i) (leb made (cost w i))) ≡ true → Kept map w i place made kept
  none-facts k true f h = by_place (eqb place 0) refl h
    where
      by_place : (b : Bool) → eqb place 0 ≡ b → either b (is_end i) ≡ true → Kept map w i place made kept
      by_place true e h = first k (eqb-true _ _ f) (eqb-true _ _ e)
      by_place false e h = done k (eqb-true _ _ f) h
  none-facts k false f h =
      begun k (omega (arith, eqb-false made 0 f)) (leb-true _ _ (both_right (reachable map i) _ h)) (both_left (reachable map i) _ h)

  pub kept-facts : kept_ok map w i place made kept ≡ true → Kept map w i place made kept
  unfolding kept_ok
  kept-facts = by-eleven (eqb kept OUTSIDE) refl
    where
      by_ten : (b : Bool) → eqb kept WAITED ≡ b
          → pick b (both (waits i) (both (reachable map i) (eqb made (cost w i))))
          (both (eqb kept 0) (pick (eqb made 0) (either (eqb place 0) (is_end i)) (both (reachable map i) (leb made (cost w i))))) ≡ true
          → Kept map w i place made kept
      by_ten true e h =
          let r = both_right (waits i) _ h in
          failed (eqb-true _ _ e) (eqb-true _ _ (both_right (reachable map i) _ r)) (both_left (waits i) _ h) (both_left (reachable map i) _ r)
      by_ten false e h =
          none-facts (eqb-true _ _ (both_left (eqb kept 0) _ h)) (eqb made 0) refl (both_right (eqb kept 0) _ h)

      by-eleven : (b : Bool) → eqb kept OUTSIDE ≡ b
          → pick b (both (eqb made 0) (not (reachable map i)))
          (pick (eqb kept WAITED) (both (waits i) (both (reachable map i) (eqb made (cost w i))))
          (both (eqb kept 0) (pick (eqb made 0) (either (eqb place 0) (is_end i)) (both (reachable map i) (leb made (cost w i)))))) ≡ true
          → Kept map w i place made kept
      by-eleven true e h =
          outside (eqb-true _ _ e) (eqb-true _ _ (both_left (eqb made 0) _ h)) (not-true _ (both_right (eqb made 0) _ h))
      by-eleven false e h = by_ten (eqb kept WAITED) refl h

  pub facts-kept : Kept map w i place made kept → kept_ok map w i place made kept ≡ true
  unfolding kept_ok
  facts-kept (first k m p) = rw (k, m, p)
  facts-kept (done k m e) = rw (k, m, e) (either_true (eqb place 0))
  facts-kept (begun k s h r) = rw k (simp (ne_eqb made 0 (λ z. omega arith), r, le-leb _ _ h))
  facts-kept (failed k m a r) = rw k (simp (a, r, eq-eqb _ _ m))
  facts-kept (outside k m r) = rw (k, m) (simp r)

-- ---- the set-up numbers

module _ (receives sends tries : ℕ) where
  pub range-facts : in_range receives sends tries ≡ true → (receives ≤ QUEUES) × (sends ≤ QUEUES) × (0 < tries) × (tries ≤ TRIES)
  unfolding in_range
  range-facts e =
      let rest = both_right (leb receives QUEUES) _ e in
      let last = both_right (leb sends QUEUES) _ rest in (
        leb-true _ _ (both_left (leb receives QUEUES) _ e),
        leb-true _ _ (both_left (leb sends QUEUES) _ rest),
        omega (arith, eqb-false tries 0 (not-true _ (both_left (not (eqb tries 0)) _ last))),
        leb-true _ _ (both_right (not (eqb tries 0)) _ last),
      )

  pub facts-range : receives ≤ QUEUES → sends ≤ QUEUES → 0 < tries → tries ≤ TRIES → in_range receives sends tries ≡ true
  unfolding in_range
  facts-range r s t f = simp (le-leb receives QUEUES r, le-leb sends QUEUES s, ne_eqb tries 0 (λ z. omega arith), le-leb tries TRIES f)

module _ (s : Setup) (ok : setup_ok s ≡ true) where
  pub setup-range : (s.receives ≤ QUEUES) × (s.sends ≤ QUEUES) × (0 < s.tries) × (s.tries ≤ TRIES)
  unfolding setup_ok
  setup-range = range-facts s.receives s.sends s.tries (both_left _ (kind_ok s.interrupts s.receives) ok)

  pub setup-kind : kind_ok s.interrupts s.receives ≡ true
  unfolding setup_ok
  setup-kind = both_right (in_range s.receives s.sends s.tries) _ ok

-- ---- a state

module _ (s : State) where
  abbrev rest : Bool
  rest = both (all_passed s.setup s.place) (kept_ok s.setup.map s.setup.tries (here s) s.place s.made s.kept)

  pub sound-facts : sound_of s ≡ true → Sound s
  unfolding sound_of
  sound-facts e =
      let ok = both_left (setup_ok s.setup) _ e in
      let f = setup-range s.setup ok in
      let more = both_right (setup_ok s.setup) _ e in
      let last = both_right (leb s.place (length (sequence s.setup))) rest more in
      record {
        receives = f.0;
        sends = f.1;
        some = f.2;
        few = f.3;
        kind = setup-kind s.setup ok;
        place = leb-true _ _ (both_left (leb s.place (length (sequence s.setup))) rest more);
        passed = λ k h. passed-at s.setup s.place k h (both_left (all_passed s.setup s.place) _ last);
        kept = kept-facts _ _ _ _ _ _ (both_right (all_passed s.setup s.place) _ last);
      }

  pub facts-sound : Sound s → sound_of s ≡ true
  unfolding sound_of setup_ok
  facts-sound f =
      simp (
        facts-range _ _ _ f.receives f.sends f.some f.few,
        f.kind,
        le-leb s.place (length (sequence s.setup)) f.place,
        passed-all s.setup s.place f.passed,
        facts-kept _ _ _ _ _ _ f.kept,
      )

-- ---- what the functions need

-- at most all of the actions of an item were made
pub made-most : (map w : ℕ) (i : Item) (place made kept : ℕ) → Kept map w i place made kept → made ≤ cost w i
made-most map w i place made kept (first k m p) = omega (arith, m)
made-most map w i place made kept (done k m e) = omega (arith, m)
made-most map w i place made kept (begun k s h r) = h
made-most map w i place made kept (failed k m a r) = omega (arith, m)
made-most map w i place made kept (outside k m r) = omega (arith, m)

module _ {s : State} (g : Good s) where
  pub good-ranged : Ranged s.setup
  good-ranged = record { receives = g.sound.receives; sends = g.sound.sends; rings = g.rings }

  pub good-place : s.place ≤ ITEMS
  good-place = omega (arith, g.sound.place, length-few s.setup good-ranged)
