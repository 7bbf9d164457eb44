-- Soundness is exact: a state is sound if and only if some run from a set-up comes to it. One way a step keeps soundness; the other way each
-- item is passed by a value that it waits for, and is stayed at by one that it does not. Assumes nothing.
use Prim.Native.Nat.{ℕ, zero, suc, ◌+◌, ◌-◌, ◌*◌, ◌%◌, ◌≤◌, ◌<◌}
use mathlib.Core.Path.{◌≡◌, refl, sym, ap, ◌∙◌}
use mathlib.Core.Bool.{Bool, true, false, not}
use native.Mathlib.Numerals.{add-one}
use native.Mathlib.Omega.{arith}
use borrow.Author.Tests.{eqb-false, eq-eqb, ne_eqb, lt-leb, not-true}
use lib.Bits.{bit_and, and_self, and_zero_l}
use lib.Dec.{eqb}
use lib.ListN.{length}
use Rattle.limits.specs.Limits.{QUEUES}
use Rattle.laws.specs.Test.{pick}
use Rattle.card.specs.Registers.{ROWS}
use Rattle.card.specs.Masks.{link_speed}
use Rattle.parts.specs.Parts.{row_of}
use Rattle.parts.specs.declared.Template.{Template}
use Rattle.parts.specs.declared.Template.TheVariants as template
use Rattle.plan.specs.Sequence.{Ranged, sequence, filled}
use Rattle.plan.proofs.Laws.{masked, of-inside, of-every}
use Rattle.plan.specs.declared.Setup.{Setup}
use Rattle.plan.specs.declared.Item.{Item}
use Rattle.plan.specs.declared.Item.TheVariants.{End, Write, Read, Change, WaitSet, WaitClear, Pause, Link}
use Rattle.startup.specs.declared.Action.{Action}
use Rattle.startup.specs.declared.Action.TheVariants as action
use Rattle.startup.specs.declared.State.{State}
use Rattle.startup.specs.Machine.{WAITED, OUTSIDE, WAIT-MS, LINK-ACTIONS, link_up, seen, cost, over, waiting, looking, changing, intended, answer, reachable, waits, is_end, setup_ok, settled, acted, item_at, here, state, start, Kept, first, done, begun, failed, outside, Sound, Good}
use Rattle.startup.proofs.Sound.{setup-range, setup-kind, facts-range, good-ranged}
use Rattle.startup.proofs.Ways.{step-next, step-here}
use Rattle.startup_laws.specs.Run.{Reached, begins, steps}
use Rattle.startup_laws.proofs.Keeps.{differ, over_first, sound-steps, stays-sound}
use Rattle.startup_laws.proofs.Ends.{acted-end}

-- ---- a reached state is sound

start-sound : (s : Setup) → setup_ok s ≡ true → Sound (start s)
start-sound s ok =
    let f = setup-range s ok in
    record {
      receives = f.0;
      sends = f.1;
      some = f.2;
      few = f.3;
      kind = setup-kind s ok;
      place = omega arith;
      passed = λ k h. absurd (omega arith);
      kept = first refl refl refl;
    }

pub reached-sound : {s : State} → Reached s → Sound s
reached-sound (begins {s} ok) = start-sound s ok
reached-sound (steps {s} r v) = stays-sound s (reached-sound r) v

-- ---- a value that an item waits for, and one that it does not

-- a wait has something to wait for
abbrev sane : Item → Bool
sane End = true
sane (Write register x) = true
sane (Read register) = true
sane (Change register clear set) = true
sane (WaitSet register mask) = not (eqb mask 0)
sane (WaitClear register mask) = not (eqb mask 0)
sane (Pause ms) = true
sane (Link register) = true

sane-filled : (s : Setup) (queue : ℕ) (t : Template) → queue < QUEUES → row_of t < ROWS → masked t ≡ true → sane (filled s queue t) ≡ true
sane-filled s queue (template.Write row v) q r m = refl
sane-filled s queue (template.Read row) q r m = refl
sane-filled s queue (template.Change row clear set) q r m = refl
sane-filled s queue (template.WaitSet row mask) q r m = m
sane-filled s queue (template.WaitClear row mask) q r m = m
sane-filled s queue (template.Pause ms) q r m = refl
sane-filled s queue (template.Link row) q r m = refl

all-sane : (s : Setup) → Ranged s → (k : ℕ) → sane (item_at s k) ≡ true
all-sane s g k = of-every s g (λ i. sane i ≡ true) (sane-filled s) refl k

-- an item of the sequence is not its end
ends-not : (s : Setup) (queue : ℕ) (t : Template) → queue < QUEUES → row_of t < ROWS → masked t ≡ true → is_end (filled s queue t) ≡ false
ends-not s queue (template.Write row v) q r m = refl
ends-not s queue (template.Read row) q r m = refl
ends-not s queue (template.Change row clear set) q r m = refl
ends-not s queue (template.WaitSet row mask) q r m = refl
ends-not s queue (template.WaitClear row mask) q r m = refl
ends-not s queue (template.Pause ms) q r m = refl
ends-not s queue (template.Link row) q r m = refl

inside-not : (s : Setup) → Ranged s → (k : ℕ) → k < length (sequence s) → is_end (item_at s k) ≡ false
inside-not s g = of-inside s g (λ i. is_end i ≡ false) (ends-not s)

link-is-up : link_up 0x70000000 ≡ true
unfolding link_up link_speed
link-is-up = refl

link-is-down : link_up 0 ≡ false
unfolding link_up link_speed
link-is-down = refl

seen-not : (m : ℕ) → seen m false ≡ false
unfolding seen
seen-not m = by-test (eqb (m % 2) 0)
  where
    by-test : (b : Bool) → pick b false false ≡ false
    by-test true = refl
    by-test false = refl

abbrev passing : Item → ℕ
passing End = 0
passing (Write register x) = 0
passing (Read register) = 0
passing (Change register clear set) = 0
passing (WaitSet register mask) = mask
passing (WaitClear register mask) = 0
passing (Pause ms) = 0
passing (Link register) = 0x70000000

abbrev failing : Item → ℕ
failing End = 0
failing (Write register x) = 0
failing (Read register) = 0
failing (Change register clear set) = 0
failing (WaitSet register mask) = 0
failing (WaitClear register mask) = mask
failing (Pause ms) = 0
failing (Link register) = 0

-- an item has so many actions at least, and is over after them by the value that it waits for
abbrev least : Item → ℕ
least End = 0
least (Write register x) = 1
least (Read register) = 1
least (Change register clear set) = 2
least (WaitSet register mask) = 1
least (WaitClear register mask) = 1
least (Pause ms) = 1
least (Link register) = 1

least-cost : (w : ℕ) (i : Item) → 0 < w → least i ≤ cost w i
least-cost w End h = omega arith
least-cost w (Write register x) h = omega arith
least-cost w (Read register) h = omega arith
least-cost w (Change register clear set) h = omega arith
least-cost w (WaitSet register mask) h = omega arith
least-cost w (WaitClear register mask) h = omega arith
least-cost w (Pause ms) h = omega arith
least-cost w (Link register) h = omega arith

least-some : (i : Item) → is_end i ≡ false → 0 < least i
least-some End e = absurd (differ e)
least-some (Write register x) e = omega arith
least-some (Read register) e = omega arith
least-some (Change register clear set) e = omega arith
least-some (WaitSet register mask) e = omega arith
least-some (WaitClear register mask) e = omega arith
least-some (Pause ms) e = omega arith
least-some (Link register) e = omega arith

over-least : (i : Item) → is_end i ≡ false → over i (least i) (passing i) ≡ true
unfolding seen
over-least End e = absurd (differ e)
over-least (Write register x) e = refl
over-least (Read register) e = refl
over-least (Change register clear set) e = refl
over-least (WaitSet register mask) e = eq-eqb (bit_and mask mask) mask (and_self mask)
over-least (WaitClear register mask) e = eq-eqb (bit_and 0 mask) 0 (and_zero_l mask)
over-least (Pause ms) e = refl
over-least (Link register) e = link-is-up

-- it goes on by the other value while it has actions left
module _ (w m : ℕ) (some : 0 < m) where
  stays_open : (i : Item) → sane i ≡ true → m < cost w i → over i m (failing i) ≡ false
  stays_open End s h = absurd (omega arith)
  stays_open (Write register x) s h = absurd (omega arith)
  stays_open (Read register) s h = absurd (omega arith)
  stays_open (Change register clear set) s h = lt-leb 2 m (omega arith)
  stays_open (WaitSet register mask) s h =
      ap (seen m) (ne_eqb (bit_and 0 mask) mask (λ z. eqb-false mask 0 (not-true _ s) (sym (sym (and_zero_l mask) ∙ z)))) ∙ seen-not m
  stays_open (WaitClear register mask) s h =
      ap (seen m) (ne_eqb (bit_and mask mask) 0 (λ z. eqb-false mask 0 (not-true _ s) (sym (and_self mask) ∙ z))) ∙ seen-not m
  stays_open (Pause ms) s h = absurd (omega arith)
  stays_open (Link register) s h = rw (lt-leb LINK-ACTIONS m h, link-is-down) (seen-not m)

-- an action that is not the last of a wait leaves one more made
module _ (setup : Setup) (place w m v : ℕ) where
  wait-more : (register : ℕ) → m < 2 * w - 1 → (settled setup place m (waiting w register m)).state ≡ state setup place (m + 1) 0
  unfolding waiting
  wait-more register h = rw (ne_eqb m (2 * w - 1) (λ z. omega arith)) (by-test (eqb (m % 2) 0))
    where
      by-test : (b : Bool) → (settled setup place m (pick b (action.Read register) (action.Pause WAIT-MS))).state ≡ state setup place (m + 1) 0
      by-test true = refl
      by-test false = refl

  two_ways : (b : Bool) (x y : Action) → (settled setup place m x).state ≡ state setup place (m + 1) 0 → (settled setup place m y).state ≡ state setup place (m + 1) 0
      → (settled setup place m (pick b x y)).state ≡ state setup place (m + 1) 0
  two_ways true x y p q = p
  two_ways false x y p q = q

  one_more : (i : Item) → is_end i ≡ false → m < cost w i → (settled setup place m (intended w i m v)).state ≡ state setup place (m + 1) 0
  unfolding looking changing
  one_more End e h = absurd (differ e)
  one_more (Write register x) e h = refl
  one_more (Read register) e h = refl
  one_more (Change register clear set) e h = two_ways (eqb m 0) _ _ refl refl
  one_more (WaitSet register mask) e h = wait-more register h
  one_more (WaitClear register mask) e h = wait-more register h
  one_more (Pause ms) e h = refl
  one_more (Link register) e h = two_ways (eqb (m % 2) 0) _ _ refl refl

-- the last read of a wait leaves the refusal
wait-failed : (setup : Setup) (place w v : ℕ) (i : Item) → 0 < w → waits i ≡ true
    → (settled setup place (cost w i) (intended w i (cost w i) v)).state ≡ state setup place (cost w i) WAITED
unfolding waiting
wait-failed setup place w v End h e = absurd (differ (sym e))
wait-failed setup place w v (Write register x) h e = absurd (differ (sym e))
wait-failed setup place w v (Read register) h e = absurd (differ (sym e))
wait-failed setup place w v (Change register clear set) h e = absurd (differ (sym e))
wait-failed setup place w v (WaitSet register mask) h e =
    simp (ne_eqb ((2 * w - 1) % 2) 0 (λ z. omega arith), eq-eqb (2 * w - 1) (2 * w - 1) refl)
wait-failed setup place w v (WaitClear register mask) h e =
    simp (ne_eqb ((2 * w - 1) % 2) 0 (λ z. omega arith), eq-eqb (2 * w - 1) (2 * w - 1) refl)
wait-failed setup place w v (Pause ms) h e = absurd (differ (sym e))
wait-failed setup place w v (Link register) h e = absurd (differ (sym e))

-- a wait's other value fails its last read too
wait-open : (w : ℕ) (i : Item) → sane i ≡ true → waits i ≡ true → over i (cost w i) (failing i) ≡ false
wait-open w End s e = absurd (differ (sym e))
wait-open w (Write register x) s e = absurd (differ (sym e))
wait-open w (Read register) s e = absurd (differ (sym e))
wait-open w (Change register clear set) s e = absurd (differ (sym e))
wait-open w (WaitSet register mask) s e =
    ap (seen (2 * w - 1)) (ne_eqb (bit_and 0 mask) mask (λ z. eqb-false mask 0 (not-true _ s) (sym (sym (and_zero_l mask) ∙ z)))) ∙ seen-not (2 * w - 1)
wait-open w (WaitClear register mask) s e =
    ap (seen (2 * w - 1)) (ne_eqb (bit_and mask mask) 0 (λ z. eqb-false mask 0 (not-true _ s) (sym (and_self mask) ∙ z))) ∙ seen-not (2 * w - 1)
wait-open w (Pause ms) s e = absurd (differ (sym e))
wait-open w (Link register) s e = absurd (differ (sym e))

-- ---- along the sequence

module _ (setup : Setup) (ok : setup_ok setup ≡ true) (g : Ranged setup) where
  abbrev tries : ℕ
  tries = setup.tries

  abbrev In : ℕ → Type 0
  In k = reachable setup.map (item_at setup k) ≡ true

  -- a step that goes on to the next item, and one that stays
  goes : (k m v : ℕ) → Reached (state setup k m 0) → over (item_at setup k) m v ≡ true → Reached (acted setup (k + 1) 0 v).state
  goes k m v r o = rw (sound-steps (state setup k m 0) (reached-sound r) v ∙ step-next (state setup k m 0) v refl o) at (steps r v)

  stays : (k m v : ℕ) → Reached (state setup k m 0) → over (item_at setup k) m v ≡ false → Reached (acted setup k m v).state
  stays k m v r o = rw (sound-steps (state setup k m 0) (reached-sound r) v ∙ step-here (state setup k m 0) v refl o) at (steps r v)

  -- an action at an item whose register is in the map
  in_map : (k m v : ℕ) → In k → (acted setup k m v).state ≡ (settled setup k m (intended tries (item_at setup k) m v)).state
  unfolding answer
  in_map k m v r = rw r

  -- one more action, by the value that is not waited for
  climbs : (k m : ℕ) → In k → is_end (item_at setup k) ≡ false → 0 < m → m < cost tries (item_at setup k) → Reached (state setup k m 0)
      → Reached (state setup k (m + 1) 0)
  climbs k m i e p h r =
      let v = failing (item_at setup k) in
      let on = stays k m v r (stays_open tries m p (item_at setup k) (all-sane setup g k) h) in
      rw (in_map k m v i ∙ one_more setup k tries m v (item_at setup k) e h) at on

  climb : (k n : ℕ) → In k → is_end (item_at setup k) ≡ false → suc n ≤ cost tries (item_at setup k) → Reached (state setup k 1 0)
      → Reached (state setup k (suc n) 0)
  climb k zero i e h r = r
  climb k (suc n) i e h r =
      rw add-one at (climbs k (suc n) i e (omega arith) (omega arith) (climb k n i e (omega arith) r))

  -- the first action of an item
  entered : (k v : ℕ) → In k → is_end (item_at setup k) ≡ false → Reached (acted setup k 0 v).state → Reached (state setup k 1 0)
  entered k v i e r =
      let some : 0 < cost tries (item_at setup k) = omega (arith, least-some (item_at setup k) e, least-cost tries (item_at setup k) (setup-range setup ok).2) in
      rw (in_map k 0 v i ∙ one_more setup k tries 0 v (item_at setup k) e some) at r

  -- all of its actions that must be made
  finished : (k : ℕ) → In k → is_end (item_at setup k) ≡ false → Reached (state setup k 1 0) → Reached (state setup k (least (item_at setup k)) 0)
  finished k i e r =
      let some = least-some (item_at setup k) e in
      let n : suc (least (item_at setup k) - 1) ≡ least (item_at setup k) = omega arith in
      rw n at (climb k (least (item_at setup k) - 1) i e (omega (arith, n, least-cost tries (item_at setup k) (setup-range setup ok).2)) r)

  -- every place is come to whose registers before are in the map
  arrives : (k : ℕ) → k ≤ length (sequence setup) → ((j : ℕ) → j < k → In j) → (v : ℕ) × Reached (acted setup k 0 v).state
  arrives zero h before = (0, stays 0 0 0 (begins ok) (over_first (item_at setup 0) 0))
  arrives (suc k) h before =
      let i = before k (omega arith) in
      let e = inside-not setup g k (omega arith) in
      let item = item_at setup k in
      let at = arrives k (omega arith) (λ j l. before j (omega arith)) in
      let made : Reached (state setup k (least item) 0) = finished k i e (entered k at.0 i e at.1) in
      (passing item, rw add-one at (goes k (least item) (passing item) made (over-least item e)))

-- an item that is the end; a wait has an action; and a register that is not in the map
end_is : (i : Item) → is_end i ≡ true → i ≡ End
end_is End e = refl
end_is (Write register x) e = absurd (differ (sym e))
end_is (Read register) e = absurd (differ (sym e))
end_is (Change register clear set) e = absurd (differ (sym e))
end_is (WaitSet register mask) e = absurd (differ (sym e))
end_is (WaitClear register mask) e = absurd (differ (sym e))
end_is (Pause ms) e = absurd (differ (sym e))
end_is (Link register) e = absurd (differ (sym e))

wait-some : (w : ℕ) (i : Item) → 0 < w → waits i ≡ true → 0 < cost w i
wait-some w End h e = absurd (differ (sym e))
wait-some w (Write register x) h e = absurd (differ (sym e))
wait-some w (Read register) h e = absurd (differ (sym e))
wait-some w (Change register clear set) h e = absurd (differ (sym e))
wait-some w (WaitSet register mask) h e = omega arith
wait-some w (WaitClear register mask) h e = omega arith
wait-some w (Pause ms) h e = absurd (differ (sym e))
wait-some w (Link register) h e = absurd (differ (sym e))

out-of-map : (setup : Setup) (place v : ℕ) → reachable setup.map (item_at setup place) ≡ false
    → (acted setup place 0 v).state ≡ state setup place 0 OUTSIDE
unfolding answer
out-of-map setup place v r = rw r

-- a sound state is reached: its place is come to, and then its item's actions are made
module _ (s : State) (g : Good s) where
  abbrev setup : Setup
  setup = s.setup

  abbrev item : Item
  item = here s

  numbers : setup_ok setup ≡ true
  unfolding setup_ok
  numbers = simp (facts-range _ _ _ g.sound.receives g.sound.sends g.sound.some g.sound.few, g.sound.kind)

  ranged : Ranged setup
  ranged = good-ranged g

  arrived : (v : ℕ) × Reached (acted setup s.place 0 v).state
  arrived = arrives setup numbers ranged s.place g.sound.place g.sound.passed

  -- by its numbers
  same : (m n : ℕ) → s.made ≡ m → s.kept ≡ n → Reached (state setup s.place m n) → Reached s
  same m n p q r =
      let e : state setup s.place m n ≡ s = ap (λ k. state setup s.place k n) (sym p) ∙ ap (λ k. state setup s.place s.made k) (sym q) in
      rw e at r

  not_end : 0 < cost setup.tries item → is_end item ≡ false
  not_end h = by_end (is_end item) refl
    where
      by_end : (b : Bool) → is_end item ≡ b → is_end item ≡ false
      by_end true e = absurd (omega (arith, h, ap (cost setup.tries) (end_is item e)))
      by_end false e = e

  up_to : (n : ℕ) → reachable setup.map item ≡ true → is_end item ≡ false → suc n ≤ cost setup.tries item
      → Reached (state setup s.place (suc n) 0)
  up_to n i e h =
      climb setup numbers ranged s.place n i e h (entered setup numbers ranged s.place arrived.0 i e arrived.1)

  pub sound-reached : Reached s
  unfolding answer
  sound-reached = by-kept g.sound.kept
    where
      by-kept : Kept setup.map setup.tries item s.place s.made s.kept → Reached s
      by-kept (first k m p) =
          let e : start setup ≡ s = ap (λ x. state setup x 0 0) (sym p) ∙ ap (λ x. state setup s.place x 0) (sym m) ∙ ap (λ x. state setup s.place s.made x) (sym k) in
          rw e at (begins numbers)
      by-kept (done k m e) = same 0 0 m k (rw (acted-end setup s.place 0 (end_is item e) arrived.0) at arrived.1)
      by-kept (begun k p h r) =
          let n : suc (s.made - 1) ≡ s.made = omega arith in
          same (suc (s.made - 1)) 0 (sym n) k (up_to (s.made - 1) r (not_end (omega arith)) (omega (arith, n, h)))
      by-kept (failed k m a r) =
          let w = setup.tries in
          let some : 0 < cost w item = omega (arith, wait-some w item g.sound.some a) in
          let n : suc (cost w item - 1) ≡ cost w item = omega arith in
          let all : Reached (state setup s.place (cost w item) 0) = rw n at (up_to (cost w item - 1) r (not_end some) (omega (arith, n))) in
          let last = stays setup numbers ranged s.place (cost w item) (failing item) all (wait-open w item (all-sane setup ranged s.place) a) in
          same (cost w item) WAITED m k
          (rw (in_map setup numbers ranged s.place (cost w item) (failing item) r ∙ wait-failed setup s.place w (failing item) item g.sound.some a) at last)
      by-kept (outside k m r) = same 0 OUTSIDE m k (rw (out-of-map setup s.place arrived.0 r) at arrived.1)
