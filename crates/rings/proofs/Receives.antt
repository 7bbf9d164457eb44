-- The loops of the start and of a receive. The receive's invariant, `Along`: what is left to do at the loop's head is what was to do at the start, and every id that is met
-- has an address. Each way out of a turn is one law.
use Prim.Native.Nat.{ℕ, zero, suc, ◌+◌, ◌-◌, ◌≤◌, ◌<◌}
use mathlib.Core.Path.{◌≡◌, refl, sym, ◌∙◌}
use mathlib.Core.List.{List, [], ◌∷◌}
use lib.ListN.{length, get_or, set, length-set}
use lib.Arith.{lt_of_le-ne}
use native.Mathlib.Omega.{arith}
use Rattle.limits.specs.Limits.{SLOTS}
use Rattle.words.specs.Slots.{offered}
use Rattle.words.proofs.Slots.{length-offered}
use Rattle.pool.specs.declared.Handle.{Handle}
use Rattle.pool.specs.Stack.{top, popped}
use Rattle.pool.specs.Hands.{HAND-RECEIVE, HAND-OUT}
use Rattle.rules.specs.declared.Stop.{Stop}
use Rattle.rules.specs.declared.Stop.TheVariants.{Asked}
use Rattle.rules.specs.Found.{Nothing, Frame}
use Rattle.rules.specs.Handles.{Handles, put_handle, Room}
use Rattle.rules.specs.Account.{next_slot}
use Rattle.rules.specs.Receive.{Filling, filled, fill_rule, Receiving, old_id, frame_of, received, next, receive_rule}
use Rattle.rules.proofs.Receive.{Ready, ready-turn, room-here, frame-free, rule-asked, rule-stopped, rule-frame}
use Rattle.rings.specs.Lent.{Known, Stacked, Receivable}

-- ---- ids with addresses

-- elements below m stay below it where one below it is stored
pub below_set : (l : List ℕ) (i j a m : ℕ) → a < m → get_or l j 0 < m → get_or (set l i a) j 0 < m
below_set [] i j a m small h = h
below_set (x ∷ l) zero zero a m small h = small
below_set (x ∷ l) zero (suc j) a m small h = h
below_set (x ∷ l) (suc i) zero a m small h = h
below_set (x ∷ l) (suc i) (suc j) a m small h = below_set l i j a m small h

-- a stack without its top
pub stacked-less : {stack : List ℕ} {depth : ℕ} {addresses : List ℕ} → Stacked stack depth addresses → Stacked stack (depth - 1) addresses
stacked-less s = record { deep = omega (arith, s.deep); few = s.few; known = λ i h. s.known i (omega arith) }

pub top-known : {stack : List ℕ} {depth : ℕ} {addresses : List ℕ} → Stacked stack depth addresses → 0 < depth → get_or stack (depth - 1) 0 < length addresses
top-known {stack} {depth} {addresses} s some = s.known (depth - 1) (omega arith)

pub record Ranged (addresses : List ℕ) (w : Receiving) : Type 0 where
  pub stacked : Stacked w.free.ids w.free.depth addresses
  pub slots-known : Known SLOTS w.slots addresses

ranged-turn : (pool : ℕ) {addresses : List ℕ} (len : ℕ) {w : Receiving} → Ranged addresses w → 0 < w.free.depth → Ranged addresses (received pool addresses len w)
unfolding received
ranged-turn pool {addresses} len {w} r some =
    record {
      stacked = stacked-less r.stacked;
      slots-known = λ i h. below_set w.slots w.rx i (top w.free) (length addresses) (top-known r.stacked some) (r.slots-known i h);
    }

-- ---- the start's loop

module _ (addresses : List ℕ) (slot : ℕ) (w : Filling) where
  -- one slot of those that are left
  pub fill_step : slot < SLOTS → fill_rule addresses slot (SLOTS - slot) w ≡ fill_rule addresses (slot + 1) (SLOTS - (slot + 1)) (filled addresses slot w)
  unfolding fill_rule
  fill_step below = let e : SLOTS - slot ≡ suc (SLOTS - (slot + 1)) = omega arith in rw e

  pub fill_none : SLOTS ≤ slot → fill_rule addresses slot (SLOTS - slot) w ≡ w
  unfolding fill_rule
  fill_none past = let e : SLOTS - slot ≡ 0 = omega arith in rw e

  pub fill-ring : length (filled addresses slot w).ring ≡ length w.ring
  unfolding filled
  fill-ring = length-offered _ _ _

-- ---- a frame

-- the top of the stack is offered, it takes the slot, and the id that the slot had is put into the lists
pub frame-taken : (pool : ℕ) (addresses : List ℕ) (len : ℕ) (w : Receiving) {ring slots hands : List ℕ} {lists : Handles} {old : ℕ} {handle : Handle}
    → ring ≡ offered w.rx (get_or addresses (top w.free) 0) w.ring
    → (old ≡ old_id w) × ((slots ≡ set w.slots w.rx (top w.free)) × (hands ≡ set (set w.hands (old_id w) HAND-OUT) (top w.free) HAND-RECEIVE))
    → lists ≡ put_handle w.lists w.count handle → handle ≡ frame_of pool old len
    → record { free = popped w.free; hands = hands; slots = slots; rx = next_slot w.rx; ring = ring; lists = lists; count = w.count + 1 }
    ≡ received pool addresses len w
unfolding received
frame-taken pool addresses len w offers swaps puts frame = rw (puts, frame, swaps.0, swaps.1.0, swaps.1.1, offers)

-- ---- the receive's loop

-- two lists of handles are equally long
pub record SameLengths (l m : Handles) : Type 0 where
  pub pools : length l.pools ≡ length m.pools
  pub ids : length l.ids ≡ length m.ids
  pub offsets : length l.offsets ≡ length m.offsets
  pub lengths : length l.lengths ≡ length m.lengths

pub record Along (pool size : ℕ) (addresses : List ℕ) (n : ℕ) (w₀ w : Receiving) : Type 0 where
  pub not-past : w.count ≤ n
  pub ready : Ready (n - w.count) w
  pub ranged : Ranged addresses w
  pub rule : receive_rule pool size addresses (n - w.count) w ≡ receive_rule pool size addresses n w₀
  pub same-ring : length w.ring ≡ length w₀.ring
  pub same_lists : SameLengths w.lists w₀.lists

pub along-start : (pool size : ℕ) (addresses : List ℕ) (n : ℕ) (w : Receiving) → w.count ≡ 0
    → Receivable n w.free.ids w.free.depth addresses w.slots w.rx w.ring w.lists → Along pool size addresses n w w
along-start pool size addresses n w none r =
    let e : n - w.count ≡ n = omega arith in
    record {
      not-past = omega arith;
      ready = rw e
          (record {
            place = r.place;
            whole = r.whole;
            room = record {
              pools = omega (arith, none, r.room.pools);
              ids = omega (arith, none, r.room.ids);
              offsets = omega (arith, none, r.room.offsets);
              lengths = omega (arith, none, r.room.lengths);
            };
            not-over = omega arith;
            cleared = λ j h. absurd (omega arith);
          });
      ranged = record { stacked = r.stacked; slots-known = r.slots-known };
      rule = rw e;
      same-ring = refl;
      same_lists = record { pools = refl; ids = refl; offsets = refl; lengths = refl };
    }

module _ {pool size : ℕ} {addresses : List ℕ} {n : ℕ} {w₀ w : Receiving} (along : Along pool size addresses n w₀ w) where
  -- all that was asked for is taken
  pub along-asked : w.count ≡ n → record { stop = Asked; work = w } ≡ receive_rule pool size addresses n w₀
  along-asked e = let z : n - w.count ≡ 0 = omega arith in sym (rule-asked pool size addresses 0 w) ∙ rw z at along.rule

  module _ (more : w.count ≡ n → ⊥) where
    left : n - w.count ≡ suc (n - (w.count + 1))
    left = omega (arith, lt_of_le-ne along.not-past more)

    ready-here : Ready (suc (n - (w.count + 1))) w
    ready-here = rw left at along.ready

    rule-here : receive_rule pool size addresses (suc (n - (w.count + 1))) w ≡ receive_rule pool size addresses n w₀
    rule-here = rw left at along.rule

    -- a slot gave a reason to stop
    pub along-stopped : (reason : Stop) → next size w ≡ Nothing reason → record { stop = reason; work = w } ≡ receive_rule pool size addresses n w₀
    along-stopped reason e = sym (rule-stopped pool size addresses (n - (w.count + 1)) w reason e) ∙ rule-here

    module _ (len : ℕ) (e : next size w ≡ Frame len) where
      pub some-free : 0 < w.free.depth
      some-free = frame-free size w len e

      pub along-room : Room (w.count + 1) w.lists
      along-room = room-here pool size addresses ready-here e

      -- a frame was taken
      pub along-frame : Along pool size addresses n w₀ (received pool addresses len w)
      unfolding received
      along-frame =
          record {
            not-past = omega (arith, lt_of_le-ne along.not-past more);
            ready = ready-turn pool size addresses ready-here e;
            ranged = ranged-turn pool len along.ranged some-free;
            rule = sym (rule-frame pool size addresses (n - (w.count + 1)) w len e) ∙ rule-here;
            same-ring = length-offered _ _ _ ∙ along.same-ring;
            same_lists = record {
              pools = simp length-set along.same_lists.pools;
              ids = simp length-set along.same_lists.ids;
              offsets = simp length-set along.same_lists.offsets;
              lengths = simp length-set along.same_lists.lengths;
            };
          }
