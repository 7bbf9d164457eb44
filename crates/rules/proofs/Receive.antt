-- A receive, a turn at a time. A turn passes the slot's old id to the application and takes a free one into the slot: two moves, so the
-- account stays sound and no id is lost or made. A taken slot reads as not done, so a receive of any n ends within one ring.
use Prim.Native.Nat.{ℕ, zero, suc, ◌+◌, ◌-◌, ◌%◌, ◌≤◌, ◌<◌, min}
use mathlib.Core.Path.{◌≡◌, refl, sym, ap, ◌∙◌}
use mathlib.Core.Bool.{Bool, true, false}
use mathlib.Core.List.{List}
use lib.ListN.{length, get_or, set, take, length-set}
use lib.Arith.{lt_of_le-ne}
use lib.Dec.{eqb, ltb, leb}
use native.Mathlib.Decide.{ℕ_discrete}
use native.Mathlib.Nat.{zero-add, suc-add}
use native.Mathlib.Omega.{arith}
use borrow.Author.Tests.{ne_eqb, ltb-true, leb-true, eqb-true}
use Rattle.limits.specs.Limits.{SLOTS, RING-BYTES}
use Rattle.laws.specs.Occurs.{ind, occurs}
use Rattle.laws.proofs.Test.{false-not-true, both_false}
use Rattle.laws.proofs.Occurs.{ind-le, occurs-set, occurs-at, occurs-stored}
use Rattle.words.specs.Slots.{status_at, length_at, is_done, is_end, offered}
use Rattle.words.proofs.Slots.{length-offered, offered-status, offered-other}
use Rattle.pool.specs.Stack.{top, popped}
use Rattle.pool.specs.Hands.{HAND-FREE, HAND-RECEIVE, HAND-OUT}
use Rattle.pool.proofs.Stack.{occurs-popped}
use Rattle.rules.specs.declared.Account.{Account}
use Rattle.rules.specs.declared.Stop.{Stop}
use Rattle.rules.specs.declared.Stop.TheVariants.{Asked, NotDone, Split, TooLong, NoBuffer}
use Rattle.rules.specs.Found.{Found, Nothing, Frame}
use Rattle.rules.specs.Handles.{Room}
use Rattle.rules.specs.Account.{next_slot, held, with_receive}
use Rattle.rules.specs.Sound.{Sound, Full}
use Rattle.rules.specs.Receive.{or_stop, found, Receiving, old_id, received, next, Stopping, receive_rule}
use Rattle.rules.proofs.Standing.{moves, Standing, of-hand, pop-keeps, pass-keeps}
use Rattle.rules.proofs.Lists.{list-free, list-receive, receive-list}
use Rattle.rules.proofs.Sound.{count_of, standing, sound-of}

-- ---- the rule, a turn at a time

module _ (pool size : ℕ) (addresses : List ℕ) (n : ℕ) (w : Receiving) where
  -- the end of a turn, by what stands at its slot
  turn_by : Found → Stopping
  turn_by f =
      elim f [ Nothing reason ↦ record { stop = reason; work = w } | Frame len ↦ receive_rule pool size addresses n (received pool addresses len w) ]

  pub rule-asked : receive_rule pool size addresses zero w ≡ record { stop = Asked; work = w }
  unfolding receive_rule
  rule-asked = refl

  pub rule-stopped : (reason : Stop) → next size w ≡ Nothing reason
      → receive_rule pool size addresses (suc n) w ≡ record { stop = reason; work = w }
  unfolding receive_rule turn_by
  rule-stopped reason e = ap turn_by e

  pub rule-frame : (len : ℕ) → next size w ≡ Frame len
      → receive_rule pool size addresses (suc n) w ≡ receive_rule pool size addresses n (received pool addresses len w)
  unfolding receive_rule turn_by
  rule-frame len e = ap turn_by e

-- ---- what a slot that is taken, or not, says

-- a frame is found where every test holds
frame-tests : (a b c d : Bool) (l m : ℕ)
    → or_stop a NotDone (or_stop b Split (or_stop c TooLong (or_stop d NoBuffer (Frame l)))) ≡ Frame m
    → (a ≡ true) × (b ≡ true) × (c ≡ true) × (d ≡ true) × (l ≡ m)
frame-tests true true true true l m e = (refl, refl, refl, refl, cc)
frame-tests true true true false l m e = (cc, cc, cc, cc, cc)
frame-tests true true false d l m e = (cc, cc, cc, cc, cc)
frame-tests true false c d l m e = (cc, cc, cc, cc, cc)
frame-tests false b c d l m e = (cc, cc, cc, cc, cc)

-- Asked is no slot's reason
never-asked : (a b c d : Bool) (l : ℕ) (reason : Stop)
    → or_stop a NotDone (or_stop b Split (or_stop c TooLong (or_stop d NoBuffer (Frame l)))) ≡ Nothing reason → reason ≡ Asked → ⊥
never-asked true true true true l reason e z = let f : ◌≡◌ {A = ℕ} 0 1 = cc in omega arith
never-asked true true true false l reason e z = let f : ◌≡◌ {A = ℕ} 0 1 = cc in omega arith
never-asked true true false d l reason e z = let f : ◌≡◌ {A = ℕ} 0 1 = cc in omega arith
never-asked true false c d l reason e z = let f : ◌≡◌ {A = ℕ} 0 1 = cc in omega arith
never-asked false b c d l reason e z = let f : ◌≡◌ {A = ℕ} 0 1 = cc in omega arith

module _ (size : ℕ) (w : Receiving) where
  module _ (len : ℕ) (e : next size w ≡ Frame len) where
    tests : (is_done (status_at w.rx w.ring) ≡ true) × (is_end (status_at w.rx w.ring) ≡ true)
        × (leb (length_at w.rx w.ring) size ≡ true) × (ltb 0 w.free.depth ≡ true) × (length_at w.rx w.ring ≡ len)
    unfolding found
    tests = frame-tests (is_done (status_at w.rx w.ring)) (is_end (status_at w.rx w.ring)) (leb (length_at w.rx w.ring) size) (ltb 0 w.free.depth) _ len e

    pub frame-free : 0 < w.free.depth
    frame-free = ltb-true 0 w.free.depth tests.3

    pub frame-done : status_at w.rx w.ring ≡ 0 → ⊥
    frame-done z = omega (arith, eqb-true (status_at w.rx w.ring % 2) 1 tests.0)

    pub frame-fits : len ≤ size
    frame-fits = rw tests.4 at (leb-true (length_at w.rx w.ring) size tests.2)

  pub stop-not-asked : (reason : Stop) → next size w ≡ Nothing reason → reason ≡ Asked → ⊥
  unfolding found
  stop-not-asked reason e =
      never-asked (is_done (status_at w.rx w.ring)) (is_end (status_at w.rx w.ring)) (leb (length_at w.rx w.ring) size) (ltb 0 w.free.depth) _ reason e

-- ---- asking twice is asking once

-- a receive of n + m is a receive of n, then of m, if the first stops with Asked
pub receive-twice : (pool size : ℕ) (addresses : List ℕ) (n m : ℕ) (w : Receiving) → (receive_rule pool size addresses n w).stop ≡ Asked
    → receive_rule pool size addresses (n + m) w ≡ receive_rule pool size addresses m (receive_rule pool size addresses n w).work
receive-twice pool size addresses zero m w asked = rw (zero-add, rule-asked pool size addresses zero w)
receive-twice pool size addresses (suc n) m w asked = rw suc-add (by-case (next size w) refl (λ v. receive-twice pool size addresses n m v))
  where
    by-case : (f : Found) → next size w ≡ f
        → ((v : Receiving) → (receive_rule pool size addresses n v).stop ≡ Asked
        → receive_rule pool size addresses (n + m) v ≡ receive_rule pool size addresses m (receive_rule pool size addresses n v).work)
        → receive_rule pool size addresses (suc (n + m)) w ≡ receive_rule pool size addresses m (receive_rule pool size addresses (suc n) w).work
    by-case (Nothing reason) e again = absurd (stop-not-asked size w reason e (rw (rule-stopped pool size addresses n w reason e) at asked))
    by-case (Frame len) e again =
        rw (rule-frame pool size addresses n w len e, rule-frame pool size addresses (n + m) w len e)
        (again (received pool addresses len w) (rw (rule-frame pool size addresses n w len e) at asked))

-- ---- a receive ends within one ring

-- the slot j + 1 places before an index
abbrev pub slot_back : ℕ → ℕ → ℕ
slot_back rx j = (rx + (SLOTS - 1 - j)) % SLOTS

-- n more frames can be taken: the ring is whole, the lists have room for them or for a whole ring, and the slots taken so far read not done
pub record Ready (n : ℕ) (w : Receiving) : Type 0 where
  pub place : w.rx < SLOTS
  pub whole : length w.ring ≡ RING-BYTES
  pub room : Room (min (w.count + n) SLOTS) w.lists
  pub not-over : w.count ≤ SLOTS
  pub cleared : (j : ℕ) → j < w.count → status_at (slot_back w.rx j) w.ring ≡ 0

module _ (pool size : ℕ) (addresses : List ℕ) {n len : ℕ} {w : Receiving} (ready : Ready (suc n) w) (e : next size w ≡ Frame len) where
  -- a whole ring taken leaves no slot done
  pub under-ring : w.count < SLOTS
  under-ring = lt_of_le-ne ready.not-over (λ full. frame-done size w len e (last full))
    where
      last : w.count ≡ SLOTS → status_at w.rx w.ring ≡ 0
      last full =
          let same : slot_back w.rx (SLOTS - 1) ≡ w.rx = omega (arith, ready.place) in
          rw same at (ready.cleared (SLOTS - 1) (omega arith))

  -- so there is room for one more
  pub room-here : Room (w.count + 1) w.lists
  room-here =
      record {
        pools = omega (arith, under-ring, ready.room.pools);
        ids = omega (arith, under-ring, ready.room.ids);
        offsets = omega (arith, under-ring, ready.room.offsets);
        lengths = omega (arith, under-ring, ready.room.lengths);
      }

  cleared-turn : (address j : ℕ) → j < w.count + 1 → status_at (slot_back (next_slot w.rx) j) (offered w.rx address w.ring) ≡ 0
  cleared-turn address zero h =
      let same : slot_back (next_slot w.rx) 0 ≡ w.rx = omega (arith, ready.place) in
      rw same (offered-status w.rx address w.ring (omega (arith, ready.place, ready.whole)))
  cleared-turn address (suc j) h =
      let same : slot_back (next_slot w.rx) (suc j) ≡ slot_back w.rx j = omega (arith, ready.place, under-ring) in
      rw same
      (offered-other w.rx address w.ring (slot_back w.rx j) 4 _ (λ z. omega (arith, ready.place, under-ring)) (omega arith) (omega arith)
      ∙ ready.cleared j (omega arith))

  pub ready-turn : Ready n (received pool addresses len w)
  unfolding received
  ready-turn =
      record {
        place = omega arith;
        whole = length-offered _ _ _ ∙ ready.whole;
        room = record {
          pools = simp length-set (omega (arith, ready.room.pools));
          ids = simp length-set (omega (arith, ready.room.ids));
          offsets = simp length-set (omega (arith, ready.room.offsets));
          lengths = simp length-set (omega (arith, ready.room.lengths));
        };
        not-over = omega (arith, under-ring);
        cleared = cleared-turn _;
      }

-- ---- induction: what each turn keeps, and an end turns into Q, holds of what a receive leaves

module _ (pool size : ℕ) (addresses : List ℕ) (P : ℕ → Receiving → Type 0) (Q : Stopping → Type 0)
    (stops : (n : ℕ) (w : Receiving) (reason : Stop) → P n w → Q (record { stop = reason; work = w }))
    (turns : (n len : ℕ) (w : Receiving) → next size w ≡ Frame len → P (suc n) w → P n (received pool addresses len w)) where
  pub receive-holds : (n : ℕ) (w : Receiving) → P n w → Q (receive_rule pool size addresses n w)
  receive-holds zero w p = rw (rule-asked pool size addresses zero w) (stops zero w Asked p)
  receive-holds (suc n) w p = by-case (λ v. receive-holds n v) (next size w) refl
    where
      by-case : ((v : Receiving) → P n v → Q (receive_rule pool size addresses n v))
          → (f : Found) → next size w ≡ f → Q (receive_rule pool size addresses (suc n) w)
      by-case again (Nothing reason) e = rw (rule-stopped pool size addresses n w reason e) (stops (suc n) w reason p)
      by-case again (Frame len) e = rw (rule-frame pool size addresses n w len e) (again (received pool addresses len w) (turns n len w e p))

next_place : (pool : ℕ) (addresses : List ℕ) (len : ℕ) (w : Receiving) → (received pool addresses len w).rx < SLOTS
unfolding received
next_place pool addresses len w = omega arith

-- a receive's index stays in the ring
pub receive-place : (pool size : ℕ) (addresses : List ℕ) (n : ℕ) (w : Receiving) → w.rx < SLOTS → (receive_rule pool size addresses n w).work.rx < SLOTS
receive-place pool size addresses n w =
    receive-holds pool size addresses (λ m v. v.rx < SLOTS) (λ o. o.work.rx < SLOTS) (λ m v reason p. p) (λ m len v e p. next_place pool addresses len v) n w

-- ---- where the ids stand

-- the account at a turn of a receive
abbrev pub receiving_from : Account → Receiving → Account
receiving_from a w = with_receive a w.free w.hands w.rx w.slots

module _ (a : Account) (pool : ℕ) (addresses : List ℕ) (len : ℕ) (w : Receiving) (full : Full (receiving_from a w)) where
  pub received-full : Full (receiving_from a (received pool addresses len w))
  unfolding received
  received-full =
      record {
        stack = full.stack;
        hands = simp length-set full.hands;
        slots = simp length-set full.slots;
        sent = full.sent;
        clean = full.clean;
        tx = full.tx;
      }

  module _ (s : Sound (receiving_from a w)) (some : 0 < w.free.depth) where
    stands : Standing a.entries w.free w.hands (count_of (receiving_from a w))
    stands = standing (receiving_from a w) full s

    in-slots : w.rx < length w.slots
    in-slots = omega (arith, s.rx-below, full.slots)

    pub old-of-hand : (old_id w < a.entries) × (get_or w.hands (old_id w) 0 ≡ HAND-RECEIVE)
    old-of-hand = of-hand stands HAND-RECEIVE (old_id w) (λ e. omega arith) (rw (list-receive (receiving_from a w)) (occurs-at w.slots w.rx in-slots))

    -- what is left of the counts when the old id has gone to the application
    between : ℕ → ℕ → ℕ
    between h x = count_of (receiving_from a w) h x - moves HAND-RECEIVE (old_id w) h x

    -- the old id stands in the ring
    gone-le : (h x : ℕ) → moves HAND-RECEIVE (old_id w) h x ≤ count_of (receiving_from a w) h x
    gone-le h x = by-case (ℕ_discrete HAND-RECEIVE h) (ℕ_discrete x (old_id w))
      where
        by-case : Dec (HAND-RECEIVE ≡ h) → Dec (x ≡ old_id w) → moves HAND-RECEIVE (old_id w) h x ≤ count_of (receiving_from a w) h x
        by-case (yes p) (yes q) =
            rw (← p, q, list-receive (receiving_from a w))
            (omega (arith, ind-le (eqb (old_id w) (old_id w)), occurs-at w.slots w.rx in-slots))
        by-case (yes p) (no q) = rw (ne_eqb x (old_id w) q, both_false) (omega arith)
        by-case (no p) q = rw (ne_eqb HAND-RECEIVE h p) (omega arith)

    passed : Standing a.entries w.free (set w.hands (old_id w) HAND-OUT) between
    unfolding between
    passed =
        pass-keeps stands (old_id w) HAND-RECEIVE HAND-OUT between old-of-hand.0 old-of-hand.1 (λ e. omega arith) (λ e. omega arith)
        (λ x. omega arith)
        (λ h x other out. rw (ne_eqb HAND-OUT h (λ e. out (sym e))) (omega (arith, gone-le h x)))

    -- the old id goes out and the top of the stack takes its slot
    received-standing : Standing a.entries (popped w.free) (set (set w.hands (old_id w) HAND-OUT) (top w.free) HAND-RECEIVE)
        (count_of (receiving_from a (received pool addresses len w)))
    unfolding between received
    received-standing =
        pop-keeps passed HAND-RECEIVE (count_of after) some (λ e. omega arith) (λ x. ap (occurs x) (list-free after)) listed
      where
        after : Account
        after = receiving_from a (received pool addresses len w)

        listed : (h x : ℕ) → (h ≡ HAND-FREE → ⊥) → (h ≡ HAND-OUT → ⊥)
            → count_of after h x ≡ count_of (receiving_from a w) h x - moves HAND-RECEIVE (old_id w) h x + moves HAND-RECEIVE (top w.free) h x
        listed h x other out = by-case (ℕ_discrete h HAND-RECEIVE)
          where
            by-case : Dec (h ≡ HAND-RECEIVE)
                → count_of after h x ≡ count_of (receiving_from a w) h x - moves HAND-RECEIVE (old_id w) h x + moves HAND-RECEIVE (top w.free) h x
            by-case (yes p) =
                rw (p, list-receive after, list-receive (receiving_from a w))
                (omega (arith, occurs-set x w.slots w.rx (top w.free) in-slots, rw (p, list-receive (receiving_from a w)) at (gone-le h x)))
            by-case (no p) =
                rw (
                  receive-list a w.free w.hands h other w.rx w.slots p,
                  receive-list a (popped w.free) after.hands h other (next_slot w.rx) after.slots p,
                  ne_eqb HAND-RECEIVE h (λ z. p (sym z)),
                )
                (omega arith)

    pub received-sound : Sound (receiving_from a (received pool addresses len w))
    unfolding received
    received-sound =
        sound-of (receiving_from a (received pool addresses len w)) s.numbers (omega arith) s.queues s.started-on
        (λ off. absurd (false-not-true (sym off))) received-standing

    pub received-held : (x : ℕ) → held x (receiving_from a (received pool addresses len w)) + ind (eqb x (old_id w)) ≡ held x (receiving_from a w)
    unfolding held received
    received-held x =
        omega (
          arith,
          occurs-set x w.slots w.rx (top w.free) in-slots,
          occurs-popped w.free x some (omega (arith, s.free-count, s.numbers.few-entries, full.stack)),
        )

-- ---- a whole receive

-- a receive keeps an account sound
pub receive-sound : (a : Account) (pool size : ℕ) (addresses : List ℕ) (n : ℕ) (w : Receiving)
    → Full (receiving_from a w) → Sound (receiving_from a w)
    → Full (receiving_from a (receive_rule pool size addresses n w).work) × Sound (receiving_from a (receive_rule pool size addresses n w).work)
receive-sound a pool size addresses n w full s =
    receive-holds pool size addresses
    (λ m v. Full (receiving_from a v) × Sound (receiving_from a v))
    (λ o. Full (receiving_from a o.work) × Sound (receiving_from a o.work))
    (λ m v reason p. p)
    (λ m len v e p. (received-full a pool addresses len v p.0, received-sound a pool addresses len v p.0 p.1 (frame-free size v len e)))
    n w (full, s)

-- what the account's lists and the handles given have of an id
abbrev pub received_held : Account → ℕ → Receiving → ℕ
received_held a x w = held x (receiving_from a w) + occurs x (take w.count w.lists.ids)

-- the list of a turn has the old id at its end
given-more : (pool : ℕ) (addresses : List ℕ) (len : ℕ) (w : Receiving) (x : ℕ) → w.count < length w.lists.ids
    → occurs x (take (received pool addresses len w).count (received pool addresses len w).lists.ids)
    ≡ occurs x (take w.count w.lists.ids) + ind (eqb x (old_id w))
unfolding received
given-more pool addresses len w x room = occurs-stored x w.lists.ids w.count (old_id w) room

-- a receive loses no id and makes none: each that left the ring is in the list, and each that came into it was free
pub receive-held : (a : Account) (pool size : ℕ) (addresses : List ℕ) (n : ℕ) (w : Receiving) (x : ℕ)
    → Full (receiving_from a w) → Sound (receiving_from a w) → Ready n w
    → received_held a x (receive_rule pool size addresses n w).work ≡ received_held a x w
receive-held a pool size addresses n w x full s ready =
    receive-holds pool size addresses
    (λ m v. (Full (receiving_from a v) × Sound (receiving_from a v)) × Ready m v × (received_held a x v ≡ received_held a x w))
    (λ o. received_held a x o.work ≡ received_held a x w)
    (λ m v reason p. p.2)
    (λ m len v e p. turn m len v e p.0.0 p.0.1 p.1 p.2)
    n w ((full, s), ready, refl)
  where
    turn : (m len : ℕ) (v : Receiving) → next size v ≡ Frame len → Full (receiving_from a v) → Sound (receiving_from a v) → Ready (suc m) v
        → received_held a x v ≡ received_held a x w
        → (Full (receiving_from a (received pool addresses len v)) × Sound (receiving_from a (received pool addresses len v)))
        × Ready m (received pool addresses len v) × (received_held a x (received pool addresses len v) ≡ received_held a x w)
    turn m len v e f t r h = (
      (received-full a pool addresses len v f, received-sound a pool addresses len v f t (frame-free size v len e)),
      ready-turn pool size addresses r e,
      omega (
        arith,
        h,
        received-held a pool addresses len v f t (frame-free size v len e) x,
        given-more pool addresses len v x (omega (arith, (room-here pool size addresses r e).ids)),
      ),
    )
