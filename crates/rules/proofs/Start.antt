-- The start, slot by slot: each turn moves the top of the free stack into the ring. After n turns the ring's first n slots hold what left
-- the stack, so after 512 the account is sound with a started ring, and no id is lost or made.
use Prim.Native.Nat.{ℕ, zero, suc, ◌+◌, ◌-◌, ◌≤◌, ◌<◌}
use mathlib.Core.Path.{◌≡◌, refl, sym, ap, ◌∙◌}
use mathlib.Core.Bool.{false}
use mathlib.Core.List.{List}
use lib.ListN.{length, set, take, length-set}
use lib.Seq.{take_all}
use lib.Dec.{eqb}
use native.Mathlib.Decide.{ℕ_discrete}
use native.Mathlib.Omega.{arith}
use borrow.Author.Tests.{ne_eqb}
use Rattle.limits.specs.Limits.{SLOTS}
use Rattle.laws.specs.Test.{pick}
use Rattle.laws.specs.Occurs.{ind, occurs}
use Rattle.laws.proofs.Occurs.{occurs-stored}
use Rattle.pool.specs.Stack.{content, top}
use Rattle.pool.specs.Hands.{HAND-FREE, HAND-RECEIVE}
use Rattle.pool.proofs.Stack.{occurs-popped}
use Rattle.rules.specs.declared.Account.{Account}
use Rattle.rules.specs.Account.{list_of, held, with_receive}
use Rattle.rules.specs.Sound.{Sound, Full}
use Rattle.rules.specs.Receive.{Filling, filled, fill_rule, filling}
use Rattle.rules.proofs.Standing.{moves, Standing, pop-keeps}
use Rattle.rules.proofs.Lists.{list-free, list-receive, receive-list}
use Rattle.rules.proofs.Sound.{count_of, standing, sound-of}

-- the counts after so many slots: the ring has what stands in those
abbrev pub fill_count : Account → ℕ → Filling → ℕ → ℕ → ℕ
fill_count a slot w h x =
    pick (eqb h HAND-FREE) (occurs x (content w.free)) (pick (eqb h HAND-RECEIVE) (occurs x (take slot w.slots)) (occurs x (list_of a h)))

-- n more slots can be filled
pub record Filled (a : Account) (slot n : ℕ) (w : Filling) : Type 0 where
  pub stands : Standing a.entries w.free w.hands (fill_count a slot w)
  pub slots : length w.slots ≡ SLOTS
  pub in-ring : slot + n ≤ SLOTS
  pub enough : n ≤ w.free.depth
  pub kept : (x : ℕ) → occurs x (content w.free) + occurs x (take slot w.slots) ≡ occurs x (content a.free)

module _ (a : Account) (addresses : List ℕ) (slot n : ℕ) (w : Filling) (f : Filled a slot (suc n) w) where
  -- the slot holds what left the stack
  slot-more : (x : ℕ) → occurs x (take (slot + 1) (set w.slots slot (top w.free))) ≡ occurs x (take slot w.slots) + ind (eqb x (top w.free))
  slot-more x = occurs-stored x w.slots slot (top w.free) (omega (arith, f.in-ring, f.slots))

  turn-standing : Standing a.entries (filled addresses slot w).free (filled addresses slot w).hands (fill_count a (slot + 1) (filled addresses slot w))
  unfolding filled
  turn-standing =
      pop-keeps f.stands HAND-RECEIVE _ (omega (arith, f.enough)) (λ e. omega arith) (λ x. refl)
      (λ h x other out. by-case h x other (ℕ_discrete h HAND-RECEIVE))
    where
      by-case : (h x : ℕ) → (h ≡ HAND-FREE → ⊥) → Dec (h ≡ HAND-RECEIVE)
          → fill_count a (slot + 1) (filled addresses slot w) h x ≡ fill_count a slot w h x + moves HAND-RECEIVE (top w.free) h x
      by-case h x other (yes p) = rw p (slot-more x)
      by-case h x other (no p) = rw (ne_eqb h HAND-FREE other, ne_eqb h HAND-RECEIVE p, ne_eqb HAND-RECEIVE h (λ z. p (sym z))) (omega arith)

  pub fill-turn : Filled a (slot + 1) n (filled addresses slot w)
  unfolding filled
  fill-turn =
      record {
        stands = turn-standing;
        slots = simp length-set f.slots;
        in-ring = omega (arith, f.in-ring);
        enough = omega (arith, f.enough);
        kept = λ x. omega (arith, f.kept x, slot-more x, occurs-popped w.free x (omega (arith, f.enough)) (omega (arith, f.stands.deep, f.stands.few, f.stands.stack)));
      }

pub fill-ends : (a : Account) (addresses : List ℕ) (slot n : ℕ) (w : Filling) → Filled a slot n w → Filled a (slot + n) 0 (fill_rule addresses slot n w)
unfolding fill_rule
fill-ends a addresses slot zero w f = let e : slot + 0 ≡ slot = omega arith in rw e f
fill-ends a addresses slot (suc n) w f =
    let e : slot + 1 + n ≡ slot + suc n = omega arith in
    rw e at (fill-ends a addresses (slot + 1) n (filled addresses slot w) (fill-turn a addresses slot n w f))

-- n slots take n ids off the stack
pub fill-depth : (addresses : List ℕ) (slot n : ℕ) (w : Filling) → (fill_rule addresses slot n w).free.depth ≡ w.free.depth - n
unfolding fill_rule filled
fill-depth addresses slot zero w = omega arith
fill-depth addresses slot (suc n) w = fill-depth addresses (slot + 1) n (filled addresses slot w) ∙ omega arith

-- ---- a whole start

-- the account of a start that is done
abbrev pub started_from : Account → Filling → Account
started_from a w = with_receive a w.free w.hands 0 w.slots

module _ {a : Account} (full : Full a) (s : Sound a) (off : a.started ≡ false) (ring : List ℕ) where
  -- before the start the ring has none
  fill_start : SLOTS ≤ a.free.depth → Filled a 0 SLOTS (filling a ring)
  fill_start enough =
      record {
        stands = record {
          few = stands-before.few;
          stack = stands-before.stack;
          record-of-all = stands-before.record-of-all;
          deep = stands-before.deep;
          on_stack = λ x. refl;
          placed = λ h x out. counts-before h x ∙ stands-before.placed h x out;
        };
        slots = full.slots;
        in-ring = omega arith;
        enough = enough;
        kept = λ x. omega arith;
      }
    where
      stands-before : Standing a.entries a.free a.hands (count_of a)
      stands-before = standing a full s

      counts-before : (h x : ℕ) → fill_count a 0 (filling a ring) h x ≡ count_of a h x
      counts-before h x = by-case (ℕ_discrete h HAND-FREE) (ℕ_discrete h HAND-RECEIVE)
        where
          by-case : Dec (h ≡ HAND-FREE) → Dec (h ≡ HAND-RECEIVE) → fill_count a 0 (filling a ring) h x ≡ count_of a h x
          by-case (yes p) q = rw (p, list-free a)
          by-case (no p) (yes q) = rw (q, list-receive a, off)
          by-case (no p) (no q) = rw (ne_eqb h HAND-FREE p, ne_eqb h HAND-RECEIVE q)

  module _ (addresses : List ℕ) (enough : SLOTS ≤ a.free.depth) where
    w : Filling
    w = fill_rule addresses 0 SLOTS (filling a ring)

    done : Filled a SLOTS 0 w
    unfolding w
    done = fill-ends a addresses 0 SLOTS (filling a ring) (fill_start enough)

    -- the ring has what stands in all its slots
    counts-after : (h x : ℕ) → count_of (started_from a w) h x ≡ fill_count a SLOTS w h x
    counts-after h x = by-case (ℕ_discrete h HAND-FREE) (ℕ_discrete h HAND-RECEIVE)
      where
        by-case : Dec (h ≡ HAND-FREE) → Dec (h ≡ HAND-RECEIVE) → count_of (started_from a w) h x ≡ fill_count a SLOTS w h x
        by-case (yes p) q = rw (p, list-free (started_from a w))
        by-case (no p) (yes q) = rw (q, list-receive (started_from a w), take_all SLOTS w.slots (omega (arith, done.slots)))
        by-case (no p) (no q) = rw (ne_eqb h HAND-FREE p, ne_eqb h HAND-RECEIVE q, receive-list a w.free w.hands h p 0 w.slots q)

    pub started-full : Full (started_from a (fill_rule addresses 0 SLOTS (filling a ring)))
    unfolding w
    started-full =
        record {
          stack = done.stands.stack;
          hands = done.stands.record-of-all;
          slots = done.slots;
          sent = full.sent;
          clean = full.clean;
          tx = full.tx;
        }

    pub started-sound : 0 < a.receives → Sound (started_from a (fill_rule addresses 0 SLOTS (filling a ring)))
    unfolding w
    started-sound queue =
        sound-of (started_from a w) s.numbers (omega arith) s.queues (λ on. queue) (λ z. refl)
        (record {
          few = done.stands.few;
          stack = done.stands.stack;
          record-of-all = done.stands.record-of-all;
          deep = done.stands.deep;
          on_stack = λ x. ap (occurs x) (list-free (started_from a w));
          placed = λ h x out. counts-after h x ∙ done.stands.placed h x out;
        })

    -- what left the stack is in the ring
    pub started-held : (x : ℕ) → held x (started_from a (fill_rule addresses 0 SLOTS (filling a ring))) ≡ held x a
    unfolding w held
    started-held x =
        rw off
        (omega (arith, done.kept x, ap (occurs x) (take_all SLOTS w.slots (omega (arith, done.slots)))))

    -- and 512 have left it
    pub started-depth : (fill_rule addresses 0 SLOTS (filling a ring)).free.depth ≡ a.free.depth - SLOTS
    started-depth = fill-depth addresses 0 SLOTS (filling a ring)
