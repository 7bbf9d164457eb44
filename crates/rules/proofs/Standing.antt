-- Where every id stands, kept by every move. `count h x` says how often x stands in the list of hand h, and it is 1 exactly where the
-- recorded hand of x is h. Each rule of document 01 is a run of three moves: off the free stack, onto it, and between two other hands.
use Prim.Native.Nat.{ℕ, ◌+◌, ◌≤◌, ◌<◌}
use mathlib.Core.Path.{◌≡◌, refl, sym, ap, ◌∙◌}
use mathlib.Core.Bool.{Bool, true, false}
use mathlib.Core.List.{List}
use lib.ListN.{length, get_or, set, length-set}
use lib.Seq.{get_or-set_same, get_or-set_other, length-take-le}
use lib.Dec.{eqb, ltb}
use native.Mathlib.Decide.{ℕ_discrete}
use native.Mathlib.Omega.{arith}
use borrow.Author.Tests.{eq-eqb, ne_eqb, lt-ltb, le-ltb, eqb-true, ltb-true}
use Rattle.limits.specs.Limits.{ENTRIES}
use Rattle.laws.specs.Test.{both}
use Rattle.laws.specs.Occurs.{ind, occurs}
use Rattle.laws.proofs.Test.{both_false, both-same}
use Rattle.laws.proofs.Occurs.{ind-le}
use Rattle.laws.proofs.Sum.{fewer}
use Rattle.pool.specs.declared.FreeStack.{FreeStack}
use Rattle.pool.specs.Stack.{content, top, popped, pushed}
use Rattle.pool.specs.Hands.{HAND-FREE, HAND-OUT}
use Rattle.pool.proofs.Stack.{occurs-popped, occurs-pushed, top-stands}

-- 1 where x is an id and its recorded hand is h, else 0
abbrev pub in_hand : ℕ → List ℕ → ℕ → ℕ → ℕ
in_hand entries hands h x = ind (both (ltb x entries) (eqb (get_or hands x 0) h))

-- every number stands in a hand's list as often as it is in that hand. The application's list is not the account's
abbrev pub Placed : ℕ → List ℕ → (ℕ → ℕ → ℕ) → Type 0
Placed entries hands count = (h x : ℕ) → (h ≡ HAND-OUT → ⊥) → count h x ≡ in_hand entries hands h x

-- what moves of y out of a hand, and into one
abbrev pub moves : ℕ → ℕ → ℕ → ℕ → ℕ
moves hand y h x = ind (both (eqb hand h) (eqb x y))

-- one id goes from its hand to another, in the lists and in the record
pub moved : (entries : ℕ) (hands : List ℕ) (count after : ℕ → ℕ → ℕ) (y from to : ℕ)
    → y < entries → entries ≤ length hands → get_or hands y 0 ≡ from
    → ((h x : ℕ) → (h ≡ HAND-OUT → ⊥) → after h x + moves from y h x ≡ count h x + moves to y h x)
    → Placed entries hands count → Placed entries (set hands y to) after
moved entries hands count after y from to below room was turn placed h x listed = by-case (ℕ_discrete x y)
  where
    here : (a b : ℕ) → a + ind (eqb from h) ≡ b + ind (eqb to h) → b ≡ ind (eqb from h) → a ≡ ind (eqb to h)
    here a b p q = omega arith

    there : (a b c : ℕ) → a + 0 ≡ b + 0 → b ≡ c → a ≡ c
    there a b c p q = omega arith

    by-case : Dec (x ≡ y) → after h x ≡ in_hand entries (set hands y to) h x
    by-case (yes e) =
        rw (e, lt-ltb y entries below, get_or-set_same hands y to 0 (omega arith))
        (here _ _ (simp (e, eq-eqb y y refl, both-same) at (turn h x listed))
        (simp (e, lt-ltb y entries below, was) at (placed h x listed)))
    by-case (no ne) =
        rw (get_or-set_other hands y x to 0 ne)
        (there _ _ _ (simp (ne_eqb x y ne, both_false) at (turn h x listed)) (placed h x listed))

-- an id that stands in a list is one, and its recorded hand is the list's
pub stands-in : (entries : ℕ) (hands : List ℕ) (h x : ℕ) → 1 ≤ in_hand entries hands h x → (x < entries) × (get_or hands x 0 ≡ h)
stands-in entries hands h x some = by_tests (ltb x entries) refl (eqb (get_or hands x 0) h) refl
  where
    by_tests : (a : Bool) → ltb x entries ≡ a → (b : Bool) → eqb (get_or hands x 0) h ≡ b → (x < entries) × (get_or hands x 0 ≡ h)
    by_tests true p true q = (ltb-true x entries p, eqb-true (get_or hands x 0) h q)
    by_tests true p false q = absurd (omega (arith, rw (p, q) at some))
    by_tests false p b q = absurd (omega (arith, rw p at some))

-- ---- the three moves

-- a free stack and a record of hands that agree with the lists of the other hands
pub record Standing (entries : ℕ) (free : FreeStack) (hands : List ℕ) (count : ℕ → ℕ → ℕ) : Type 0 where
  pub few : entries ≤ ENTRIES
  pub stack : length free.ids ≡ ENTRIES
  pub record-of-all : length hands ≡ ENTRIES
  pub deep : free.depth ≤ entries
  pub on_stack : (x : ℕ) → count HAND-FREE x ≡ occurs x (content free)
  pub placed : Placed entries hands count

module _ {entries : ℕ} {free : FreeStack} {hands : List ℕ} {count : ℕ → ℕ → ℕ} (s : Standing entries free hands count) where
  -- what stands in a hand's list is an id of that hand
  pub of-hand : (h x : ℕ) → (h ≡ HAND-OUT → ⊥) → 1 ≤ count h x → (x < entries) × (get_or hands x 0 ≡ h)
  of-hand h x listed some = stands-in entries hands h x (rw (s.placed h x listed) at some)

  pub top-of-hand : 0 < free.depth → (top free < entries) × (get_or hands (top free) 0 ≡ HAND-FREE)
  top-of-hand some =
      of-hand HAND-FREE (top free) (λ e. omega arith)
      (rw (s.on_stack (top free)) (top-stands free some (omega (arith, s.deep, s.few, s.stack))))

  -- an id in another hand leaves a place on the stack
  pub room_for : (y h : ℕ) → y < entries → get_or hands y 0 ≡ h → (h ≡ HAND-FREE → ⊥) → free.depth < entries
  room_for y h below was other =
      let size : length (content free) ≡ free.depth
      = length-take-le free.depth free.ids (omega (arith, s.deep, s.few, s.stack)) in
      rw size at (fewer entries y (content free) below (times y ∙ rw (was, ne_eqb h HAND-FREE other) (both-off (ltb y entries)))
      (λ x out. times x ∙ rw (le-ltb x entries out)) (λ x in-range. rw (times x) (ind-le (both (ltb x entries) (eqb (get_or hands x 0) HAND-FREE)))))
    where
      times : (x : ℕ) → occurs x (content free) ≡ in_hand entries hands HAND-FREE x
      times x = sym (s.on_stack x) ∙ s.placed HAND-FREE x (λ e. omega arith)

      both-off : (b : Bool) → ind (both b false) ≡ 0
      both-off b = ap ind (both_false b)

  -- off the stack
  pub pop-keeps : (to : ℕ) (after : ℕ → ℕ → ℕ) → 0 < free.depth → (to ≡ HAND-FREE → ⊥)
      → ((x : ℕ) → after HAND-FREE x ≡ occurs x (content (popped free)))
      → ((h x : ℕ) → (h ≡ HAND-FREE → ⊥) → (h ≡ HAND-OUT → ⊥) → after h x ≡ count h x + moves to (top free) h x)
      → Standing entries (popped free) (set hands (top free) to) after
  pop-keeps to after some other stacked listed =
      record {
        few = s.few;
        stack = s.stack;
        record-of-all = simp length-set s.record-of-all;
        deep = omega (arith, s.deep);
        on_stack = stacked;
        placed = moved entries hands count after (top free) HAND-FREE to (top-of-hand some).0 (omega (arith, s.few, s.record-of-all)) (top-of-hand some).1 turn s.placed;
      }
    where
      turn : (h x : ℕ) → (h ≡ HAND-OUT → ⊥) → after h x + moves HAND-FREE (top free) h x ≡ count h x + moves to (top free) h x
      turn h x out = by-case (ℕ_discrete h HAND-FREE)
        where
          by-case : Dec (h ≡ HAND-FREE) → after h x + moves HAND-FREE (top free) h x ≡ count h x + moves to (top free) h x
          by-case (yes e) =
              rw (e, ne_eqb to HAND-FREE other, stacked x, s.on_stack x)
              (omega (arith, occurs-popped free x some (omega (arith, s.deep, s.few, s.stack))))
          by-case (no ne) = rw (ne_eqb HAND-FREE h (λ e. ne (sym e))) (omega (arith, listed h x ne out))

  -- onto the stack
  pub push-keeps : (y from : ℕ) (after : ℕ → ℕ → ℕ) → y < entries → get_or hands y 0 ≡ from → (from ≡ HAND-FREE → ⊥)
      → ((x : ℕ) → after HAND-FREE x ≡ occurs x (content (pushed free y)))
      → ((h x : ℕ) → (h ≡ HAND-FREE → ⊥) → (h ≡ HAND-OUT → ⊥) → count h x ≡ after h x + moves from y h x)
      → Standing entries (pushed free y) (set hands y HAND-FREE) after
  push-keeps y from after below was other stacked listed =
      record {
        few = s.few;
        stack = simp length-set s.stack;
        record-of-all = simp length-set s.record-of-all;
        deep = omega (arith, room_for y from below was other);
        on_stack = stacked;
        placed = moved entries hands count after y from HAND-FREE below (omega (arith, s.few, s.record-of-all)) was turn s.placed;
      }
    where
      turn : (h x : ℕ) → (h ≡ HAND-OUT → ⊥) → after h x + moves from y h x ≡ count h x + moves HAND-FREE y h x
      turn h x out = by-case (ℕ_discrete h HAND-FREE)
        where
          by-case : Dec (h ≡ HAND-FREE) → after h x + moves from y h x ≡ count h x + moves HAND-FREE y h x
          by-case (yes e) =
              rw (e, ne_eqb from HAND-FREE other, stacked x, s.on_stack x)
              (omega (arith, occurs-pushed free x y (omega (arith, room_for y from below was other, s.few, s.stack))))
          by-case (no ne) = rw (ne_eqb HAND-FREE h (λ e. ne (sym e))) (omega (arith, listed h x ne out))

  -- from one other hand to another
  pub pass-keeps : (y from to : ℕ) (after : ℕ → ℕ → ℕ) → y < entries → get_or hands y 0 ≡ from → (from ≡ HAND-FREE → ⊥) → (to ≡ HAND-FREE → ⊥)
      → ((x : ℕ) → after HAND-FREE x ≡ count HAND-FREE x)
      → ((h x : ℕ) → (h ≡ HAND-FREE → ⊥) → (h ≡ HAND-OUT → ⊥) → after h x + moves from y h x ≡ count h x + moves to y h x)
      → Standing entries free (set hands y to) after
  pass-keeps y from to after below was left came stacked listed =
      record {
        few = s.few;
        stack = s.stack;
        record-of-all = simp length-set s.record-of-all;
        deep = s.deep;
        on_stack = λ x. stacked x ∙ s.on_stack x;
        placed = moved entries hands count after y from to below (omega (arith, s.few, s.record-of-all)) was turn s.placed;
      }
    where
      turn : (h x : ℕ) → (h ≡ HAND-OUT → ⊥) → after h x + moves from y h x ≡ count h x + moves to y h x
      turn h x out = by-case (ℕ_discrete h HAND-FREE)
        where
          by-case : Dec (h ≡ HAND-FREE) → after h x + moves from y h x ≡ count h x + moves to y h x
          by-case (yes e) = rw (e, ne_eqb from HAND-FREE left, ne_eqb to HAND-FREE came, stacked x)
          by-case (no ne) = listed h x ne out
