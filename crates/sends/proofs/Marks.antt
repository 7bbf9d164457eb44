-- The test of a list by marks. By the record of hands with the first n ids marked, an id is out just where it was out and stands at none of the
-- first n places, so the handle after them is good by it just where it can be sent. Marks of handles that can be sent are taken away one by one.
use Prim.Native.Nat.{ℕ, zero, suc, ◌+◌, ◌-◌, ◌≤◌, ◌<◌}
use mathlib.Core.Path.{◌≡◌, refl, sym, ap, ◌∙◌}
use mathlib.Core.Bool.{Bool, true, false}
use mathlib.Core.List.{List, [], ◌∷◌, ◌++◌}
use lib.ListN.{length, get_or, set, take}
use lib.Seq.{get_or-set_other, set-set, set-get_or}
use lib.Dec.{eqb, ltb, leb}
use lib.Arith.{lt_of_le-ne}
use native.Mathlib.Decide.{ℕ_discrete}
use native.Mathlib.Numerals.{add-one}
use native.Mathlib.Omega.{arith}
use borrow.Author.Count.{below_more}
use borrow.Author.Tests.{eq-eqb, ne_eqb, eqb-true, ltb-true}
use Rattle.std.proofs.lemmas.List.{length_push, get_or_push, get_or-take, take_at, take-take}
use Rattle.limits.specs.Limits.{HEADROOM}
use Rattle.laws.specs.Test.{pick, both, either}
use Rattle.laws.specs.Occurs.{ind, occurs}
use Rattle.laws.proofs.Test.{both_false, both-same, both_left, both_right, both_true}
use Rattle.laws.proofs.Occurs.{occurs-more}
use Rattle.pool.specs.declared.Handle.{Handle}
use Rattle.pool.specs.Hands.{HAND-OUT}
use Rattle.rules.specs.declared.Account.{Account}
use Rattle.refusals.specs.declared.Refusal.TheVariants.{BadHandle}
use Rattle.rules.specs.Verdict.{Done, Refused}
use Rattle.rules.specs.Handles.{Handles, handle_at}
use Rattle.rules.specs.Sound.{is_good}
use Rattle.rules.specs.Refusals.{sendable, handles_verdict}
use Rattle.pool.specs.Good.{good_in}
use Rattle.sends.specs.Lent.{sendable_in, marked_in, unmarked_in, GoodRun}

-- ---- what a good handle says

module _ (pool entries size : ℕ) (hands : List ℕ) (h : Handle) (good : good_in pool entries size hands h ≡ true) where
  pub good-known : h.id < entries
  unfolding good_in
  good-known = ltb-true h.id entries (both_left (ltb h.id entries) _ (both_right (eqb h.pool pool) _ good))

  good-out : eqb (get_or hands h.id 0) HAND-OUT ≡ true
  unfolding good_in
  good-out =
      both_left (eqb (get_or hands h.id 0) HAND-OUT) _ (both_right (ltb h.id entries) _ (both_right (eqb h.pool pool) _ good))

-- ---- marks

-- a place with another hand stored is not recorded as out
stored_other : (l : List ℕ) (i hand : ℕ) → (hand ≡ HAND-OUT → ⊥) → eqb (get_or (set l i hand) i 0) HAND-OUT ≡ false
stored_other [] i hand other = refl
stored_other (x ∷ l) zero hand other = ne_eqb hand HAND-OUT other
stored_other (x ∷ l) (suc i) hand other = stored_other l i hand other

-- a test moves behind those after it
test-last : (a b c d rest : Bool) → both a (both b (both (both c d) rest)) ≡ both (both a (both b (both c rest))) d
test-last true true true true rest = sym (both-same rest)
test-last true true true false rest = sym (both_false rest)
test-last true true false d rest = refl
test-last true false c d rest = refl
test-last false b c d rest = refl

module _ (mark : ℕ) (hands ids : List ℕ) where
  pub marked-none : marked_in mark hands ids 0 ≡ hands
  unfolding marked_in
  marked-none = refl

  marked_more : (n : ℕ) → marked_in mark hands ids (n + 1) ≡ set (marked_in mark hands ids n) (get_or ids n 0) mark
  unfolding marked_in
  marked_more n = rw add-one

  module _ (other : mark ≡ HAND-OUT → ⊥) where
    -- out by the marks: out, and not among the first n
    marked-out : (n x : ℕ) → n ≤ length ids
        → eqb (get_or (marked_in mark hands ids n) x 0) HAND-OUT ≡ both (eqb (get_or hands x 0) HAND-OUT) (eqb (occurs x (take n ids)) 0)
    unfolding marked_in
    marked-out zero x few = sym (both-same (eqb (get_or hands x 0) HAND-OUT))
    marked-out (suc n) x few = rw (← add-one n, occurs-more x ids n few) (by-case (ℕ_discrete x (get_or ids n 0)) (marked-out n x (omega arith)))
      where
        by-case : Dec (x ≡ get_or ids n 0)
            → eqb (get_or (marked_in mark hands ids n) x 0) HAND-OUT ≡ both (eqb (get_or hands x 0) HAND-OUT) (eqb (occurs x (take n ids)) 0)
            → eqb (get_or (set (marked_in mark hands ids n) (get_or ids n 0) mark) x 0) HAND-OUT
            ≡ both (eqb (get_or hands x 0) HAND-OUT) (eqb (occurs x (take n ids) + ind (eqb x (get_or ids n 0))) 0)
        by-case (yes e) before =
            rw (eq-eqb x (get_or ids n 0) e, ne_eqb (occurs x (take n ids) + 1) 0 (λ z. omega arith), both_false (eqb (get_or hands x 0) HAND-OUT), e)
            (stored_other (marked_in mark hands ids n) (get_or ids n 0) mark other)
        by-case (no ne) before =
            let same : occurs x (take n ids) + 0 ≡ occurs x (take n ids) = omega arith in
            rw (get_or-set_other (marked_in mark hands ids n) (get_or ids n 0) x mark 0 ne, ne_eqb x (get_or ids n 0) ne, same) before

    -- good by the marks: good, and its id is not among the first n
    marked-good : (pool entries size n : ℕ) (h : Handle) → n ≤ length ids
        → good_in pool entries size (marked_in mark hands ids n) h ≡ both (good_in pool entries size hands h) (eqb (occurs h.id (take n ids)) 0)
    unfolding good_in
    marked-good pool entries size n h few =
        rw (marked-out n h.id few)
        (test-last (eqb h.pool pool) (ltb h.id entries) (eqb (get_or hands h.id 0) HAND-OUT) (eqb (occurs h.id (take n ids)) 0)
        (both (either (eqb h.offset 0) (eqb h.offset HEADROOM)) (leb (h.offset + h.length) size)))

    -- the marks of ids that were out and differ are taken away: the record is as it was
    marked-unmarked : (n : ℕ) → n ≤ length ids
        → ((k : ℕ) → k < n → (eqb (get_or hands (get_or ids k 0) 0) HAND-OUT ≡ true) × (eqb (occurs (get_or ids k 0) (take k ids)) 0 ≡ true))
        → unmarked_in (marked_in mark hands ids n) ids n ≡ hands
    unfolding marked_in unmarked_in
    marked-unmarked zero few each = refl
    marked-unmarked (suc n) few each =
        let out : get_or (marked_in mark hands ids n) (get_or ids n 0) 0 ≡ HAND-OUT
        = eqb-true _ HAND-OUT (marked-out n (get_or ids n 0) (omega arith) ∙ both_true (each n (omega arith)).0 (each n (omega arith)).1) in
        rw (set-set, rw out at (set-get_or (marked_in mark hands ids n) (get_or ids n 0) 0))
        (marked-unmarked n (omega arith) (λ k h. each k (omega arith)))

-- ---- the loop that marks

-- the handles passed can be sent and have their marks, and nothing else has changed
pub record Marking (pool entries size mark : ℕ) (hands₀ : List ℕ) (lists : Handles) (hands : List ℕ) (i : ℕ) : Type 0 where
  pub other : mark ≡ HAND-OUT → ⊥
  pub not-past : i ≤ length lists.ids
  pub marked : hands ≡ marked_in mark hands₀ lists.ids i
  pub sendable : (k : ℕ) → k < i → sendable_in pool entries size hands₀ lists k ≡ true

module _ {pool entries size mark : ℕ} {hands₀ : List ℕ} {lists : Handles} {hands : List ℕ} {i : ℕ} (marking : Marking pool entries size mark hands₀ lists hands i) where
  -- good by the marks is what can be sent
  tested : sendable_in pool entries size hands₀ lists i ≡ good_in pool entries size hands (handle_at lists i)
  tested =
      rw marking.marked
      (sym (marked-good mark hands₀ lists.ids marking.other pool entries size i (handle_at lists i) marking.not-past))

  pub marking-stopped : good_in pool entries size hands (handle_at lists i) ≡ false → GoodRun pool entries size hands₀ lists (length lists.ids) i
  marking-stopped bad = record { not-past = marking.not-past; sendable = marking.sendable; stopped = λ h. tested ∙ bad }

  pub marking-all : i ≡ length lists.ids → GoodRun pool entries size hands₀ lists (length lists.ids) i
  marking-all all = record { not-past = marking.not-past; sendable = marking.sendable; stopped = λ h. absurd (omega arith) }

  pub marking-more : i < length lists.ids → good_in pool entries size hands (handle_at lists i) ≡ true
      → Marking pool entries size mark hands₀ lists (set hands (get_or lists.ids i 0) mark) (i + 1)
  marking-more below good =
      record {
        other = marking.other;
        not-past = omega arith;
        marked = rw (marked_more mark hands₀ lists.ids i, marking.marked);
        sendable = below_more _ i marking.sendable (tested ∙ good);
      }

-- ---- the loop that takes marks away

module _ (hands ids : List ℕ) where
  pub unmarked-none : unmarked_in hands ids 0 ≡ hands
  unfolding unmarked_in
  unmarked-none = refl

  pub unmarked-less : (n : ℕ) → 0 < n → unmarked_in hands ids n ≡ unmarked_in (set hands (get_or ids (n - 1) 0) HAND-OUT) ids (n - 1)
  unfolding unmarked_in
  unmarked-less n some = let e : n ≡ suc (n - 1) = omega arith in ap (unmarked_in hands ids) e

-- the last of the ids that are left is taken away
module _ (ids left rest : List ℕ) (id : ℕ) (front : left ≡ take (length left) ids) (last : left ≡ rest ++ id ∷ []) where
  more : length left ≡ length rest + 1
  more = rw last (length_push rest id)

  stands : id ≡ get_or ids (length rest) 0
  stands =
      sym (get_or_push rest id 0 (length rest) refl)
      ∙ ap (λ l. get_or l (length rest) 0) (sym last ∙ front)
      ∙ get_or-take (length left) ids (length rest) 0 (omega (arith, more))

  pub left-less : length rest < length left
  left-less = omega (arith, more)

  pub left-front : rest ≡ take (length rest) ids
  left-front =
      sym (take_at rest (id ∷ []) (length rest) refl)
      ∙ ap (take (length rest)) (sym last ∙ front)
      ∙ take-take (length rest) (length left) ids (omega (arith, more))

  pub left-unmarked : (hands : List ℕ) → unmarked_in (set hands id HAND-OUT) ids (length rest) ≡ unmarked_in hands ids (length left)
  left-unmarked hands =
      let before : length left - 1 ≡ length rest = omega (arith, more) in
      rw stands (sym (rw before at (unmarked-less hands ids (length left) (omega (arith, more)))))

-- ---- a run of handles that can be sent

module _ {pool entries size : ℕ} {hands : List ℕ} {lists : Handles} {n r : ℕ} (run : GoodRun pool entries size hands lists n r) where
  run-good : (k : ℕ) → k < r → good_in pool entries size hands (handle_at lists k) ≡ true
  run-good k below = both_left _ _ (run.sendable k below)

  pub run-known : (k : ℕ) → k < r → get_or lists.ids k 0 < entries
  run-known k below = good-known pool entries size hands (handle_at lists k) (run-good k below)

  -- marked, and unmarked again
  pub run-unmarked : (mark : ℕ) → (mark ≡ HAND-OUT → ⊥) → n ≤ length lists.ids
      → unmarked_in (marked_in mark hands lists.ids r) lists.ids r ≡ hands
  run-unmarked mark other room =
      marked-unmarked mark hands lists.ids other r (omega (arith, run.not-past))
      (λ k below. (
        good-out pool entries size hands (handle_at lists k) (run-good k below),
        both_right (good_in pool entries size hands (handle_at lists k)) _ (run.sendable k below),
      ))

module _ (a : Account) (lists : Handles) (r : ℕ) where
  -- the verdict on n handles from place i on, where the first that can't be sent is r
  verdict-from : (i n : ℕ) → i ≤ r → r ≤ i + n → ((k : ℕ) → k < r → sendable a lists k ≡ true) → (r < i + n → sendable a lists r ≡ false)
      → handles_verdict a lists i n ≡ pick (eqb r (i + n)) Done (Refused (BadHandle r))
  unfolding handles_verdict
  verdict-from i zero from to good stopped = rw (eq-eqb r (i + 0) (omega arith))
  verdict-from i (suc n) from to good stopped = by-case (ℕ_discrete i r) (λ below. verdict-from (i + 1) n (omega arith))
    where
      by-case : Dec (i ≡ r)
          → (i < r → r ≤ i + 1 + n → ((k : ℕ) → k < r → sendable a lists k ≡ true) → (r < i + 1 + n → sendable a lists r ≡ false)
          → handles_verdict a lists (i + 1) n ≡ pick (eqb r (i + 1 + n)) Done (Refused (BadHandle r)))
          → handles_verdict a lists i (suc n) ≡ pick (eqb r (i + suc n)) Done (Refused (BadHandle r))
      by-case (yes here) again =
          rw (ne_eqb r (i + suc n) (λ e. omega arith), ← here, rw (← here) at (stopped (omega arith)), handles_verdict)
      by-case (no ne) again =
          let below : i < r = lt_of_le-ne from ne in
          let e : i + suc n ≡ i + 1 + n = omega arith in
          rw (good i below, handles_verdict, e) (again below (omega arith) good (λ h. stopped (omega arith)))

-- a run is a verdict on the handles of a send
pub run-verdict : (a : Account) {lists : Handles} {n r : ℕ} → GoodRun a.pool a.entries a.size a.hands lists n r
    → handles_verdict a lists 0 n ≡ pick (eqb r n) Done (Refused (BadHandle r))
unfolding is_good good_in
run-verdict a {lists} {n} {r} run =
    let e : 0 + n ≡ n = omega arith in
    rw e at (verdict-from a lists r 0 n (omega arith) (omega (arith, run.not-past)) run.sendable (λ h. run.stopped (omega arith)))
