-- Marking is soundness. When the lists of the first n hands are marked, an id has as many marks as it has places in them, and each place is
-- in its recorded hand's list. So an id has at most one mark, and in the end exactly one unless it is out. In a sound account no id is met
-- where it may not stand.
use Prim.Native.Nat.{ℕ, zero, suc, ◌+◌, ◌≤◌, ◌<◌}
use mathlib.Core.Path.{◌≡◌, refl, sym, ◌∙◌}
use mathlib.Core.Bool.{Bool, true, false}
use mathlib.Core.List.{List, [], ◌∷◌}
use lib.ListN.{length, get_or, set, replicate, length-set, length-replicate, get_or-replicate}
use lib.Seq.{get_or-set_same, get_or-set_other}
use lib.Dec.{eqb, ltb}
use native.Mathlib.Decide.{ℕ_discrete, dec_lt}
use native.Mathlib.Numerals.{add-one}
use native.Mathlib.Omega.{arith}
use lib.Arith.{lt_of_le-ne}
use borrow.Author.Tests.{eq-eqb, ne_eqb, lt-ltb, le-ltb, eqb-true, ltb-true}
use Rattle.limits.specs.Limits.{ENTRIES}
use Rattle.laws.specs.Test.{pick, either}
use Rattle.laws.specs.Occurs.{ind, occurs}
use Rattle.laws.proofs.Test.{both_left, both_right, both_true, every-at, every-all, false-not-true}
use Rattle.pool.specs.Hands.{HAND-OUT}
use Rattle.rules.specs.declared.Account.{Account}
use Rattle.rules.specs.Account.{hand_of, list_of}
use Rattle.rules.specs.Sound.{hands, sound, Sound}
use Rattle.rules.proofs.Lists.{list-out, list-beyond}
use Rattle.rules.proofs.Sound.{in-range-means, queues-mean, ring-means, sound-means, means-sound}
use Rattle.sound.specs.Marks.{Marks, markable, mark_all, mark_next, mark_lists, settled, in_places, Numbered}

none : (n : ℕ) → (1 ≤ n → ⊥) → n ≡ 0
none n h = omega arith

-- ---- one list

module _ (entries : ℕ) (record_of : List ℕ) (hand : ℕ) where
  mark-more : (id : ℕ) (l seen : List ℕ) → markable entries record_of hand seen id ≡ true
      → mark_all entries record_of hand (id ∷ l) seen ≡ mark_all entries record_of hand l (set seen id 1)
  unfolding mark_all
  mark-more id l seen e = rw (e, mark_all)

  mark-fails : (id : ℕ) (l seen : List ℕ) → markable entries record_of hand seen id ≡ false
      → mark_all entries record_of hand (id ∷ l) seen ≡ record { ok = false; seen = seen }
  unfolding mark_all
  mark-fails id l seen e = rw (e, mark_all)

  -- a turn of a loop that marks: what `mark` says and leaves of the next id
  module _ (id : ℕ) (l seen after : List ℕ) (says : Bool) (right : says ≡ markable entries record_of hand seen id)
      (leaves : after ≡ pick says (set seen id 1) seen) where
    pub turn_more : says ≡ true → mark_all entries record_of hand (id ∷ l) seen ≡ mark_all entries record_of hand l after
    turn_more t = rw (leaves, t) (mark-more id l seen (sym right ∙ t))

    pub turn-fails : says ≡ false → mark_all entries record_of hand (id ∷ l) seen ≡ record { ok = false; seen = after }
    turn-fails t = rw (leaves, t) (mark-fails id l seen (sym right ∙ t))

  -- what a markable id is
  markable-means : (seen : List ℕ) (id : ℕ) → markable entries record_of hand seen id ≡ true
      → (id < entries) × (get_or record_of id 0 ≡ hand) × (get_or seen id 0 ≡ 0)
  markable-means seen id e =
      let rest = both_right (ltb id entries) _ e in (
        ltb-true id entries (both_left (ltb id entries) _ e),
        eqb-true _ hand (both_left (eqb (get_or record_of id 0) hand) _ rest),
        eqb-true _ 0 (both_right (eqb (get_or record_of id 0) hand) _ rest),
      )

  -- a list that was marked whole: each id got a mark for each place, none twice, and each is of the hand
  pub record Marked (l seen after : List ℕ) : Type 0 where
    pub same_length : length after ≡ length seen
    pub marks : (x : ℕ) → x < entries → get_or after x 0 ≡ get_or seen x 0 + occurs x l
    pub of-hand : (x : ℕ) → 1 ≤ occurs x l → (x < entries) × (get_or record_of x 0 ≡ hand) × (get_or seen x 0 ≡ 0) × (occurs x l ≡ 1)

  -- the first id was marked, and then the others
  marked_more : (id : ℕ) (l seen after : List ℕ) → entries ≤ length seen → markable entries record_of hand seen id ≡ true
      → Marked l (set seen id 1) after → Marked (id ∷ l) seen after
  marked_more id l seen after room e m =
      record {
        same_length = m.same_length ∙ length-set seen id 1;
        marks = λ x below. marks-at x below (ℕ_discrete x id);
        of-hand = λ x some. hand_at x some (ℕ_discrete x id);
      }
    where
      first : (id < entries) × (get_or record_of id 0 ≡ hand) × (get_or seen id 0 ≡ 0)
      first = markable-means seen id e

      here : get_or (set seen id 1) id 0 ≡ 1
      here = get_or-set_same seen id 1 0 (omega (arith, first.0))

      marks-at : (x : ℕ) → x < entries → Dec (x ≡ id) → get_or after x 0 ≡ get_or seen x 0 + (ind (eqb x id) + occurs x l)
      marks-at x below (yes same) =
          rw (m.marks x below, same, here, first.2, eq-eqb id id refl) (omega arith)
      marks-at x below (no ne) =
          rw (m.marks x below, get_or-set_other seen id x 1 0 ne, ne_eqb x id ne) (omega arith)

      none_left : occurs id l ≡ 0
      none_left = none (occurs id l) (λ some. omega (arith, here, (m.of-hand id some).2))

      hand_at : (x : ℕ) → 1 ≤ ind (eqb x id) + occurs x l → Dec (x ≡ id)
          → (x < entries) × (get_or record_of x 0 ≡ hand) × (get_or seen x 0 ≡ 0) × (ind (eqb x id) + occurs x l ≡ 1)
      hand_at x some (yes same) =
          rw (same, eq-eqb id id refl, none_left) (first.0, first.1, first.2, refl)
      hand_at x some (no ne) =
          let later : ind (eqb x id) + occurs x l ≡ occurs x l = rw (ne_eqb x id ne) (omega arith) in
          rw (later, ← get_or-set_other seen id x 1 0 ne) (m.of-hand x (rw later at some))

  pub marked : (l seen : List ℕ) → entries ≤ length seen → (mark_all entries record_of hand l seen).ok ≡ true
      → Marked l seen (mark_all entries record_of hand l seen).seen
  unfolding mark_all
  marked [] seen room e = record { same_length = refl; marks = λ x below. omega arith; of-hand = λ x some. absurd (omega arith) }
  marked (id ∷ l) seen room e =
      by-case (markable entries record_of hand seen id) refl (λ r. marked l (set seen id 1) (simp length-set room) r)
    where
      by-case : (b : Bool) → markable entries record_of hand seen id ≡ b
          → ((mark_all entries record_of hand l (set seen id 1)).ok ≡ true
          → Marked l (set seen id 1) (mark_all entries record_of hand l (set seen id 1)).seen)
          → Marked (id ∷ l) seen (mark_all entries record_of hand (id ∷ l) seen).seen
      by-case true p again =
          rw (mark-more id l seen p) (marked_more id l seen _ room p (again (rw (mark-more id l seen p) at e)))
      by-case false p again = absurd (false-not-true (rw (mark-fails id l seen p) at e))

  -- in a list that holds its hand's ids, once each and none marked before, all goes well
  pub marks-whole : (l seen : List ℕ) → ((x : ℕ) → occurs x l ≤ 1)
      → ((x : ℕ) → 1 ≤ occurs x l → (x < entries) × (get_or record_of x 0 ≡ hand) × (get_or seen x 0 ≡ 0))
      → (mark_all entries record_of hand l seen).ok ≡ true
  unfolding mark_all
  marks-whole [] seen once fine = refl
  marks-whole (id ∷ l) seen once fine =
      rw (mark-more id l seen markable-first)
      (marks-whole l (set seen id 1) (λ x. omega (arith, once x))
      (λ x some. rw (get_or-set_other seen id x 1 0 (other x some)) (fine x (omega arith))))
    where
      markable-first : markable entries record_of hand seen id ≡ true
      markable-first =
          let first = fine id (rw (eq-eqb id id refl) (omega arith)) in
          both_true (lt-ltb id entries first.0) (both_true (eq-eqb _ hand first.1) (eq-eqb _ 0 first.2))

      other : (x : ℕ) → 1 ≤ occurs x l → x ≡ id → ⊥
      other x some same = omega (arith, rw (eq-eqb x id same) at (once x))

-- ---- the lists of an account, one after another

module _ (a : Account) where
  pub lists-more : (hand : ℕ) (s : List ℕ) → mark_lists a hand ≡ record { ok = true; seen = s }
      → mark_lists a (hand + 1) ≡ mark_all a.entries a.hands hand (list_of a hand) s
  unfolding mark_lists
  lists-more hand s e = rw (add-one, e)

  -- the same of a list that is known, and of what marking it gives
  pub lists-next : (hand : ℕ) (l s : List ℕ) (m : Marks) → list_of a hand ≡ l → mark_lists a hand ≡ record { ok = true; seen = s }
      → m ≡ mark_all a.entries a.hands hand l s → mark_lists a (hand + 1) ≡ m
  lists-next hand l s m own e made = lists-more hand s e ∙ rw own (sym made)

  -- once not all goes well, it never does again
  lists-fail : (n hand : ℕ) → hand ≤ n → (mark_lists a hand).ok ≡ false → (mark_lists a n).ok ≡ false
  unfolding mark_lists
  lists-fail zero hand h e = let first : hand ≡ 0 = omega arith in rw first at e
  lists-fail (suc n) hand h e = by-case (ℕ_discrete hand (suc n)) (λ l. lists-fail n hand l e)
    where
      by-case : Dec (hand ≡ suc n) → (hand ≤ n → (mark_lists a n).ok ≡ false) → (mark_next a n (mark_lists a n)).ok ≡ false
      by-case (yes same) before = rw same at e
      by-case (no ne) before =
          let failed : (mark_lists a n).ok ≡ false = before (omega (arith, lt_of_le-ne h ne)) in
          rw (failed, mark_next) failed

  pub lists-fails : (hand : ℕ) → hand ≤ hands a → (mark_lists a hand).ok ≡ false → in_places a ≡ false
  unfolding in_places
  lists-fails hand h e = rw (lists-fail (hands a) hand h e)

  -- what the marks say when the lists of the first n hands are marked
  pub record Run (n : ℕ) (seen : List ℕ) : Type 0 where
    pub all : length seen ≡ ENTRIES
    pub marks : (x : ℕ) → x < a.entries → get_or seen x 0 ≡ pick (ltb (hand_of a x) n) (occurs x (list_of a (hand_of a x))) 0
    pub of-hand : (hand x : ℕ) → hand < n → 1 ≤ occurs x (list_of a hand)
        → (x < a.entries) × (hand_of a x ≡ hand) × (occurs x (list_of a hand) ≡ 1)

  run-start : a.entries ≤ ENTRIES → Run 0 (replicate ENTRIES 0)
  run-start few =
      record {
        all = length-replicate {A = ℕ} ENTRIES 0;
        marks = λ x below. rw (le-ltb (hand_of a x) 0 (omega arith)) (get_or-replicate {A = ℕ} ENTRIES x 0 0 (omega arith));
        of-hand = λ hand x h some. absurd (omega arith);
      }

  -- an id of the next hand had no mark and has one for each place; any other keeps what it had
  run_more : (n : ℕ) (seen after : List ℕ) → Run n seen → Marked a.entries a.hands n (list_of a n) seen after → Run (suc n) after
  run_more n seen after r m =
      record {
        all = m.same_length ∙ r.all;
        marks = λ x below. m.marks x below ∙ marks-at x below (ℕ_discrete (hand_of a x) n);
        of-hand = λ hand x h some. hand_at hand x h some (ℕ_discrete hand n);
      }
    where
      marks-at : (x : ℕ) → x < a.entries → Dec (hand_of a x ≡ n)
          → get_or seen x 0 + occurs x (list_of a n) ≡ pick (ltb (hand_of a x) (suc n)) (occurs x (list_of a (hand_of a x))) 0
      marks-at x below (yes own) =
          let before : get_or seen x 0 ≡ 0 = rw (le-ltb (hand_of a x) n (omega arith)) at (r.marks x below) in
          rw (before, own, lt-ltb n (suc n) (omega arith)) (omega arith)
      marks-at x below (no other) =
          rw (none (occurs x (list_of a n)) (λ some. other (m.of-hand x some).1), later (dec_lt (hand_of a x) n)) (omega (arith, r.marks x below))
        where
          later : Dec (hand_of a x < n) → ltb (hand_of a x) (suc n) ≡ ltb (hand_of a x) n
          later (yes less) = rw (lt-ltb (hand_of a x) (suc n) (omega arith), lt-ltb (hand_of a x) n less)
          later (no more) = rw (le-ltb (hand_of a x) (suc n) (lt_of_le-ne (omega arith) (λ e. other (sym e))), le-ltb (hand_of a x) n (omega arith))

      hand_at : (hand x : ℕ) → hand < suc n → 1 ≤ occurs x (list_of a hand) → Dec (hand ≡ n)
          → (x < a.entries) × (hand_of a x ≡ hand) × (occurs x (list_of a hand) ≡ 1)
      hand_at hand x h some (yes same) =
          let found = m.of-hand x (rw same at some) in
          rw same (found.0, found.1, found.3)
      hand_at hand x h some (no ne) = r.of-hand hand x (lt_of_le-ne (omega arith) ne) some

  pub run : a.entries ≤ ENTRIES → (n : ℕ) → (mark_lists a n).ok ≡ true → Run n (mark_lists a n).seen
  unfolding mark_lists
  run few zero e = run-start few
  run few (suc n) e = by-case (mark_lists a n).ok refl (run few n)
    where
      by-case : (b : Bool) → (mark_lists a n).ok ≡ b → ((mark_lists a n).ok ≡ true → Run n (mark_lists a n).seen)
          → Run (suc n) (mark_next a n (mark_lists a n)).seen
      by-case true p before =
          let r = before p in
          rw (p, mark_next) (run_more n _ _ r (marked a.entries a.hands n (list_of a n) _ (omega (arith, r.all)) (rw (p, mark_next) at e)))
      by-case false p before = absurd (false-not-true (sym p ∙ rw (p, mark_next) at e))

  -- ---- soundness

  -- where every id that is not out has its mark, each stands once in its hand's list, and in no other
  module _ (few : a.entries ≤ ENTRIES) (e : in_places a ≡ true) where
    whole : Run (hands a) (mark_lists a (hands a)).seen
    unfolding in_places
    whole = run few (hands a) (both_left (mark_lists a (hands a)).ok _ e)

    has-mark : (x : ℕ) → x < a.entries → (hand_of a x ≡ HAND-OUT → ⊥) → get_or (mark_lists a (hands a)).seen x 0 ≡ 1
    unfolding in_places settled
    has-mark x below listed =
        eqb-true _ 1 (rw (ne_eqb (hand_of a x) HAND-OUT listed) at (every-at _ a.entries x below (both_right (mark_lists a (hands a)).ok _ e)))

    nowhere-else : (x hand : ℕ) → ((x < a.entries) × (hand_of a x ≡ hand) → ⊥) → occurs x (list_of a hand) ≡ 0
    nowhere-else x hand other = by-case (dec_lt hand (hands a))
      where
        by-case : Dec (hand < hands a) → occurs x (list_of a hand) ≡ 0
        by-case (yes known) =
            none (occurs x (list_of a hand)) (λ some. let found = whole.of-hand hand x known some in other (found.0, found.1))
        by-case (no beyond) = rw (list-beyond a hand (omega arith))

    marks-placed : (x hand : ℕ) → x < a.entries → (hand ≡ HAND-OUT → ⊥) → occurs x (list_of a hand) ≡ ind (eqb (hand_of a x) hand)
    marks-placed x hand below listed = by-case (ℕ_discrete (hand_of a x) hand)
      where
        known : (mark : ℕ) → mark ≡ 1 → mark ≡ pick (ltb hand (hands a)) (occurs x (list_of a hand)) 0 → Dec (hand < hands a) → occurs x (list_of a hand) ≡ 1
        known mark one marked (yes less) = omega (arith, one, rw (lt-ltb hand (hands a) less) at marked)
        known mark one marked (no more) = absurd (omega (arith, one, rw (le-ltb hand (hands a) (omega arith)) at marked))

        by-case : Dec (hand_of a x ≡ hand) → occurs x (list_of a hand) ≡ ind (eqb (hand_of a x) hand)
        by-case (yes own) =
            rw (eq-eqb (hand_of a x) hand own)
            (known _ (has-mark x below (λ out. listed (sym own ∙ out))) (rw own at (whole.marks x below)) (dec_lt hand (hands a)))
        by-case (no other) = rw (ne_eqb (hand_of a x) hand other) (nowhere-else x hand (λ w. other w.1))

  pub places-mean : Numbered a → in_places a ≡ true → Sound a
  places-mean m e =
      let numbers = in-range-means a.entries a.size a.receives a.sends m.numbers in
      let ring = ring-means a.started a.rx a.receives m.ring in
      record {
        numbers = numbers;
        free-count = m.free-count;
        ids-below = λ x hand out. nowhere-else numbers.few-entries e x hand (λ w. omega (arith, w.0));
        rx-below = ring.0;
        queues = queues-mean a.sends a.clean a.tx m.queues;
        started-on = ring.1;
        not-started = ring.2;
        placed = marks-placed numbers.few-entries e;
      }

  -- in a sound account all goes well, and every id that is not out gets its mark
  module _ (s : Sound a) where
    in_list : (hand x : ℕ) → (occurs x (list_of a hand) ≤ 1) × (1 ≤ occurs x (list_of a hand) → (x < a.entries) × (hand_of a x ≡ hand))
    in_list hand x = by-case (ℕ_discrete hand HAND-OUT) (dec_lt x a.entries) (ℕ_discrete (hand_of a x) hand)
      where
        by-case : Dec (hand ≡ HAND-OUT) → Dec (x < a.entries) → Dec (hand_of a x ≡ hand)
            → (occurs x (list_of a hand) ≤ 1) × (1 ≤ occurs x (list_of a hand) → (x < a.entries) × (hand_of a x ≡ hand))
        by-case (yes out) below own = rw (out, list-out a) (omega arith, λ some. absurd (omega arith))
        by-case (no listed) (no past) own =
            let past_all = s.ids-below x hand (omega arith) in (omega arith, λ some. absurd (omega arith))
        by-case (no listed) (yes below) (yes own) =
            let one = rw (eq-eqb (hand_of a x) hand own) at (s.placed x hand below listed) in (omega arith, λ some. (below, own))
        by-case (no listed) (yes below) (no other) =
            let elsewhere = rw (ne_eqb (hand_of a x) hand other) at (s.placed x hand below listed) in (omega arith, λ some. absurd (omega arith))

    goes-well : (n : ℕ) → (mark_lists a n).ok ≡ true
    unfolding mark_lists
    goes-well zero = refl
    goes-well (suc n) =
        let before = goes-well n in
        let r = run s.numbers.few-entries n before in
        rw (before, mark_next)
        (marks-whole a.entries a.hands n (list_of a n) (mark_lists a n).seen (λ x. (in_list n x).0)
        (λ x some.
        let found = (in_list n x).1 some in
        (found.0, found.1, rw (found.1, le-ltb n n (omega arith)) at (r.marks x found.0))))

    pub means-places : in_places a ≡ true
    unfolding in_places settled
    means-places = both_true (goes-well (hands a)) (every-all _ a.entries (λ x below. by-case x below (ℕ_discrete (hand_of a x) HAND-OUT)))
      where
        r : Run (hands a) (mark_lists a (hands a)).seen
        r = run s.numbers.few-entries (hands a) (goes-well (hands a))

        by-case : (x : ℕ) → x < a.entries → Dec (hand_of a x ≡ HAND-OUT)
            → either (eqb (hand_of a x) HAND-OUT) (eqb (get_or (mark_lists a (hands a)).seen x 0) 1) ≡ true
        by-case x below (yes out) = rw (eq-eqb (hand_of a x) HAND-OUT out)
        by-case x below (no listed) =
            let one = rw (eq-eqb (hand_of a x) (hand_of a x) refl) at (s.placed x (hand_of a x) below listed) in
            rw (ne_eqb (hand_of a x) HAND-OUT listed) (eq-eqb _ 1 (r.marks x below ∙ rw (one, own one (dec_lt (hand_of a x) (hands a)))))
          where
            own : occurs x (list_of a (hand_of a x)) ≡ 1 → Dec (hand_of a x < hands a) → ltb (hand_of a x) (hands a) ≡ true
            own one (yes less) = lt-ltb (hand_of a x) (hands a) less
            own one (no more) = absurd (omega (arith, rw (list-beyond a (hand_of a x) (omega arith)) at one))

  pub places-sound : Numbered a → in_places a ≡ sound a
  places-sound m = same (in_places a) (sound a) (λ e. means-sound a (places-mean m e)) (λ e. means-places (sound-means a e))
    where
      same : (b c : Bool) → (b ≡ true → c ≡ true) → (c ≡ true → b ≡ true) → b ≡ c
      same true c to from = sym (to refl)
      same false true to from = from refl
      same false false to from = refl
