-- A send queue's ids stand in its part of the array: in one piece, or in two where they go round the end.
use Rattle.std.proofs.Common.{◌≡◌, ℕ, zero, suc, ◌+◌, ◌-◌, ◌*◌, ◌%◌, ◌<◌, ◌≤◌, Bool, true, false, List, [], ◌∷◌, ◌++◌, length, take, drop, get_or, refl, sym, ◌∙◌, add-one, suc-add, zero-add, set, arith}
use Rattle.std.proofs.lemmas.List.{length-drop, length-take-le}
use lib.Seq.{drop-cons, get_or-take, get_or-drop}
use Rattle.limits.specs.Limits.{SLOTS, SENDS}
use Rattle.rules.specs.Account.{around, next_slot, send_place, waiting}
use Rattle.sound.specs.Marks.{Marks, mark_all, markable}

-- ---- marking one list after another

module _ (entries : ℕ) (record_of : List ℕ) (hand : ℕ) where
  -- the ids of a list after what was marked before, if all went well
  abbrev and_then : List ℕ → Marks → Marks
  and_then ys m = elim m.ok [ true ↦ mark_all entries record_of hand ys m.seen | false ↦ m ]

  append : (xs ys seen : List ℕ) → mark_all entries record_of hand (xs ++ ys) seen ≡ and_then ys (mark_all entries record_of hand xs seen)
  unfolding mark_all
  append [] ys seen = refl
  append (id ∷ xs) ys seen = by-case (markable entries record_of hand seen id) (append xs ys (set seen id 1))
    where
      by-case : (b : Bool) → mark_all entries record_of hand (xs ++ ys) (set seen id 1) ≡ and_then ys (mark_all entries record_of hand xs (set seen id 1))
          → elim b [ true ↦ mark_all entries record_of hand (xs ++ ys) (set seen id 1) | false ↦ record { ok = false; seen = seen } ]
          ≡ and_then ys (elim b [ true ↦ mark_all entries record_of hand xs (set seen id 1) | false ↦ record { ok = false; seen = seen } ])
      by-case true more = more
      by-case false more = refl

  module _ (xs ys seen after : List ℕ) (says : Bool) (e : record { ok = says; seen = after } ≡ mark_all entries record_of hand xs seen) where
    pub append_more : says ≡ true → mark_all entries record_of hand ys after ≡ mark_all entries record_of hand (xs ++ ys) seen
    append_more t = sym (append xs ys seen ∙ rw (← e, t) refl)

    pub append-fails : says ≡ false → record { ok = says; seen = after } ≡ mark_all entries record_of hand (xs ++ ys) seen
    append-fails f = sym (append xs ys seen ∙ rw (← e, f, f) refl)

-- ---- a queue's part of the array

module _ (sent : List ℕ) (q : ℕ) (known : q < SENDS) (all : length sent ≡ SENDS * SLOTS) where
  abbrev pub ring : List ℕ
  ring = take SLOTS (drop (q * SLOTS) sent)

  ring-length : length ring ≡ SLOTS
  ring-length = length-take-le SLOTS (drop (q * SLOTS) sent) (omega (arith, length-drop (q * SLOTS) sent))

  next : (slot : ℕ) → slot < SLOTS → drop slot ring ≡ get_or sent (send_place q slot) 0 ∷ drop (slot + 1) ring
  next slot below =
      drop-cons ring slot 0 (omega (arith, ring-length))
      ∙ rw (add-one slot, get_or-take SLOTS (drop (q * SLOTS) sent) slot 0 below, get_or-drop (q * SLOTS) sent slot 0) refl

  -- ids that do not go round the end
  pub flat : (n slot : ℕ) → slot + n ≤ SLOTS → around sent q slot n ≡ take n (drop slot ring)
  unfolding around
  flat zero slot within = refl
  flat (suc zero) slot within = rw (next slot (omega arith)) refl
  flat (suc (suc n)) slot within =
      let one : next_slot slot ≡ slot + 1 = omega arith in
      rw (next slot (omega arith), one, flat (suc n) (slot + 1) (omega arith)) refl

  split : (few more slot : ℕ) → slot < SLOTS → around sent q slot (few + more) ≡ around sent q slot few ++ around sent q ((slot + few) % SLOTS) more
  unfolding around
  split zero more slot below = let same : (slot + 0) % SLOTS ≡ slot = omega arith in rw (same, zero-add more) refl
  split (suc few) more slot below =
      let on : (next_slot slot + few) % SLOTS ≡ (slot + suc few) % SLOTS = omega arith in
      rw (suc-add few more, split few more (next_slot slot) (omega arith), on) refl

  -- ids that do
  pub round : (slot end : ℕ) → slot < SLOTS → end ≤ SLOTS → around sent q slot (SLOTS - slot + end) ≡ take (length ring - slot) (drop slot ring) ++ take end ring
  round slot end below short =
      let begin : (slot + (SLOTS - slot)) % SLOTS ≡ 0 = omega arith in
      split (SLOTS - slot) end slot below ∙ rw (begin, flat (SLOTS - slot) slot (omega arith), flat end 0 (omega arith), ring-length) refl

  -- ids from a slot on, up to another
  pub one_piece : (slot end : ℕ) → slot ≤ end → end < SLOTS → around sent q slot (waiting end slot) ≡ take (end - slot) (drop slot ring)
  one_piece slot end order below =
      let count : waiting end slot ≡ end - slot = omega arith in
      rw count (flat (end - slot) slot (omega arith))

  pub two_pieces : (slot end : ℕ) → end < slot → slot < SLOTS → around sent q slot (waiting end slot) ≡ take (length ring - slot) (drop slot ring) ++ take end ring
  two_pieces slot end order below =
      let count : waiting end slot ≡ SLOTS - slot + end = omega arith in
      rw count (round slot end below (omega arith))
