-- The sequence by numbers: a place of a part is a template for a queue, and a walk over the parts keeps how far the place lies into the rest.
-- One computed test over all parts says that each is short and names rows of the card's table. Assumes nothing.
use Prim.Native.Nat.{ℕ, zero, suc, ◌+◌, ◌-◌, ◌*◌, ◌/◌, ◌%◌, ◌≤◌, ◌<◌}
use mathlib.Core.Path.{◌≡◌, refl, sym, ap, ◌∙◌}
use mathlib.Core.Bool.{Bool, true, false, not}
use mathlib.Core.List.{List, [], ◌∷◌, ◌++◌}
use native.Mathlib.Decide.{dec_lt}
use native.Mathlib.Nat.{zero-mul, suc-mul, mul-le-mul_right, mul-le-mul, lt_of_lt_of_le, mul-zero, zero-add, not-suc-le-zero, div-add-mod', div-lt_iff_lt-mul, mod-lt}
use native.Mathlib.Numerals.{add-one}
use native.Mathlib.Omega.{arith}
use borrow.Author.Tests.{leb-true, ltb-true}
use lib.Dec.{T, eqb, leb, ltb}
use lib.ListN.{length, get_or, drop, length-append, length-map, get_or-append, get_or-eq_default}
use lib.Seq.{drop-cons}
use Rattle.std.specs.Prelude.{Option, None, Some}
use Rattle.limits.specs.Limits.{QUEUES}
use Rattle.laws.specs.Test.{pick, both}
use Rattle.card.specs.Registers.{ROWS}
use Rattle.parts.specs.declared.Part.{Part}
use Rattle.parts.specs.declared.Template.{Template}
use Rattle.parts.specs.declared.Template.TheVariants.{Write, Read, Change, WaitSet, WaitClear, Pause, Link}
use Rattle.parts.specs.declared.Times.{Times}
use Rattle.parts.specs.declared.Times.TheVariants.{Once, Buffer, Receive, Send, MsiQueue, MsixQueue}
use Rattle.parts.specs.Parts.{Made, parts, row_of, row_for, part_rows, items_of, no_part, no_template, no_made, PARTS, TEMPLATES}
use Rattle.std.proofs.lemmas.List.{drop_all, get_or-map}
use Rattle.std.proofs.Math.Seq.{get_or-append_right}
use Rattle.parts.proofs.Lists.{all, all_cons, at_all}
use Rattle.plan.specs.declared.Setup.{Setup}
use Rattle.plan.specs.declared.Item.{Item}
use Rattle.plan.specs.declared.Item.TheVariants.{End}
use Rattle.plan.specs.Sequence.{Ranged, MSI, MSIX, by_kind, times_of, times_for, filled, each, for_queue, made, joined, sequence, ITEMS}

-- ---- one queue after the other

module _ (f : ℕ → List Item) (len : ℕ) (even : (q : ℕ) → length (f q) ≡ len) where
  length-each : (n : ℕ) → length (each n f) ≡ n * len
  length-each zero = sym (zero-mul len)
  length-each (suc n) = simp length-append (omega (arith, length-each n, even n, suc-mul n len))

  at_each : (n q r : ℕ) → q < n → r < len → get_or (each n f) (q * len + r) End ≡ get_or (f q) r End
  at_each zero q r hq hr = absurd (not-suc-le-zero hq)
  at_each (suc n) q r hq hr = by-case (dec_lt q n) (λ h. at_each n q r h hr)
    where
      by-case : Dec (q < n) → (q < n → get_or (each n f) (q * len + r) End ≡ get_or (f q) r End)
          → get_or (each n f ++ f n) (q * len + r) End ≡ get_or (f q) r End
      by-case (yes h) before =
          get_or-append (each n f) (f n) End (q * len + r) (omega (arith, length-each n, suc-mul q len, mul-le-mul_right len h))
          ∙ before h
      by-case (no h) before =
          let e : q ≡ n = omega (arith, h) in
          rw e
          (get_or-append_right (each n f) (f n) (n * len + r) End (omega (arith, length-each n))
          ∙ ap (λ k. get_or (f n) k End) (omega (arith, length-each n)))

-- a product that is above something has no factor of 0
some-factor : (n m k : ℕ) → k < n * m → 0 < m
some-factor n zero k h = absurd (not-suc-le-zero (rw mul-zero at h))
some-factor n (suc m) k h = omega arith

module _ (s : Setup) (p : Made) where
  abbrev many : ℕ
  many = times_for s p.times

  pub length-made : length (made s p) ≡ many * length p.items
  length-made = length-each (for_queue s p.items) (length p.items) (λ q. length-map p.items (filled s q)) many

  -- a place of a part is a template for a queue
  pub at-made : (k : ℕ) (d : Template) → k < many * length p.items
      → get_or (made s p) k End ≡ filled s (k / length p.items) (get_or p.items (k % length p.items) d)
  at-made k d h =
      let len = length p.items in
      let some = some-factor many len k h in
      ap (λ x. get_or (made s p) x End) (sym (div-add-mod' k len))
      ∙ at_each (for_queue s p.items) len (λ q. length-map p.items (filled s q)) many (k / len) (k % len) ((div-lt_iff_lt-mul some).1 h) (mod-lt k some)
      ∙ get_or-map (filled s (k / len)) p.items (k % len) d End (mod-lt k some)

-- ---- a test over all the parts

part_count : length parts ≡ PARTS
unfolding parts
part_count = refl

-- a template that waits has something to wait for
abbrev pub masked : Template → Bool
masked (Write row v) = true
masked (Read row) = true
masked (Change row clear set) = true
masked (WaitSet row mask) = not (eqb mask 0)
masked (WaitClear row mask) = not (eqb mask 0)
masked (Pause ms) = true
masked (Link row) = true

-- every template names a row of the card's table and has its mask, and no part is long
known : Template → Bool
known t = both (ltb (row_of t) ROWS) (masked t)

fine : Made → Bool
fine p = elim (leb (length p.items) TEMPLATES) [ true ↦ all known p.items | false ↦ false ]

all-fine : T (all fine parts)
unfolding parts fine known
all-fine = tt

fine-parts : (p : Made) → T (fine p) → (length p.items ≤ TEMPLATES) × T (all known p.items)
unfolding fine
fine-parts p t = split (leb (length p.items) TEMPLATES) refl t
  where
    split : (b : Bool) → leb (length p.items) TEMPLATES ≡ b → T (elim b [ true ↦ all known p.items | false ↦ false ])
        → (length p.items ≤ TEMPLATES) × T (all known p.items)
    split true e t = (leb-true _ _ e, t)
    split false e t = absurd t

known-parts : (t : Template) → T (known t) → (row_of t < ROWS) × (masked t ≡ true)
unfolding known
known-parts t h = split (ltb (row_of t) ROWS) (masked t) refl refl h
  where
    split : (a b : Bool) → ltb (row_of t) ROWS ≡ a → masked t ≡ b → T (both a b) → (row_of t < ROWS) × (masked t ≡ true)
    split true true e f h = (ltb-true _ _ e, f)
    split true false e f h = absurd h
    split false b e f h = absurd h

module _ (p : Made) (t : T (fine p)) (j : ℕ) (k : j < length p.items) where
  fine-item : (row_of (get_or p.items j no_template) < ROWS) × (masked (get_or p.items j no_template) ≡ true)
  fine-item = known-parts (get_or p.items j no_template) (at_all known p.items no_template (fine-parts p t).1 j k)

module _ (i : ℕ) (h : i < PARTS) where
  fine-at : T (fine (get_or parts i no_made))
  fine-at = at_all fine parts no_made all-fine i (omega (arith, part_count))

  part-short : length (items_of i) ≤ TEMPLATES
  part-short = (fine-parts (get_or parts i no_made) fine-at).0

-- no part is made more often than there may be queues
by-kind-few : (kind : ℕ) (interrupts : Option ℕ) (n : ℕ) → n ≤ QUEUES → by_kind kind interrupts n ≤ QUEUES
by-kind-few kind None n h = omega arith
by-kind-few kind (Some k) n h = either (eqb k kind)
  where
    either : (b : Bool) → pick b n 0 ≤ QUEUES
    either true = h
    either false = omega arith

module _ (receives sends : ℕ) (interrupts : Option ℕ) (r : receives ≤ QUEUES) (s : sends ≤ QUEUES) where
  times-of-few : (t : Times) → times_of receives sends interrupts t ≤ QUEUES
  times-of-few Once = omega arith
  times-of-few Buffer = omega arith
  times-of-few Receive = r
  times-of-few Send = s
  times-of-few MsiQueue = by-kind-few MSI interrupts receives r
  times-of-few MsixQueue = by-kind-few MSIX interrupts receives r

times-few : (s : Setup) (t : Times) → Ranged s → times_for s t ≤ QUEUES
times-few s t g = times-of-few s.receives s.sends s.interrupts g.receives g.sends t

-- ---- a walk over the parts: the place is so far into the parts from i on

pub record Here (s : Setup) (place left i : ℕ) : Type 0 where
  pub here : get_or (sequence s) place End ≡ get_or (joined s (drop i parts)) left End

pub here-start : (s : Setup) (place : ℕ) → Here s place place 0
unfolding sequence
here-start s place = record { here = refl }

pub here_end : (s : Setup) (place left i : ℕ) → Here s place left i → PARTS ≤ i → get_or (sequence s) place End ≡ End
here_end s place left i at h = at.here ∙ rw (drop_all i parts (omega (arith, part_count)))

module _ (s : Setup) (place left i : ℕ) (at : Here s place left i) (h : i < length parts) where
  abbrev now : Made
  now = get_or parts i no_made

  next-part : get_or (sequence s) place End ≡ get_or (made s now ++ joined s (drop (suc i) parts)) left End
  next-part = at.here ∙ ap (λ ps. get_or (joined s ps) left End) (drop-cons parts i no_made h)

  here_found : left < times_for s now.times * length now.items
      → get_or (sequence s) place End ≡ filled s (left / length now.items) (get_or now.items (left % length now.items) no_template)
  here_found k =
      next-part
      ∙ get_or-append (made s now) _ End left (omega (arith, length-made s now))
      ∙ at-made s now left no_template k

  here-next : times_for s now.times * length now.items ≤ left → Here s place (left - times_for s now.times * length now.items) (i + 1)
  here-next k =
      record {
        here = next-part
            ∙ get_or-append_right (made s now) _ left End (omega (arith, length-made s now))
            ∙ rw (length-made s now, add-one);
      }

-- ---- a count of the parts: so many items before part i

-- the items of some parts
abbrev pub items-of : ℕ → ℕ → Option ℕ → List Made → ℕ
items-of receives sends interrupts [] = 0
items-of receives sends interrupts (p ∷ ps) =
    times_of receives sends interrupts p.times * length p.items + items-of receives sends interrupts ps

length-joined : (s : Setup) (ps : List Made) → length (joined s ps) ≡ items-of s.receives s.sends s.interrupts ps
length-joined s [] = refl
length-joined s (p ∷ ps) = simp length-append (omega (arith, length-made s p, length-joined s ps))

pub record Counted (receives sends : ℕ) (interrupts : Option ℕ) (sum i : ℕ) : Type 0 where
  pub counted : sum + items-of receives sends interrupts (drop i parts) ≡ items-of receives sends interrupts parts
  pub small : sum ≤ i * (QUEUES * TEMPLATES)
  pub within : i ≤ PARTS

pub count-start : (receives sends : ℕ) (interrupts : Option ℕ) → Counted receives sends interrupts 0 0
count-start receives sends interrupts = record { counted = zero-add _; small = omega arith; within = omega arith }

pub count-end : (s : Setup) (sum i : ℕ) → Counted s.receives s.sends s.interrupts sum i → PARTS ≤ i
    → (sum ≡ length (sequence s)) × (sum ≤ ITEMS)
unfolding sequence
count-end s sum i c h = (
  omega (arith, rw (drop_all i parts (omega (arith, part_count))) at c.counted, length-joined s parts),
  omega (arith, c.small, c.within),
)

-- ---- a turn, by the table's row: the walk is at part i, whose row of the table was read, and n is how often it is made

pub record Turn (receives sends : ℕ) (interrupts : Option ℕ) (i n : ℕ) (row : Part) : Type 0 where
  pub within : i < PARTS
  pub is : row ≡ get_or part_rows i no_part
  pub receives-few : receives ≤ QUEUES
  pub sends-few : sends ≤ QUEUES
  pub many : n ≡ times_of receives sends interrupts row.times

module _ {receives sends : ℕ} {interrupts : Option ℕ} {i n : ℕ} {row : Part} (turn : Turn receives sends interrupts i n row) where
  inside : i < length parts
  inside = omega (arith, part_count, turn.within)

  row_is : row ≡ row_for (get_or parts i no_made)
  row_is = turn.is ∙ get_or-map row_for parts i no_made no_part inside

  row_len : row.len ≡ length (items_of i)
  row_len = ap (λ r. r.len) row_is

  n-few : n ≤ QUEUES
  n-few = rw turn.many (times-of-few receives sends interrupts turn.receives-few turn.sends-few row.times)

  pub few : n * row.len ≤ QUEUES * TEMPLATES
  few = mul-le-mul {n₂ = QUEUES} {m₂ = TEMPLATES} n-few (omega (arith, row_len, part-short i turn.within))

  product : n * row.len ≡ times_of receives sends interrupts (get_or parts i no_made).times * length (items_of i)
  product = rw (turn.many, ap (λ r. r.times) row_is, row_len)

  module _ {left : ℕ} (k : left < n * row.len) where
    pub some : 0 < row.len
    some = some-factor n row.len left k

    pub in-part : left % row.len < length (items_of i)
    in-part = omega (arith, row_len, mod-lt left some)

    pub a-queue : left / row.len < QUEUES
    a-queue = lt_of_lt_of_le ((div-lt_iff_lt-mul some).1 k) n-few

  counted_next : (sum : ℕ) → sum + items-of receives sends interrupts (drop i parts) ≡ items-of receives sends interrupts parts
      → sum + n * row.len + items-of receives sends interrupts (drop (i + 1) parts) ≡ items-of receives sends interrupts parts
  counted_next sum c =
      let d : items-of receives sends interrupts (drop i parts)
      ≡ times_of receives sends interrupts (get_or parts i no_made).times * length (items_of i) + items-of receives sends interrupts (drop (i + 1) parts) =
      ap (items-of receives sends interrupts) (drop-cons parts i no_made inside) ∙ rw add-one in
      omega (arith, c, d, product)

  pub turn-counted : {sum : ℕ} → Counted receives sends interrupts sum i → Counted receives sends interrupts (sum + n * row.len) (i + 1)
  turn-counted {sum} c =
      record { counted = counted_next sum c.counted; small = omega (arith, few, c.small); within = omega (arith, turn.within) }

module _ {s : Setup} {i n : ℕ} {row : Part} (turn : Turn s.receives s.sends s.interrupts i n row) where
  pub turn-found : {place left : ℕ} → left < n * row.len → Here s place left i
      → get_or (sequence s) place End ≡ filled s (left / row.len) (get_or (items_of i) (left % row.len) no_template)
  turn-found {place} {left} k at = rw (row_len turn) (here_found s place left i at (inside turn) (omega (arith, k, product turn)))

  pub turn-next : {place left : ℕ} → Here s place left i → n * row.len ≤ left → Here s place (left - n * row.len) (i + 1)
  turn-next {place} {left} at k = rw (product turn) (here-next s place left i at (inside turn) (omega (arith, k, product turn)))

-- ---- what holds of every item

-- the sequence is short
items-few : (s : Setup) → Ranged s → (ps : List Made) → T (all fine ps) → length (joined s ps) ≤ length ps * (QUEUES * TEMPLATES)
items-few s g [] t = omega arith
items-few s g (p ∷ ps) t = one (all_cons fine p ps t).0 (items-few s g ps (all_cons fine p ps t).1)
  where
    one : T (fine p) → length (joined s ps) ≤ length ps * (QUEUES * TEMPLATES)
        → length (made s p ++ joined s ps) ≤ suc (length ps) * (QUEUES * TEMPLATES)
    one t r =
        simp length-append
        (omega (arith, r, length-made s p, mul-le-mul {n₂ = QUEUES} {m₂ = TEMPLATES} (times-few s p.times g) (fine-parts p t).0))

pub length-few : (s : Setup) → Ranged s → length (sequence s) ≤ ITEMS
unfolding sequence
length-few s g = omega (arith, part_count, items-few s g parts all-fine)

-- what holds of every template for every queue holds of every item
module _ (s : Setup) (g : Ranged s) (P : Item → Type 0)
    (of : (queue : ℕ) (t : Template) → queue < QUEUES → row_of t < ROWS → masked t ≡ true → P (filled s queue t)) where
  of-made : (p : Made) → T (fine p) → (k : ℕ) → k < length (made s p) → P (get_or (made s p) k End)
  of-made p t k h =
      let len = length p.items in
      let h' : k < times_for s p.times * len = omega (arith, h, length-made s p) in
      let some = some-factor (times_for s p.times) len k h' in
      rw (at-made s p k no_template h')
      (of (k / len) (get_or p.items (k % len) no_template)
      (lt_of_lt_of_le ((div-lt_iff_lt-mul some).1 h') (times-few s p.times g))
      (fine-item p t (k % len) (mod-lt k some)).0
      (fine-item p t (k % len) (mod-lt k some)).1)

  of-joined : (ps : List Made) → T (all fine ps) → (k : ℕ) → k < length (joined s ps) → P (get_or (joined s ps) k End)
  of-joined [] t k h = absurd (not-suc-le-zero h)
  of-joined (p ∷ ps) t k h = by-case (dec_lt k (length (made s p))) (of-joined ps (all_cons fine p ps t).1)
    where
      by-case : Dec (k < length (made s p)) → ((k : ℕ) → k < length (joined s ps) → P (get_or (joined s ps) k End))
          → P (get_or (made s p ++ joined s ps) k End)
      by-case (yes h') rest = rw (get_or-append (made s p) (joined s ps) End k h') (of-made p (all_cons fine p ps t).0 k h')
      by-case (no h') rest =
          rw (get_or-append_right (made s p) (joined s ps) k End (omega (arith, h')))
          (rest (k - length (made s p)) (omega (arith, h', simp length-append at h)))

  pub of-inside : (k : ℕ) → k < length (sequence s) → P (get_or (sequence s) k End)
  unfolding sequence
  of-inside = of-joined parts all-fine

  -- and, if of the end too, at every place
  pub of-every : P End → (k : ℕ) → P (get_or (sequence s) k End)
  of-every end k = by-case (dec_lt k (length (sequence s)))
    where
      by-case : Dec (k < length (sequence s)) → P (get_or (sequence s) k End)
      by-case (yes h) = of-inside k h
      by-case (no h) =
          let e : get_or (sequence s) k End ≡ End = get_or-eq_default (sequence s) End {n = k} (omega (arith, h)) in
          rw e end
