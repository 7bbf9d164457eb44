-- What a read gives goes behind what was read before, in the part as in the input.
use Rattle.std.proofs.Common.{◌≡◌, ℕ, ◌+◌, ◌-◌, ◌≤◌, List, ◌++◌, arith, length, take, slice_range, sym, ap, ◌∙◌, subst, le_refl, drop, drop_at, length-take-le}
use Rattle.std.proofs.lemmas.Slice.{take-put_mid_below}
use Rattle.std.proofs.lemmas.List.{length-drop}
use Rattle.std.specs.Io.KnownBytes.{Consumes}
use Rattle.std.proofs.KnownBytes.{Consumes-trans}
use borrow.Rule.Slice.PartMut.{put_mid, post_of, mid_of, same_len_mid}
use lib.Seq.{take-add, take-append-le}
use Rattle.reading.proofs.read_full.Goals as goal

-- a part behind the first bytes, where these stay
take_split : (a b : ℕ) (old new : List ℕ) → a ≤ b → take a new ≡ take a old → take a old ++ slice_range new a b ≡ take b new
take_split a b old new h front =
    let same : a + (b - a) ≡ b = omega arith in
    ap (λ l. l ++ slice_range new a b) (sym front) ∙ sym (take-add a (b - a) new) ∙ ap (λ n. take n new) same

slice_range-put_mid : (a k n : ℕ) (xs ys : List ℕ) → a ≤ length xs → n ≤ length ys → slice_range (put_mid a k xs ys) a (a + n) ≡ take n ys
slice_range-put_mid a k n xs ys within fits =
    let same : (a + n) - a ≡ n = omega arith in
    let after = post_of a k xs in
    ap (take ((a + n) - a)) (drop_at (take a xs) (ys ++ after) a (length-take-le a xs within)) ∙ ap (λ m. take m (ys ++ after)) same ∙ take-append-le n ys after fits

-- the part behind the first bytes is as long as what is left to fill
length-mid : (a : ℕ) (xs : List ℕ) → length (mid_of a (length xs - a) xs) ≡ length xs - a
length-mid a xs = length-take-le (length xs - a) (drop a xs) (omega (arith, length-drop a xs))

pub loop-done-preserved : goal.loop-done-preserved
loop-done-preserved g c =
    let from = c.loop-done.done in
    let count = c.in_ok-count.count in
    let room = length c.loop-done.part - from in
    let after = put_mid from room c.loop-done.part c.read.new.buf in
    let within : from ≤ length c.loop-done.part = c.loop-done.invariant.1 in
    let fits : length c.read.new.buf ≡ length (mid_of from room c.loop-done.part) = c.read.auto.buf in
    let same : length after ≡ length c.loop-done.part = same_len_mid from room c.loop-done.part c.read.new.buf fits in
    let most : count ≤ length c.read.new.buf = c.in_ok-count.ensures.bound.0 in
    let bound : from + count ≤ length after = omega (arith, within, fits ∙ length-mid from c.loop-done.part, same, most) in
    let front : take from after ≡ take from c.loop-done.part = take-put_mid_below from room c.loop-done.part c.read.new.buf from (le_refl from) within in
    let behind : slice_range after from (from + count) ≡ take count c.read.new.buf = slice_range-put_mid from room count c.loop-done.part c.read.new.buf within most in
    let joined : take from c.loop-done.part ++ slice_range after from (from + count) ≡ take (from + count) after = take_split from (from + count) c.loop-done.part after (omega arith) front in
    let start = g.R.Read.remaining c.args.input.now in
    let end = g.R.Read.remaining c.read.new.self in
    let read : Consumes start end (take from c.loop-done.part ++ take count c.read.new.buf) = Consumes-trans start (g.R.Read.remaining c.loop-done.input) end (take from c.loop-done.part) (take count c.read.new.buf) c.loop-done.invariant.2 c.in_ok-count.ensures.bytes.0 in
    (same ∙ c.loop-done.invariant.0, bound, subst (Consumes start end) (ap (λ l. take from c.loop-done.part ++ l) (sym behind) ∙ joined) read)
