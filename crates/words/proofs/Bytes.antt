-- What the library says of a number's bytes and of a part of a slice, in the words of Le.antt.
use Rattle.std.proofs.Common.{◌≡◌, ℕ, zero, suc, ◌+◌, ◌-◌, ◌/◌, ◌%◌, ◌^◌, ◌≤◌, List, [], ◌∷◌, ◌++◌, length, take, drop, replicate, slice_index, set, add-one, suc-add, refl, sym, ap, ◌∙◌, arith}
use Rattle.std.proofs.Math.Nat.{div-div-eq-div-mul, pow-succ'}
use Rattle.std.proofs.lemmas.List.{drop-replicate, length-drop}
use Rattle.std.specs.Int.{w64, byte_at, bytes_low_first, to_le_bytes, from_le_bytes}
use borrow.Rule.Slice.PartMut.{put_mid}
use Rattle.words.specs.Le.{le_at, put_le}

-- ---- read

le_at-cons : (width at byte : ℕ) (bytes : List ℕ) → le_at width (suc at) (byte ∷ bytes) ≡ le_at width at bytes
unfolding le_at
le_at-cons zero at byte bytes = refl
le_at-cons (suc width) at byte bytes = rw (add-one (suc at), add-one at, le_at-cons width (suc at) byte bytes) refl

le_at-nil : (width at : ℕ) → le_at width at [] ≡ 0
unfolding le_at
le_at-nil zero at = refl
le_at-nil (suc width) at = rw (le_at-nil width (at + 1)) refl

le_at-drop : (width at : ℕ) (bytes : List ℕ) → le_at width 0 (drop at bytes) ≡ le_at width at bytes
le_at-drop width zero bytes = refl
le_at-drop width (suc at) [] = le_at-nil width 0 ∙ sym (le_at-nil width (suc at))
le_at-drop width (suc at) (byte ∷ bytes) = le_at-drop width at bytes ∙ sym (le_at-cons width at byte bytes)

slice_index-zeros : (m i : ℕ) → slice_index (replicate m 0) i ≡ 0
slice_index-zeros zero i = refl
slice_index-zeros (suc m) zero = refl
slice_index-zeros (suc m) (suc i) = slice_index-zeros m i

le_at-zeros : (width at m : ℕ) → le_at width at (replicate m 0) ≡ 0
unfolding le_at
le_at-zeros zero at m = refl
le_at-zeros (suc width) at m = rw (slice_index-zeros m at, le_at-zeros width (at + 1) m) refl

-- zeros behind a word's bytes
le_at-padded : (width more : ℕ) (bytes : List ℕ) → width ≤ length bytes
    → le_at (width + more) 0 (take width bytes ++ replicate more 0) ≡ le_at width 0 bytes
unfolding le_at
le_at-padded zero more bytes room = le_at-zeros (zero + more) 0 more
le_at-padded (suc width) more [] room = absurd (omega arith)
le_at-padded (suc width) more (byte ∷ bytes) room =
    let rest = le_at-cons (width + more) 0 byte (take width bytes ++ replicate more 0) ∙ le_at-padded width more bytes (omega arith) in
    let same = le_at-cons width 0 byte bytes in
    rw (suc-add width more, rest, same) refl

-- a word's bytes, written over the first of eight zeros, are its number
pub from_le_bytes-le_at : (width at : ℕ) (bytes : List ℕ) → width ≤ 8 → at + width ≤ length bytes
    → from_le_bytes w64 (put_mid 0 width (replicate 8 0) (take width (drop at bytes))) ≡ le_at width at bytes
unfolding le_at
from_le_bytes-le_at width at bytes small room =
    let shape : put_mid 0 width (replicate 8 0) (take width (drop at bytes)) ≡ take width (drop at bytes) ++ replicate (8 - width) 0
    = rw (drop-replicate {X = ℕ} width 8 0) refl in
    let whole : from_le_bytes w64 (put_mid 0 width (replicate 8 0) (take width (drop at bytes)))
    ≡ le_at 8 0 (put_mid 0 width (replicate 8 0) (take width (drop at bytes)))
    = omega arith in
    let eight : width + (8 - width) ≡ 8 = omega arith in
    whole ∙ ap (le_at 8 0) shape
    ∙ rw eight at (le_at-padded width (8 - width) (drop at bytes) (omega (arith, length-drop at bytes)))
    ∙ le_at-drop width at bytes

-- ---- write

byte_at-above : (i value : ℕ) → byte_at (suc i) value ≡ byte_at i (value / 256)
byte_at-above zero value = refl
byte_at-above (suc i) value = rw (pow-succ' 256 (suc i)) (ap (λ (n : ℕ). n % 256) (sym (div-div-eq-div-mul value 256 (256 ^ suc i))))

bytes-above : (i width value : ℕ) → bytes_low_first (suc i) width value ≡ bytes_low_first i width (value / 256)
bytes-above i zero value = refl
bytes-above i (suc width) value = rw (byte_at-above i value, bytes-above (suc i) width value) refl

take-bytes : (i k width value : ℕ) → width ≤ k → take width (bytes_low_first i k value) ≡ bytes_low_first i width value
take-bytes i k zero value h = refl
take-bytes i zero (suc width) value h = absurd (omega arith)
take-bytes i (suc k) (suc width) value h = ap (λ (r : List ℕ). byte_at i value ∷ r) (take-bytes (suc i) k width value (omega arith))

put_le-cons : (width at value byte : ℕ) (bytes : List ℕ) → put_le width (suc at) value (byte ∷ bytes) ≡ byte ∷ put_le width at value bytes
unfolding put_le
put_le-cons zero at value byte bytes = refl
put_le-cons (suc width) at value byte bytes =
    rw (add-one (suc at), add-one at) (put_le-cons width (suc at) (value / 256) byte (set bytes at (value % 256)))

-- a value's low bytes, written over a part of a slice, are the word put there
put_mid-put_le : (width at value : ℕ) (bytes : List ℕ) → at + width ≤ length bytes
    → put_mid at width bytes (bytes_low_first 0 width value) ≡ put_le width at value bytes
unfolding put_le
put_mid-put_le zero zero value bytes room = refl
put_mid-put_le (suc width) zero value [] room = absurd (omega arith)
put_mid-put_le (suc width) zero value (byte ∷ bytes) room =
    rw (bytes-above 0 width value) (ap (λ (r : List ℕ). value % 256 ∷ r) (put_mid-put_le width zero (value / 256) bytes (omega arith)))
    ∙ sym (put_le-cons width 0 (value / 256) (value % 256) bytes)
put_mid-put_le width (suc at) value [] room = absurd (omega arith)
put_mid-put_le width (suc at) value (byte ∷ bytes) room =
    ap (λ (r : List ℕ). byte ∷ r) (put_mid-put_le width at value bytes (omega arith)) ∙ sym (put_le-cons width at value byte bytes)

pub to_le_bytes-put_le : (width at value : ℕ) (bytes : List ℕ) → width ≤ 8 → at + width ≤ length bytes
    → put_mid at (at + width - at) bytes (take width (to_le_bytes w64 value)) ≡ put_le width at value bytes
to_le_bytes-put_le width at value bytes small room =
    let long : at + width - at ≡ width = omega arith in
    rw (long, take-bytes 0 8 width value small) (put_mid-put_le width at value bytes room)
