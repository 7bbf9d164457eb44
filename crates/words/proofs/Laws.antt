-- Laws of little-endian words, once for every width. A write sets its bytes one by one from the lowest, so each law is an induction on
-- the width. Two words are apart where their common part, from the later begin to the earlier end, is empty.
use Rattle.std.proofs.Common.{◌≡◌, ℕ, zero, suc, ◌+◌, ◌-◌, ◌*◌, ◌/◌, ◌%◌, ◌^◌, ◌<◌, ◌≤◌, min, max, List, length, get_or, set, sym, refl, ◌∙◌, add-zero, add_assoc, mod-eq_of_lt, mul_assoc, suc-add, one-mul, pow-suc, zero-add, mul-add, one-add, arith, lit<, length-set, get_or-set_other, get_or-set_same}
use lib.Arith.{mod-mul}
use native.Mathlib.Nat.{pow-succ', one-le-pow, mod-one}
use Rattle.words.specs.Le.{le_at, put_le}

-- `few` bytes from `from` on and `width` bytes from `at` on have none in common
abbrev pub Apart : ℕ → ℕ → ℕ → ℕ → Type 0
Apart few from width at = min (from + few) (at + width) ≤ max from at

-- the length stays
pub length-put : (width at value : ℕ) (bytes : List ℕ) → length (put_le width at value bytes) ≡ length bytes
unfolding put_le
length-put zero at value bytes = refl
length-put (suc width) at value bytes = rw (length-put width, length-set)

-- a byte outside the word written is kept
pub byte-kept : (width at value : ℕ) (bytes : List ℕ) (place : ℕ) → Apart 1 place width at
    → get_or (put_le width at value bytes) place 0 ≡ get_or bytes place 0
unfolding put_le
byte-kept zero at value bytes place apart = refl
byte-kept (suc width) at value bytes place apart =
    byte-kept width (at + 1) (value / 256) (set bytes at (value % 256)) place (omega arith)
    ∙ get_or-set_other bytes at place (value % 256) 0 (omega arith)

-- a word that shares no byte with the one written is kept
pub read-other : (few from width at value : ℕ) (bytes : List ℕ) → Apart few from width at
    → le_at few from (put_le width at value bytes) ≡ le_at few from bytes
unfolding le_at
read-other zero from width at value bytes apart = refl
read-other (suc few) from width at value bytes apart =
    rw (byte-kept width at value bytes from (omega arith), read-other few (from + 1) width at value bytes (omega arith))

-- of the word written the low bytes are read back
pub read_low : (few width at value : ℕ) (bytes : List ℕ) → few ≤ width → at + width ≤ length bytes
    → le_at few at (put_le width at value bytes) ≡ value % 256 ^ few
unfolding le_at put_le
read_low zero width at value bytes within room = sym (mod-one value)
read_low (suc few) zero at value bytes within room = omega arith
read_low (suc few) (suc width) at value bytes within room =
    let first : List ℕ = set bytes at (value % 256) in
    let low : get_or (put_le width (at + 1) (value / 256) first) at 0 ≡ value % 256
    = byte-kept width (at + 1) (value / 256) first at (omega arith) ∙ get_or-set_same bytes at (value % 256) 0 (omega arith) in
    let high : le_at few (at + 1) (put_le width (at + 1) (value / 256) first) ≡ value / 256 % 256 ^ few
    = read_low few width (at + 1) (value / 256) first (omega arith) (simp length-set (omega arith)) in
    rw (low, high, pow-suc, mod-mul value {m = 256 ^ few} {c = 256} (one-le-pow few 256 (lit< tt)) (lit< tt)) (omega arith)

-- the word written is read back
pub read_same : (width at value : ℕ) (bytes : List ℕ) → at + width ≤ length bytes → value < 256 ^ width
    → le_at width at (put_le width at value bytes) ≡ value
read_same width at value bytes room small = read_low width width at value bytes (omega arith) room ∙ mod-eq_of_lt small

-- a word of two parts, the low one first
pub read-parts : (few rest at : ℕ) (bytes : List ℕ)
    → le_at (few + rest) at bytes ≡ le_at few at bytes + 256 ^ few * le_at rest (at + few) bytes
unfolding le_at
read-parts zero rest at bytes = rw (zero-add rest, add-zero, zero-add, one-mul)
read-parts (suc few) rest at bytes =
    rw (suc-add, read-parts few rest (at + 1) bytes, pow-succ', mul-add, mul_assoc, add_assoc at 1 few, one-add, ← add_assoc)

-- a word of bytes is below the power of its width
pub le_below : (width at : ℕ) (bytes : List ℕ) → ((i : ℕ) → get_or bytes i 0 < 256) → le_at width at bytes < 256 ^ width
unfolding le_at
le_below zero at bytes small = lit< tt
le_below (suc width) at bytes small = omega (arith, small at, le_below width (at + 1) bytes small)

-- one turn of the loop that writes a word
pub put-turn : (width i at value : ℕ) (bytes : List ℕ) → i < width
    → put_le (width - i) (at + i) value bytes
    ≡ put_le (width - (i + 1)) (at + (i + 1)) (value / 256) (set bytes (at + i) (value % 256))
unfolding put_le
put-turn width i at value bytes left =
    let more : width - i ≡ suc (width - (i + 1)) = omega arith in rw (more, ← add_assoc at i 1)
