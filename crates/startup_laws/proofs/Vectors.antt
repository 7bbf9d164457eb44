-- What a change of IVAR does to its word, as a number: the queue's byte becomes the vector with 0x80, and the other three stay. The word is taken
-- apart at the byte, and each mask is 0 or all ones on each part. Assumes nothing.
use Prim.Native.Nat.{ℕ, ◌+◌, ◌*◌, ◌/◌, ◌%◌, ◌^◌, ◌<◌}
use mathlib.Core.Path.{◌≡◌, ap, ◌∙◌}
use native.Mathlib.Omega.{arith}
use lib.Bits.{bit_and, bit_or, and_mask, and_high, and_block, or_block, or_zero_r, or_shifted, or_shifted_r}
use Rattle.card.specs.Masks.{changed, vector_clear, vector_set}

module _ (v x : ℕ) (word : v < 2 ^ 32) (vector : x < 0x80) where
  -- the vector with 0x80
  valid : bit_or x 0x80 ≡ x + 0x80
  valid = or_shifted_r 1 7 x vector ∙ omega arith

  -- the lowest byte
  clear-0 : bit_and v 0xFFFFFF00 ≡ v / 2 ^ 8 * 2 ^ 8
  clear-0 = and_high v 24 8 ∙ omega arith

  changed-0 : changed v 0xFF (x + 0x80) ≡ v / 2 ^ 8 * 2 ^ 8 + (x + 0x80)
  changed-0 = ap (λ n. bit_or n (x + 0x80)) clear-0 ∙ or_shifted (v / 2 ^ 8) 8 (x + 0x80) (omega arith)

  -- the third
  apart : v ≡ v / 2 ^ 16 * 2 ^ 16 + v % 2 ^ 16
  apart = omega arith

  clear-16 : bit_and v 0xFF00FFFF ≡ v / 2 ^ 24 * 2 ^ 8 * 2 ^ 16 + v % 2 ^ 16
  clear-16 =
      ap (λ n. bit_and n 0xFF00FFFF) apart
      ∙ and_block 16 (v / 2 ^ 16) 0xFF00 (v % 2 ^ 16) 0xFFFF (omega arith) (omega arith)
      ∙ omega (arith, and_high (v / 2 ^ 16) 8 8, and_mask (v % 2 ^ 16) 16)

  changed-16 : changed v 0xFF0000 ((x + 0x80) * 2 ^ 16) ≡ v / 2 ^ 24 * 2 ^ 24 + (x + 0x80) * 2 ^ 16 + v % 2 ^ 16
  changed-16 =
      let e : (x + 0x80) * 2 ^ 16 ≡ (x + 0x80) * 2 ^ 16 + 0 = omega arith in
      ap (λ n. bit_or n ((x + 0x80) * 2 ^ 16)) clear-16
      ∙ ap (bit_or (v / 2 ^ 24 * 2 ^ 8 * 2 ^ 16 + v % 2 ^ 16)) e
      ∙ or_block 16 (v / 2 ^ 24 * 2 ^ 8) (x + 0x80) (v % 2 ^ 16) 0 (omega arith) (omega arith)
      ∙ omega (arith, or_shifted (v / 2 ^ 24) 8 (x + 0x80) (omega arith), or_zero_r (v % 2 ^ 16))

  module _ (queue : ℕ) where
    -- an even queue has the lowest byte of its IVAR for direction 0
    pub vector-even : queue % 2 ≡ 0 → changed v (vector_clear 0 queue) (vector_set 0 queue x) ≡ v / 2 ^ 8 * 2 ^ 8 + (x + 0x80)
    vector-even e =
        let small : (x + 0x80) * 1 % 2 ^ 32 ≡ x + 0x80 = omega arith in
        rw (e, valid, small) changed-0

    -- an odd queue the third
    pub vector-odd : queue % 2 ≡ 1
        → changed v (vector_clear 0 queue) (vector_set 0 queue x) ≡ v / 2 ^ 24 * 2 ^ 24 + (x + 0x80) * 2 ^ 16 + v % 2 ^ 16
    vector-odd e =
        let small : (x + 0x80) * 2 ^ 16 % 2 ^ 32 ≡ (x + 0x80) * 2 ^ 16 = omega arith in
        rw (e, valid, small) changed-16
