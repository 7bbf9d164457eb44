-- Laws of whole slots: each is a few writes, and a slot's words lie inside its 16 bytes, apart from one another and from every other slot's.
-- A payload word is a multiple of 2^14, so its bit 0, by which the card says that it has sent the slot, is clear.
use Rattle.std.proofs.Common.{◌≡◌, ℕ, ◌+◌, ◌%◌, ◌^◌, ◌<◌, ◌≤◌, false, ◌≢◌, List, length, ◌∙◌, mod-eq_of_lt, arith}
use Rattle.limits.specs.Limits.{SLOT-BYTES}
use Rattle.words.specs.Le.{le_at}
use Rattle.words.specs.Slots.{slot_at, status_at, sent_at, command_of, payload_of, offered, described}
use Rattle.words.proofs.Laws.{length-put, read-other, read_low, read_same}

module _ (slot address : ℕ) (ring : List ℕ) where
  pub length-offered : length (offered slot address ring) ≡ length ring
  unfolding offered
  length-offered = simp length-put

  -- the status of an offered slot reads 0
  pub offered-status : slot_at slot + SLOT-BYTES ≤ length ring → status_at slot (offered slot address ring) ≡ 0
  unfolding offered
  offered-status room = read_low 4 8 (slot_at slot + 8) 0 _ (omega arith) (simp length-put (omega arith))

  -- a word inside another slot is kept
  pub offered-other : (other width at : ℕ) → other ≢ slot → slot_at other ≤ at → at + width ≤ slot_at other + SLOT-BYTES
      → le_at width at (offered slot address ring) ≡ le_at width at ring
  unfolding offered
  offered-other other width at different from to =
      read-other width at 8 (slot_at slot + 8) _ _ (omega arith) ∙ read-other width at 8 (slot_at slot) _ _ (omega arith)

module _ (slot address len : ℕ) (ring : List ℕ) where
  pub length-described : length (described slot address len ring) ≡ length ring
  unfolding described
  length-described = simp length-put

  -- a word inside another slot is kept
  pub described-other : (other width at : ℕ) → other ≢ slot → slot_at other ≤ at → at + width ≤ slot_at other + SLOT-BYTES
      → le_at width at (described slot address len ring) ≡ le_at width at ring
  unfolding described
  described-other other width at different from to =
      read-other width at 4 (slot_at slot + 12) _ _ (omega arith)
      ∙ read-other width at 4 (slot_at slot + 8) _ _ (omega arith)
      ∙ read-other width at 8 (slot_at slot) _ _ (omega arith)

  module _ (room : slot_at slot + SLOT-BYTES ≤ length ring) where
    payload-low : le_at 4 (slot_at slot + 12) (described slot address len ring) ≡ payload_of len % 256 ^ 4
    unfolding described
    payload-low = read_low 4 4 (slot_at slot + 12) (payload_of len) _ (omega arith) (simp length-put (omega arith))

    -- the words of a described slot are read back
    pub described-payload : len < 2 ^ 18 → le_at 4 (slot_at slot + 12) (described slot address len ring) ≡ payload_of len
    described-payload small = payload-low ∙ mod-eq_of_lt (omega arith)

    pub described-command : len < 2 ^ 18 → le_at 4 (slot_at slot + 8) (described slot address len ring) ≡ command_of len
    unfolding described
    described-command small =
        read-other 4 (slot_at slot + 8) 4 (slot_at slot + 12) _ _ (omega arith)
        ∙ read_same 4 (slot_at slot + 8) (command_of len) _ (simp length-put (omega arith)) (omega arith)

    -- a described slot is not sent
    pub described-not-sent : sent_at slot (described slot address len ring) ≡ false
    described-not-sent = let even : payload_of len % 256 ^ 4 % 2 ≡ 0 = omega arith in rw (payload-low, even)
