-- The words of a ring's slots. Document 01: "Receive rules", "Send rules".
use Rattle.std.specs.Prelude.{◌≡◌, ℕ, ◌+◌, ◌*◌, ◌/◌, ◌%◌, ◌^◌, ◌<◌, Bool, List, length, ◌==◌}
use Rattle.limits.specs.Limits.{SLOTS, SLOT-BYTES, RING-BYTES}
use Rattle.words.specs.Le.{le_at, put_le}

-- a slot of a whole ring
pub record InRing (slot : ℕ) (ring : List ℕ) : Type 0 where
  pub place : slot < SLOTS
  pub whole : length ring ≡ RING-BYTES

-- where a slot begins
abbrev pub slot_at : ℕ → ℕ
slot_at slot = slot * SLOT-BYTES

-- ---- receive

-- status is the u32 at byte 8, length the u16 at 12
abbrev pub status_at : ℕ → List ℕ → ℕ
status_at slot ring = le_at 4 (slot_at slot + 8) ring

abbrev pub length_at : ℕ → List ℕ → ℕ
length_at slot ring = le_at 2 (slot_at slot + 12) ring

-- bit 0 of a status: the card is done with the slot; bit 1: the frame ends in it
abbrev pub is_done : ℕ → Bool
is_done status = status % 2 == 1

abbrev pub is_end : ℕ → Bool
is_end status = status / 2 % 2 == 1

-- the slot with an address at bytes 0 to 8, and zero at 8 to 16
unfoldable pub offered : ℕ → ℕ → List ℕ → List ℕ
offered slot address ring = put_le 8 (slot_at slot + 8) 0 (put_le 8 (slot_at slot) address ring)

-- ---- send

-- bit 0 of the u32 at byte 12: the card has sent the slot
abbrev pub sent_at : ℕ → List ℕ → Bool
sent_at slot ring = is_done (le_at 4 (slot_at slot + 12) ring)

-- the command word of a packet, and its other word, the length × 2^14
abbrev pub COMMAND : ℕ
COMMAND = 0x2B300000

abbrev pub command_of : ℕ → ℕ
command_of len = COMMAND + len

abbrev pub payload_of : ℕ → ℕ
payload_of len = len * 2 ^ 14

-- the slot with a packet's address at byte 0, its command word at 8 and its length at 12
unfoldable pub described : ℕ → ℕ → ℕ → List ℕ → List ℕ
described slot address len ring =
    put_le 4 (slot_at slot + 12) (payload_of len) (put_le 4 (slot_at slot + 8) (command_of len) (put_le 8 (slot_at slot) address ring))
