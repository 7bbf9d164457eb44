-- Document 01, "The bench program": what the card's records, a done bit and a frame, do to the rings.
use Rattle.std.specs.Prelude.{ℕ, ◌+◌, ◌*◌, ◌/◌, List, get_or, set, ltb, Some, None}
use Rattle.std.specs.declared.option.Option.{Option}
use Rattle.limits.specs.Limits.{SENDS, SLOTS, RING-BYTES}
use Rattle.laws.specs.Test.{pick, both}
use Rattle.words.specs.Le.{put_le}
use Rattle.words.specs.Slots.{slot_at}
use Rattle.records.specs.declared.Record.{Record}
use Rattle.records.specs.declared.Record.TheVariants.{Fresh, Card, Call}
use Rattle.records.specs.declared.Event.{Event}
use Rattle.records.specs.declared.Event.TheVariants.{Done, Frame}

-- the send rings stand one after the other
abbrev pub SEND-BYTES : ℕ
SEND-BYTES = SENDS * RING-BYTES

-- ---- the card's records

-- a frame's status at byte 8 of its slot, its length at 12
unfoldable pub frame_rule : ℕ → ℕ → ℕ → List ℕ → List ℕ
frame_rule slot status len ring = put_le 2 (slot_at slot + 12) len (put_le 4 (slot_at slot + 8) status ring)

-- bit 0 of the u32 at byte 12 is set
abbrev pub done_byte : ℕ → ℕ → ℕ
done_byte queue slot = queue * RING-BYTES + slot_at slot + 12

unfoldable pub done_rule : ℕ → ℕ → List ℕ → List ℕ
done_rule queue slot rings = set rings (done_byte queue slot) (get_or rings (done_byte queue slot) 0 / 2 * 2 + 1)

pub record Rings : Type 0 where
  pub rx : List ℕ
  pub tx : List ℕ

abbrev pub card_as : List ℕ → List ℕ → Rings
card_as rx tx = record { rx = rx; tx = tx }

-- at a slot and a queue that there are
abbrev pub event_rule : Event → Rings → Rings
event_rule (Done queue slot) w = pick (both (ltb queue SENDS) (ltb slot SLOTS)) (card_as w.rx (done_rule queue slot w.tx)) w
event_rule (Frame slot status len) w = pick (ltb slot SLOTS) (card_as (frame_rule slot status len w.rx) w.tx) w

-- any other record leaves the rings
abbrev pub card_rule : Option Record → Rings → Rings
card_rule (Some (Fresh entries size sends)) w = w
card_rule (Some (Card event)) w = event_rule event w
card_rule (Some (Call call)) w = w
card_rule None w = w
