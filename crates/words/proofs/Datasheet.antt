-- The words are the datasheet's fields. A quad word is two u32 words, low one first, and bytes below 256 keep the low one below 2^32.
-- So a field of the quad word is a remainder of one of the two.
use Rattle.std.proofs.Common.{◌≡◌, ℕ, ◌+◌, ◌*◌, ◌/◌, ◌%◌, ◌^◌, ◌<◌, ◌≤◌, true, eqb, List, length, get_or, refl, add_assoc, div-one, arith}
use lib.Pow.{high, low}
use Rattle.limits.specs.Limits.{SMALLEST-SIZE, SIZE-DOUBLINGS, SLOT-BYTES}
use Rattle.words.specs.Le.{le_at}
use Rattle.words.specs.Slots.{slot_at, status_at, length_at, is_done, is_end, sent_at, COMMAND, command_of, payload_of, described}
use Rattle.words.specs.Datasheet.{Field, field_of, put, apart, RX-DD, RX-EOP, PKT-LEN, DTALEN, DTYP, EOP, IFCS, RS, DEXT, TX-DD, PAYLEN, send_fields, send_quad}
use Rattle.words.proofs.Laws.{read-parts, le_below}
use Rattle.words.proofs.Slots.{described-command, described-payload}

-- a slot's second quad word
abbrev pub quad_at : ℕ → List ℕ → ℕ
quad_at slot ring = le_at 8 (slot_at slot + 8) ring

two-words : (slot : ℕ) (ring : List ℕ) → quad_at slot ring ≡ status_at slot ring + 2 ^ 32 * le_at 4 (slot_at slot + 12) ring
two-words slot ring = rw (read-parts 4 4, add_assoc)

-- ---- send

pub command-is-fields : COMMAND ≡ put EOP 1 + put IFCS 1 + put RS 1 + put DEXT 1 + put DTYP 3
command-is-fields = refl

pub fields-apart : apart 0 send_fields ≡ true
fields-apart = refl

pub quad-is-words : (len : ℕ) → command_of len + 2 ^ 32 * payload_of len ≡ send_quad len
quad-is-words len = omega arith

-- a length within the largest entry fits both of its fields
pub length-fits : (len : ℕ) → len ≤ SMALLEST-SIZE * 2 ^ SIZE-DOUBLINGS → (len < 2 ^ DTALEN.bits) × (len < 2 ^ PAYLEN.bits)
length-fits len small = omega arith

-- what each field of a send's quad word has
pub record SendFields (len : ℕ) : Type 0 where
  pub dtalen : field_of DTALEN (send_quad len) ≡ len
  pub dtyp : field_of DTYP (send_quad len) ≡ 3
  pub eop : field_of EOP (send_quad len) ≡ 1
  pub ifcs : field_of IFCS (send_quad len) ≡ 1
  pub rs : field_of RS (send_quad len) ≡ 1
  pub dext : field_of DEXT (send_quad len) ≡ 1
  pub paylen : field_of PAYLEN (send_quad len) ≡ len

-- a field's value, from what the word has below it and above it
field-of : (f : Field) {word : ℕ} (below value above : ℕ)
    → (word ≡ (above * 2 ^ f.bits + value) * 2 ^ f.low + below) × (below < 2 ^ f.low) × (value < 2 ^ f.bits)
    → field_of f word ≡ value
field-of f below value above parts = rw (parts.0, high _ f.low parts.1, low above f.bits parts.2)

pub send-fields : (len : ℕ) → len ≤ SMALLEST-SIZE * 2 ^ SIZE-DOUBLINGS → SendFields len
send-fields len small = record {
  dtalen = omega arith;
  dtyp = field-of DTYP len 3 (len * 2 ^ 22 + 0x2B) (omega arith);
  eop = field-of EOP (len + 0x300000) 1 (len * 2 ^ 21 + 0x15) (omega arith);
  ifcs = field-of IFCS (len + 0x1300000) 1 (len * 2 ^ 20 + 0xA) (omega arith);
  rs = field-of RS (len + 0x3300000) 1 (len * 2 ^ 18 + 2) (omega arith);
  dext = field-of DEXT (len + 0xB300000) 1 (len * 2 ^ 16) (omega arith);
  paylen = field-of PAYLEN (len + COMMAND) len 0 (omega arith);
}

-- a described slot's quad word is that of its packet's length
pub described-quad : (slot address len : ℕ) (ring : List ℕ) → slot_at slot + SLOT-BYTES ≤ length ring → len ≤ SMALLEST-SIZE * 2 ^ SIZE-DOUBLINGS
    → quad_at slot (described slot address len ring) ≡ send_quad len
described-quad slot address len ring room small =
    rw (two-words, described-command slot address len ring room (omega arith), described-payload slot address len ring room (omega arith)) (omega arith)

-- ---- write-back

pub status-bits : (status : ℕ) → (is_done status ≡ eqb (field_of RX-DD status) 1) × (is_end status ≡ eqb (field_of RX-EOP status) 1)
status-bits status = (rw div-one, refl)

module _ (slot : ℕ) (ring : List ℕ) where
  pub status-field : (is_done (status_at slot ring) ≡ eqb (field_of RX-DD (quad_at slot ring)) 1)
      × (is_end (status_at slot ring) ≡ eqb (field_of RX-EOP (quad_at slot ring)) 1)
  status-field =
      let done : field_of RX-DD (quad_at slot ring) ≡ status_at slot ring % 2 = omega (arith, two-words slot ring) in
      let ends : field_of RX-EOP (quad_at slot ring) ≡ status_at slot ring / 2 % 2 = omega (arith, two-words slot ring) in
      (rw done, rw ends)

  module _ (bytes : (i : ℕ) → get_or ring i 0 < 256) where
    high_word : quad_at slot ring / 2 ^ 32 ≡ le_at 4 (slot_at slot + 12) ring
    high_word = omega (arith, two-words slot ring, le_below 4 (slot_at slot + 8) ring bytes)

    pub sent-field : sent_at slot ring ≡ eqb (field_of TX-DD (quad_at slot ring)) 1
    sent-field = rw high_word

    pub length-field : field_of PKT-LEN (quad_at slot ring) ≡ length_at slot ring
    length-field = rw (high_word, read-parts 2 2) (omega (arith, le_below 2 (slot_at slot + 12) ring bytes))
