-- What Intel's 82599 datasheet says of a descriptor's second quad word, by its bit numbers.
use Rattle.std.specs.Prelude.{ℕ, ◌+◌, ◌*◌, ◌/◌, ◌%◌, ◌^◌, Bool, true, List, [], ◌∷◌, nat_le}
use Rattle.laws.specs.Test.{both}

-- a field of a word: its lowest bit, and how many bits it has
pub record Field : Type 0 where
  pub low : ℕ
  pub bits : ℕ

-- what a word has in a field
abbrev pub field_of : Field → ℕ → ℕ
field_of f word = word / 2 ^ f.low % 2 ^ f.bits

-- a value in a field's place
abbrev pub put : Field → ℕ → ℕ
put f value = value * 2 ^ f.low

-- each field ends where the next begins, or before
abbrev pub apart : ℕ → List Field → Bool
apart from [] = true
apart from (f ∷ fs) = both (nat_le from f.low) (apart (f.low + f.bits) fs)

-- ---- section 7.1.6.2: the advanced receive descriptor, written back

-- descriptor done
abbrev pub RX-DD : Field
RX-DD = record { low = 0; bits = 1 }

-- end of packet
abbrev pub RX-EOP : Field
RX-EOP = record { low = 1; bits = 1 }

-- the bytes that the card put into the buffer
abbrev pub PKT-LEN : Field
PKT-LEN = record { low = 32; bits = 16 }

-- ---- section 7.2.3.2.4: the advanced transmit data descriptor, as the host writes it

-- the buffer's length
abbrev pub DTALEN : Field
DTALEN = record { low = 0; bits = 16 }

-- the descriptor's type, 3 for advanced data
abbrev pub DTYP : Field
DTYP = record { low = 20; bits = 4 }

-- end of packet, insert the frame check sum, report status, descriptor extension
abbrev pub EOP : Field
EOP = record { low = 24; bits = 1 }

abbrev pub IFCS : Field
IFCS = record { low = 25; bits = 1 }

abbrev pub RS : Field
RS = record { low = 27; bits = 1 }

abbrev pub DEXT : Field
DEXT = record { low = 29; bits = 1 }

-- descriptor done, which the card sets when it writes back (section 7.2.3.2.4 too)
abbrev pub TX-DD : Field
TX-DD = record { low = 32; bits = 1 }

-- the packet's length
abbrev pub PAYLEN : Field
PAYLEN = record { low = 46; bits = 18 }

-- the fields that a send writes, from the lowest bit up
abbrev pub send_fields : List Field
send_fields = DTALEN ∷ DTYP ∷ EOP ∷ IFCS ∷ RS ∷ DEXT ∷ PAYLEN ∷ []

-- the quad word of a packet of so many bytes
abbrev pub send_quad : ℕ → ℕ
send_quad len = put DTALEN len + put DTYP 3 + put EOP 1 + put IFCS 1 + put RS 1 + put DEXT 1 + put PAYLEN len
