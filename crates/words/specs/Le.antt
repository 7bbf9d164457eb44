-- Little-endian words in a list of bytes, once for every width, and addresses that wrap.
use Rattle.std.specs.Prelude.{ℕ, zero, suc, ◌+◌, ◌*◌, ◌/◌, ◌%◌, ◌^◌, List, slice_index, slice_set}

-- the number that `width` bytes spell from place `at` on, low byte first
unfoldable pub le_at : ℕ → ℕ → List ℕ → ℕ
le_at zero at bytes = 0
le_at (suc width) at bytes = slice_index bytes at + 256 * le_at width (at + 1) bytes

-- the bytes with the `width` low bytes of a value from place `at` on, low byte first
unfoldable pub put_le : ℕ → ℕ → ℕ → List ℕ → List ℕ
put_le zero at value bytes = bytes
put_le (suc width) at value bytes = put_le width (at + 1) (value / 256) (slice_set bytes at (value % 256))

-- an entry's address plus an offset, wrapping at 2^64
abbrev pub address_plus : ℕ → ℕ → ℕ
address_plus entry offset = (entry + offset) % 2 ^ 64
