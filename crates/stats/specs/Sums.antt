-- Document 01, "Registers": statistics, four sums wrapping at 2^64.
use Rattle.std.specs.Prelude.{ℕ, ◌+◌, ◌*◌, ◌%◌, ◌^◌, List, slice_index}
use Rattle.stats.specs.declared.Stats.{Stats}

-- a byte count is low + 2^32 × high
abbrev pub byte_count : ℕ → ℕ → ℕ
byte_count low high = low + 2 ^ 32 * high

-- a sum with so much more
abbrev pub sum : ℕ → ℕ → ℕ
sum before more = (before + more) % 2 ^ 64

-- the k-th word read
abbrev pub word : List ℕ → ℕ → ℕ
word words k = slice_index words k

-- GPRC, GPTC, GORCL with GORCH, GOTCL with GOTCH
unfoldable pub with_more : Stats → List ℕ → Stats
with_more s words =
    record {
      received = sum s.received (word words 0);
      sent = sum s.sent (word words 1);
      received_bytes = sum s.received_bytes (byte_count (word words 2) (word words 3));
      sent_bytes = sum s.sent_bytes (byte_count (word words 4) (word words 5));
    }
