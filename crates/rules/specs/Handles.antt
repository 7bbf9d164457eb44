-- A list of handles: parallel lists of numbers, read and written at one place each.
use Rattle.std.specs.Prelude.{ℕ, ◌≤◌, Bool, List, length, get_or, set, leb}
use Rattle.laws.specs.Test.{both}
use Rattle.pool.specs.declared.Handle.{Handle}

pub record Handles : Type 0 where
  pub pools : List ℕ
  pub ids : List ℕ
  pub offsets : List ℕ
  pub lengths : List ℕ

abbrev pub handles : List ℕ → List ℕ → List ℕ → List ℕ → Handles
handles pools ids offsets lengths = record { pools = pools; ids = ids; offsets = offsets; lengths = lengths }

-- the handle at a place of the list
abbrev pub handle_at : Handles → ℕ → Handle
handle_at l i =
    record { pool = get_or l.pools i 0; id = get_or l.ids i 0; offset = get_or l.offsets i 0; length = get_or l.lengths i 0 }

-- the list with a handle put at a place
abbrev pub put_handle : Handles → ℕ → Handle → Handles
put_handle l i h =
    record {
      pools = set l.pools i h.pool;
      ids = set l.ids i h.id;
      offsets = set l.offsets i h.offset;
      lengths = set l.lengths i h.length;
    }

-- the list has room for n handles
unfoldable pub has_room : ℕ → Handles → Bool
has_room n l =
    both (leb n (length l.pools))
    (both (leb n (length l.ids)) (both (leb n (length l.offsets)) (leb n (length l.lengths))))

-- the same as facts
pub record Room (n : ℕ) (l : Handles) : Type 0 where
  pub pools : n ≤ length l.pools
  pub ids : n ≤ length l.ids
  pub offsets : n ≤ length l.offsets
  pub lengths : n ≤ length l.lengths

-- the handle that a refused call answers
abbrev pub no_handle : Handle
no_handle = record { pool = 0; id = 0; offset = 0; length = 0 }
