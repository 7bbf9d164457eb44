-- What cleaning, the test of a list and sending ask of what they are lent, and their answers as the rules' works.
use Rattle.std.specs.Prelude.{ℕ, zero, suc, ◌+◌, ◌*◌, ◌%◌, ◌^◌, ◌≤◌, ◌<◌, ◌≡◌, Bool, true, false, List, length, get_or, set, take, eqb}
use Rattle.limits.specs.Limits.{ENTRIES, SENDS, SLOTS, RING-BYTES, SMALLEST-SIZE, SIZE-DOUBLINGS}
use Rattle.laws.specs.Test.{both}
use Rattle.laws.specs.Occurs.{occurs}
use Rattle.pool.specs.declared.Handle.{Handle}
use Rattle.pool.specs.Hands.{HAND-OUT}
use Rattle.pool.specs.Good.{good_in}
use Rattle.rules.specs.Handles.{Handles, handle_at, Room}
use Rattle.rules.specs.Account.{waiting, send_place}
use Rattle.rules.specs.Send.{Cleaning, Sending}

-- ---- cleaning

abbrev pub cleaning_as : List ℕ → ℕ → List ℕ → ℕ → Cleaning
cleaning_as stack depth hands clean = record { free = record { ids = stack; depth = depth }; hands = hands; clean = clean }

-- n ids of a queue from a slot on can be given back: they are ids, and the stack has room for them
pub record Givable (n : ℕ) (sent : List ℕ) (q clean depth : ℕ) : Type 0 where
  pub queue : q < SENDS
  pub place : clean < SLOTS
  pub room : depth + n ≤ ENTRIES
  pub known : (i : ℕ) → i < n → get_or sent (send_place q ((clean + i) % SLOTS)) 0 < ENTRIES

-- a queue can be cleaned: all that is pending could be given back
pub record Cleanable (batch : ℕ) (ring sent : List ℕ) (q tx clean depth : ℕ) : Type 0 where
  pub some : 0 < batch
  pub small : batch ≤ SLOTS
  pub index : tx < SLOTS
  pub whole : length ring ≡ RING-BYTES
  pub givable : Givable (waiting tx clean) sent q clean depth

-- ---- the test of a list

-- good, and its id stands at no place before
abbrev pub sendable_in : ℕ → ℕ → ℕ → List ℕ → Handles → ℕ → Bool
sendable_in pool entries size hands lists i =
    both (good_in pool entries size hands (handle_at lists i)) (eqb (occurs (handle_at lists i).id (take i lists.ids)) 0)

-- the record of hands with the first n ids of a list marked
unfoldable pub marked_in : ℕ → List ℕ → List ℕ → ℕ → List ℕ
marked_in mark hands ids zero = hands
marked_in mark hands ids (suc n) = set (marked_in mark hands ids n) (get_or ids n 0) mark

-- the record of hands with the first n ids of a list recorded as out, the last one first
unfoldable pub unmarked_in : List ℕ → List ℕ → ℕ → List ℕ
unmarked_in hands ids zero = hands
unmarked_in hands ids (suc n) = unmarked_in (set hands (get_or ids n 0) HAND-OUT) ids n

-- r is how many handles from the start can be sent, of n
pub record GoodRun (pool entries size : ℕ) (hands : List ℕ) (lists : Handles) (n r : ℕ) : Type 0 where
  pub not-past : r ≤ n
  pub sendable : (k : ℕ) → k < r → sendable_in pool entries size hands lists k ≡ true
  pub stopped : r < n → sendable_in pool entries size hands lists r ≡ false

-- ---- a send

abbrev pub sending_as : List ℕ → List ℕ → ℕ → List ℕ → ℕ → Sending
sending_as hands sent tx ring count = record { hands = hands; sent = sent; tx = tx; ring = ring; count = count }

-- a handle that a descriptor can be written of
pub record Described (addresses : List ℕ) (h : Handle) : Type 0 where
  pub known : h.id < length addresses
  pub short : h.length ≤ SMALLEST-SIZE * 2 ^ SIZE-DOUBLINGS

-- n handles of a list can be sent from a slot on
pub record Writable (n q tx : ℕ) (addresses ring : List ℕ) (lists : Handles) : Type 0 where
  pub queue : q < SENDS
  pub place : tx < SLOTS
  pub few : length addresses ≤ ENTRIES
  pub whole : length ring ≡ RING-BYTES
  pub room : Room n lists
  pub each : (i : ℕ) → i < n → Described addresses (handle_at lists i)
