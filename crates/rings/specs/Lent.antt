-- What the loops ask of what they are lent, and their answers as the rules' works.
use Rattle.std.specs.Prelude.{ℕ, ◌≤◌, ◌<◌, min, ◌≡◌, List, length, get_or}
use Rattle.limits.specs.Limits.{ENTRIES, SLOTS, RING-BYTES}
use Rattle.rules.specs.Handles.{Handles, Room}
use Rattle.rules.specs.Receive.{Filling, Receiving, Stopping}
use Rattle.rings.specs.declared.Run.{Run}

-- ---- ids that index the addresses

-- the first n of an array are ids with an address
abbrev pub Known : ℕ → List ℕ → List ℕ → Type 0
Known n ids addresses = (i : ℕ) → i < n → get_or ids i 0 < length addresses

-- a free stack whose ids have addresses
pub record Stacked (stack : List ℕ) (depth : ℕ) (addresses : List ℕ) : Type 0 where
  pub deep : depth ≤ ENTRIES
  pub few : length addresses ≤ ENTRIES
  pub known : Known depth stack addresses

-- ---- the start

abbrev pub filling_as : List ℕ → ℕ → List ℕ → List ℕ → List ℕ → Filling
filling_as stack depth hands slots ring = record { free = record { ids = stack; depth = depth }; hands = hands; slots = slots; ring = ring }

pub record Fillable (stack : List ℕ) (depth : ℕ) (addresses ring : List ℕ) : Type 0 where
  pub stacked : Stacked stack depth addresses
  pub enough : SLOTS ≤ depth
  pub whole : length ring ≡ RING-BYTES

-- ---- a receive

abbrev pub receiving_as : List ℕ → ℕ → List ℕ → List ℕ → ℕ → List ℕ → Handles → ℕ → Receiving
receiving_as stack depth hands slots rx ring lists count =
    record { free = record { ids = stack; depth = depth }; hands = hands; slots = slots; rx = rx; ring = ring; lists = lists; count = count }

abbrev pub stopped_as : Run → List ℕ → List ℕ → List ℕ → List ℕ → Handles → Stopping
stopped_as r stack hands slots ring lists =
    record { stop = r.stop; work = receiving_as stack r.depth hands slots r.rx ring lists r.count }

pub record Receivable (n : ℕ) (stack : List ℕ) (depth : ℕ) (addresses slots : List ℕ) (rx : ℕ) (ring : List ℕ) (lists : Handles) : Type 0 where
  pub stacked : Stacked stack depth addresses
  pub slots-known : Known SLOTS slots addresses
  pub place : rx < SLOTS
  pub whole : length ring ≡ RING-BYTES
  pub room : Room (min n SLOTS) lists
