-- Document 01, "Numbers", each named once. src/lib.rt has the constant of the same name, with `_` for `-`.
use Rattle.std.specs.Prelude.{ℕ, ◌*◌, List, [], ◌∷◌}

-- the most buffers that an account has
abbrev pub ENTRIES : ℕ
ENTRIES = 4096

-- an entry's size is the smallest one, doubled up to so many times: a power of two, 64 to 16,384
abbrev pub SMALLEST-SIZE : ℕ
SMALLEST-SIZE = 64

abbrev pub SIZE-DOUBLINGS : ℕ
SIZE-DOUBLINGS = 8

-- what a given 0 means
abbrev pub USUAL-SIZE : ℕ
USUAL-SIZE = 2048

-- the most receive queues and send queues of an account
abbrev pub RECEIVES : ℕ
RECEIVES = 1

abbrev pub SENDS : ℕ
SENDS = 4

-- the slots of a ring, the bytes of a slot, and the bytes of a ring
abbrev pub SLOTS : ℕ
SLOTS = 512

abbrev pub SLOT-BYTES : ℕ
SLOT-BYTES = 16

abbrev pub RING-BYTES : ℕ
RING-BYTES = SLOTS * SLOT-BYTES

-- the bytes kept free before a taken packet
abbrev pub HEADROOM : ℕ
HEADROOM = 32

-- the sent buffers that are given back together
abbrev pub BATCH : ℕ
BATCH = 32

-- the most queues each way of a start-up sequence, and the most reads of a wait
abbrev pub QUEUES : ℕ
QUEUES = 64

abbrev pub TRIES : ℕ
TRIES = 10000

-- the fewest and the most rates of an interrupt window
abbrev pub FEWEST-RATES : ℕ
FEWEST-RATES = 2

abbrev pub MOST-RATES : ℕ
MOST-RATES = 64

-- the receive calls to one look at the clock
abbrev pub CLOCK-CALLS : ℕ
CLOCK-CALLS = 4096

-- all of them, in the order of src/lib.rt
abbrev pub limits : List ℕ
limits =
    ENTRIES
    ∷ SMALLEST-SIZE
    ∷ SIZE-DOUBLINGS
    ∷ USUAL-SIZE
    ∷ RECEIVES
    ∷ SENDS
    ∷ SLOTS
    ∷ SLOT-BYTES
    ∷ HEADROOM
    ∷ BATCH
    ∷ QUEUES
    ∷ TRIES
    ∷ FEWEST-RATES
    ∷ MOST-RATES
    ∷ CLOCK-CALLS
    ∷ []
