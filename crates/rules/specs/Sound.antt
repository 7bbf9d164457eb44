-- Document 01, "Handles and soundness": as facts in the document's order, and as a test. proofs/Sound.antt has the laws both ways.
use Rattle.std.specs.Prelude.{ℕ, ◌+◌, ◌*◌, ◌%◌, ◌^◌, ◌≤◌, ◌<◌, ◌≡◌, Bool, true, false, List, [], ◌∷◌, length, get_or, eqb, ltb, leb}
use Rattle.limits.specs.Limits.{ENTRIES, SMALLEST-SIZE, SIZE-DOUBLINGS, RECEIVES, SENDS, SLOTS, HEADROOM, BATCH}
use Rattle.laws.specs.Test.{pick, both, either, every, some}
use Rattle.laws.specs.Occurs.{ind, occurs}
use Rattle.pool.specs.declared.Handle.{Handle}
use Rattle.pool.specs.Hands.{HAND-OUT, HAND-SEND}
use Rattle.rules.specs.declared.Account.{Account}
use Rattle.rules.specs.Account.{hand_of, list_of}

-- ---- numbers

-- an entry size is a power of two, 64 to 16,384
unfoldable pub is_size : ℕ → Bool
is_size size = some (SIZE-DOUBLINGS + 1) (λ k. eqb size (SMALLEST-SIZE * 2 ^ k))

-- document 01, "Numbers", of an account's own: entries, entry size, receive queues, send queues
unfoldable pub in_range : ℕ → ℕ → ℕ → ℕ → Bool
in_range entries size receives sends =
    both (both (ltb 0 entries) (leb entries ENTRIES)) (both (is_size size) (both (leb receives RECEIVES) (leb sends SENDS)))

pub record InRange (entries size receives sends : ℕ) : Type 0 where
  pub some-entries : 0 < entries
  pub few-entries : entries ≤ ENTRIES
  pub doublings : ℕ
  pub few-doublings : doublings ≤ SIZE-DOUBLINGS
  pub power : size ≡ SMALLEST-SIZE * 2 ^ doublings
  pub few-receives : receives ≤ RECEIVES
  pub few-sends : sends ≤ SENDS

-- ---- handles

-- a good handle: of the account's pool, with the application, at offset 0 or 32, inside its entry
unfoldable pub is_good : Account → Handle → Bool
is_good a h =
    both (eqb h.pool a.pool)
    (both (ltb h.id a.entries)
    (both (eqb (hand_of a h.id) HAND-OUT)
    (both (either (eqb h.offset 0) (eqb h.offset HEADROOM)) (leb (h.offset + h.length) a.size))))

pub record Good (a : Account) (h : Handle) : Type 0 where
  pub own : h.pool ≡ a.pool
  pub known : h.id < a.entries
  pub out : hand_of a h.id ≡ HAND-OUT
  pub offset : either (eqb h.offset 0) (eqb h.offset HEADROOM) ≡ true
  pub inside : h.offset + h.length ≤ a.size

-- ---- soundness

-- both indices of a queue are below 512, and the clean index is a multiple of 32
pub record Indices (clean tx : ℕ) : Type 0 where
  pub clean-below : clean < SLOTS
  pub tx-below : tx < SLOTS
  pub whole-batches : clean % BATCH ≡ 0

unfoldable pub indices : ℕ → ℕ → Bool
indices clean tx = both (ltb clean SLOTS) (both (ltb tx SLOTS) (eqb (clean % BATCH) 0))

-- a receive ring that has started belongs to a receive queue; one that has not stands at index 0
unfoldable pub ring_placed : Bool → ℕ → ℕ → Bool
ring_placed started rx receives = both (ltb rx SLOTS) (pick started (ltb 0 receives) (eqb rx 0))

-- the indices of the first n queues
unfoldable pub queues_placed : ℕ → List ℕ → List ℕ → Bool
queues_placed n clean tx = every n (λ q. indices (get_or clean q 0) (get_or tx q 0))

-- a list holds only ids below the entries
abbrev pub all_below : ℕ → List ℕ → Bool
all_below entries [] = true
all_below entries (id ∷ l) = both (ltb id entries) (all_below entries l)

-- the hand of a number: a list of ids is some hand's
abbrev pub hands : Account → ℕ
hands a = HAND-SEND + a.sends

-- an id stands once in the list of its recorded hand, and in no other list
abbrev pub in_place : Account → ℕ → Bool
in_place a id =
    both (ltb (hand_of a id) (hands a))
    (every (hands a) (λ hand. either (eqb hand HAND-OUT) (eqb (occurs id (list_of a hand)) (ind (eqb (hand_of a id) hand)))))

unfoldable pub sound : Account → Bool
sound a =
    both (in_range a.entries a.size a.receives a.sends)
    (both (leb a.free.depth a.entries)
    (both (every (hands a) (λ hand. all_below a.entries (list_of a hand)))
    (both (ring_placed a.started a.rx a.receives)
    (both (queues_placed a.sends a.clean a.tx) (every a.entries (in_place a))))))

-- an account is sound when
pub record Sound (a : Account) : Type 0 where
  -- its numbers are in range,
  pub numbers : InRange a.entries a.size a.receives a.sends
  pub free-count : a.free.depth ≤ a.entries
  -- its lists hold only ids below the entries,
  pub ids-below : (id hand : ℕ) → a.entries ≤ id → occurs id (list_of a hand) ≡ 0
  -- the rx index and both indices of each send queue are below 512, each clean index a multiple of 32,
  pub rx-below : a.rx < SLOTS
  pub queues : (q : ℕ) → q < a.sends → Indices (get_or a.clean q 0) (get_or a.tx q 0)
  -- a receive ring has started on a receive queue, or its index is 0,
  pub started-on : a.started ≡ true → 0 < a.receives
  pub not-started : a.started ≡ false → a.rx ≡ 0
  -- and every id stands exactly once in the list of its recorded hand and in no other, or in none if recorded as out
  pub placed : (id hand : ℕ) → id < a.entries → (hand ≡ HAND-OUT → ⊥) → occurs id (list_of a hand) ≡ ind (eqb (hand_of a id) hand)

-- what the types say of an account: its arrays have their lengths
pub record Full (a : Account) : Type 0 where
  pub stack : length a.free.ids ≡ ENTRIES
  pub hands : length a.hands ≡ ENTRIES
  pub slots : length a.slots ≡ SLOTS
  pub sent : length a.sent ≡ SENDS * SLOTS
  pub clean : length a.clean ≡ SENDS
  pub tx : length a.tx ≡ SENDS
