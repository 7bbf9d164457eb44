-- Document 01, "Twelve proved examples", over one table: what the rules compute beside what the document says. Entry size 2048.
-- The theorem is one computation over the whole table.
use Prim.Native.Nat.{ℕ, ◌+◌}
use mathlib.Core.Path.{◌≡◌, refl}
use mathlib.Core.List.{List, [], ◌∷◌, map}
use lib.ListN.{get_or, set, replicate}
use Rattle.limits.specs.Limits.{SLOTS, RING-BYTES, BATCH}
use Rattle.laws.specs.Test.{every, some}
use Rattle.laws.specs.Occurs.{up_from}
use Rattle.words.specs.Le.{le_at, put_le}
use Rattle.words.specs.Slots.{slot_at, offered}
use Rattle.rules.specs.declared.Account.{Account}
use Rattle.rules.specs.declared.Stop.TheVariants.{NotDone, Split, TooLong}
use Rattle.rules.specs.Found.{Found, Nothing, Frame}
use Rattle.rules.specs.Numbers.{number}
use Rattle.rules.specs.Handles.{Handles, has_room}
use Rattle.rules.specs.Account.{next_slot, waiting, around, list_of, opened}
use Rattle.rules.specs.Sound.{is_size, in_range, indices, ring_placed, queues_placed, sound}
use Rattle.rules.specs.Refusals.{take_verdict, batch_verdict, start_verdict}
use Rattle.rules.specs.Packets.{taken, take_call, take_many, batch_rule, batch_call}
use Rattle.rules.specs.Receive.{judged, Filling, filled, fill_rule, filling, start_call}
use Rattle.rules.specs.Send.{given_back, give_back, clean_rule, room_for}

-- what an example shows: numbers, or what stands at a slot
pub data Shown : Type 0 where
  numbers : List ℕ → Shown
  slot : Found → Shown

-- a row of the table: what the rules say, and what the document says
pub record Example : Type 0 where
  pub rule : Shown
  pub document : Shown

-- one number beside another
one : ℕ → ℕ → Example
one computed said = record { rule = numbers (computed ∷ []); document = numbers (said ∷ []) }

-- how many ids a cleaning gives back, of so many pending from slot 0 on, on a ring
freed : ℕ → List ℕ → ℕ
freed many ring =
    (clean_rule BATCH (up_from 0 SLOTS) 0 many ring many (record { free = record { ids = []; depth = 0 }; hands = []; clean = 0 })).free.depth

-- rings of which every slot is done, none is, and one slot is or is not
all_done : List ℕ
all_done = replicate RING-BYTES 1

only_done : ℕ → List ℕ
only_done at = set (replicate RING-BYTES 0) (slot_at at + 12) 1

only_not_done : ℕ → List ℕ
only_not_done at = set (replicate RING-BYTES 1) (slot_at at + 12) 0

-- a fresh account of so many entries, with one receive queue
account : ℕ → Account
account entries = opened 0 entries 2048 1 0

-- the start's ids, whatever the bytes of the ring: an empty list stands for it
started : ℕ → Filling
started entries = fill_rule [] 0 SLOTS (filling (account entries) [])

-- a list with room for one handle
room : Handles
room = record { pools = 0 ∷ []; ids = 0 ∷ []; offsets = 0 ∷ []; lengths = 0 ∷ [] }

pub examples : List Example
examples =
    -- (a) after slot 511 comes 0
    one (next_slot 511) 0
    -- (b) tx 5, clean 480: 37 pending
    ∷ one (waiting 5 480) 37
    -- (c) 511 pending: room 0; 510: room 1
    ∷ one (room_for 511) 0
    ∷ one (room_for 510) 1
    -- (d) 31 pending, all done: 0 freed
    ∷ one (freed 31 all_done) 0
    -- (e) 32 pending, last done: 32 freed
    ∷ one (freed 32 (only_done 31)) 32
    -- (f) 32 pending, only the last not done: 0
    ∷ one (freed 32 (only_not_done 31)) 0
    -- (g) 63 pending, all done: 32 freed
    ∷ one (freed 63 all_done) 32
    -- (h) start on 512 entries: slot 0 has id 511, slot 511 id 0, none free; on 511 entries: 6
    ∷ record {
      rule = numbers (get_or (started 512).slots 0 0 ∷ get_or (started 512).slots 511 0 ∷ (started 512).free.depth ∷ []);
      document = numbers (511 ∷ 0 ∷ 0 ∷ []);
    }
    ∷ one (number (start_call (account 511) 0 (replicate RING-BYTES 0) (replicate 511 0)).answer.verdict) 6
    -- (i) status 1: Split; status 2: NotDone
    ∷ record { rule = slot (judged 2048 1 1 60); document = slot (Nothing Split) }
    ∷ record { rule = slot (judged 2048 1 2 60); document = slot (Nothing NotDone) }
    -- (j) status 3 with length 2048 taken, 2049 TooLong
    ∷ record { rule = slot (judged 2048 1 3 2048); document = slot (Frame 2048) }
    ∷ record { rule = slot (judged 2048 1 3 2049); document = slot (Nothing TooLong) }
    -- (k) size 2016 taken, 2017: 5
    ∷ one (number (take_call (account 1) 2016).verdict) 0
    ∷ one (number (take_call (account 1) 2017).verdict) 5
    -- (l) batch of 0: one, or 0 if none is free
    ∷ one (batch_call (account 1) 0 60 room).answer.count 1
    ∷ one (batch_call (take_call (account 1) 60).account 0 60 room).answer.count 0
    ∷ []

pub examples-hold : map (λ e. e.rule) examples ≡ map (λ e. e.document) examples
unfolding examples one freed all_done only_done only_not_done account started room up_from every some le_at put_le offered clean_rule give_back given_back opened list_of around sound in_range is_size indices ring_placed queues_placed fill_rule filled start_verdict start_call take_verdict take_call taken has_room batch_verdict batch_rule take_many batch_call
examples-hold = refl
