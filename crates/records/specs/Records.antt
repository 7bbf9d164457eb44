-- Document 01, "The bench program": which bytes mean which record. The bytes are a record's without its length: the kind, then the body.
use Rattle.std.specs.Prelude.{ℕ, ◌+◌, ◌*◌, ◌≤◌, ◌<◌, Bool, true, false, List, length, eqb, ltb, Some, None, IfSome}
use Rattle.std.specs.declared.option.Option.{Option}
use Rattle.limits.specs.Limits.{SLOTS}
use Rattle.laws.specs.Test.{pick, both}
use Rattle.words.specs.Le.{le_at}
use Rattle.records.specs.declared.Record.{Record}
use Rattle.records.specs.declared.Record.TheVariants.{Fresh, Card, Call}
use Rattle.records.specs.declared.Event.TheVariants.{Done, Frame}
use Rattle.records.specs.Way.{Way}
use Rattle.records.specs.Way as way
use Rattle.records.specs.declared.Call.TheVariants.{Start, Take, Release, Receive, Send}

-- the most ids of a record, whose length is a u16
abbrev pub MOST : ℕ
MOST = 32764

-- ---- a record among bytes: a u16, and as many bytes behind it

-- where the record at a place ends, if the bytes do not end before it; none if it is cut short
abbrev pub end_at : ℕ → List ℕ → ℕ
end_at from b = from + 2 + le_at 2 from b

unfoldable pub end_of : ℕ → ℕ → List ℕ → Option ℕ
end_of from to b = pick (ltb to (from + 2)) None (pick (ltb to (end_at from b)) None (Some (end_at from b)))

-- a record that is not cut short has its length, and ends within the bytes
abbrev pub Ends : ℕ → ℕ → Option ℕ → Type 0
Ends from to ends = IfSome ends (λ end. (from + 2 ≤ end) × (end ≤ to) × (end < from + 65538))

-- the slot at a place, if there is one of that number
abbrev pub slot_of : ℕ → List ℕ → Option ℕ
slot_of at b = pick (ltb (le_at 2 at b) SLOTS) (Some (le_at 2 at b)) None

-- ---- what each kind's bytes are: none if there are more or fewer, or a slot is above 511

-- 1 fresh: entries u16, entry size u32, send queues u16
abbrev pub fresh_of : List ℕ → Option Record
fresh_of b = pick (eqb (length b) 10) (Some (Fresh (le_at 2 2 b) (le_at 4 4 b) (le_at 2 8 b))) None

-- 2 start receive
abbrev pub start_of : List ℕ → Option Record
start_of b = pick (eqb (length b) 2) (Some (Call Start)) None

-- 3 take: size u32
abbrev pub take_of : List ℕ → Option Record
take_of b = pick (eqb (length b) 6) (Some (Call (Take (le_at 4 2 b)))) None

-- 4 release: id u16
abbrev pub release_of : List ℕ → Option Record
release_of b = pick (eqb (length b) 4) (Some (Call (Release (le_at 2 2 b)))) None

-- 5 done bit: queue u16, slot u16
abbrev pub done_of : List ℕ → Option Record
done_of b = pick (both (eqb (length b) 6) (ltb (le_at 2 4 b) SLOTS)) (Some (Card (Done (le_at 2 2 b) (le_at 2 4 b)))) None

-- 6 frame: slot u16, status u32, length u16
abbrev pub frame_of : List ℕ → Option Record
frame_of b = pick (both (eqb (length b) 10) (ltb (le_at 2 2 b) SLOTS)) (Some (Card (Frame (le_at 2 2 b) (le_at 4 4 b) (le_at 2 8 b)))) None

-- 7 receive: n u32
abbrev pub receive_of : List ℕ → Option Record
receive_of b = pick (eqb (length b) 6) (Some (Call (Receive (le_at 4 2 b)))) None

-- 8 send: queue u16, count u16, ids u16 each
abbrev pub send_of : List ℕ → Option Record
send_of b = pick (eqb (length b) (6 + 2 * le_at 2 4 b)) (Some (Call (Send (le_at 2 2 b) (le_at 2 4 b)))) None

abbrev pub by_kind : ℕ → List ℕ → Option Record
by_kind kind b =
    pick (eqb kind 1) (fresh_of b)
    (pick (eqb kind 2) (start_of b)
    (pick (eqb kind 3) (take_of b)
    (pick (eqb kind 4) (release_of b)
    (pick (eqb kind 5) (done_of b)
    (pick (eqb kind 6) (frame_of b)
    (pick (eqb kind 7) (receive_of b)
    (pick (eqb kind 8) (send_of b) None)))))))

-- none: the bytes mean no record
unfoldable pub record_of : List ℕ → Option Record
record_of b = pick (ltb (length b) 2) None (by_kind (le_at 2 0 b) b)

abbrev pub kind_of : Option Record → ℕ
kind_of (Some (Fresh entries size sends)) = 1
kind_of (Some (Call Start)) = 2
kind_of (Some (Call (Take size))) = 3
kind_of (Some (Call (Release id))) = 4
kind_of (Some (Card (Done queue slot))) = 5
kind_of (Some (Card (Frame slot status len))) = 6
kind_of (Some (Call (Receive n))) = 7
kind_of (Some (Call (Send queue count))) = 8
kind_of None = 0

-- a record that may come after a fresh that answered 0, with so many send queues: no second fresh, and no done bit of a queue that there is not
abbrev pub allowed : ℕ → Option Record → Bool
allowed queues (Some (Fresh entries size sends)) = false
allowed queues (Some (Card (Done queue slot))) = ltb queue queues
allowed queues (Some (Card (Frame slot status len))) = true
allowed queues (Some (Call call)) = true
allowed queues None = false

-- a record of the card's
abbrev pub card_of : Option Record → Bool
card_of (Some (Fresh entries size sends)) = false
card_of (Some (Card event)) = true
card_of (Some (Call call)) = false
card_of None = false

-- what is done with a record: before a fresh has answered 0 only a fresh may come; after it a record that may come is the card's, on the rings, or one on the account
unfoldable pub way_of : Bool → ℕ → Option Record → Way
way_of begun queues r =
    pick begun
    (pick (allowed queues r) (pick (card_of r) way.Card way.Account) way.Bad)
    (pick (eqb (kind_of r) 1) way.Fresh way.Bad)

-- the record, if it may come
abbrev pub admitted : Bool → ℕ → Option Record → Option Record
admitted begun queues r = pick begun (pick (allowed queues r) r None) (pick (eqb (kind_of r) 1) r None)

-- what is done with a record that may come, or with none
abbrev pub shape : Option Record → Way
shape (Some (Fresh entries size sends)) = way.Fresh
shape (Some (Card event)) = way.Card
shape (Some (Call call)) = way.Account
shape None = way.Bad
