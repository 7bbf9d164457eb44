-- What a step does: an interpreter of the sequence's items. Document 01, "Registers" and the table of numbers.
use Rattle.std.specs.Prelude.{ℕ, ◌+◌, ◌-◌, ◌*◌, ◌%◌, ◌≤◌, ◌<◌, ◌≡◌, Bool, true, false, not, eqb, leb, ltb, length, get_or, Option, None, Some}
use Rattle.std.specs.Int.Bits.{bit_and}
use Rattle.limits.specs.Limits.{QUEUES, TRIES}
use Rattle.laws.specs.Test.{pick, both, either, every}
use Rattle.card.specs.Masks.{changed, link_speed}
use Rattle.plan.specs.Sequence.{RINGS, MSI, MSIX, sequence}
use Rattle.plan.specs.declared.Setup.{Setup}
use Rattle.plan.specs.declared.Item.{Item}
use Rattle.plan.specs.declared.Item.TheVariants.{End, Write, Read, Change, WaitSet, WaitClear, Pause, Link}
use Rattle.refusals.specs.declared.Refusal.{Refusal}
use Rattle.refusals.specs.declared.Refusal.TheVariants.{Unsound, Waited, OutsideMap}
use Rattle.refusals.specs.Numbers.{refusal_number, refusal_also}
use Rattle.startup.specs.declared.Action.{Action}
use Rattle.startup.specs.declared.Action.TheVariants as action
use Rattle.startup.specs.declared.State.{State}
use Rattle.startup.specs.declared.Stepped.{Stepped}

-- ---- numbers

-- the table's numbers
abbrev pub UNSOUND : ℕ
UNSOUND = 1

abbrev pub SHORT : ℕ
SHORT = 2

abbrev pub OUT-OF-RANGE : ℕ
OUT-OF-RANGE = 9

abbrev pub WAITED : ℕ
WAITED = 10

abbrev pub OUTSIDE : ℕ
OUTSIDE = 11

abbrev pub NO-INTERRUPT : ℕ
NO-INTERRUPT = 12

-- the pause between two reads of a wait, in milliseconds
abbrev pub WAIT-MS : ℕ
WAIT-MS = 100

-- the reads of the link wait, and its actions: reads, and pauses between them
abbrev pub LINK-READS : ℕ
LINK-READS = 101

abbrev pub LINK-ACTIONS : ℕ
LINK-ACTIONS = 2 * LINK-READS - 1

-- the receive queues that have a bit in the interrupt masks
abbrev pub SIGNALLED : ℕ
SIGNALLED = 16

-- the table's number of an action, and the register returned with it
abbrev pub number_of : Action → ℕ
number_of (action.Read register) = 0
number_of (action.Write register x) = 0
number_of (action.Pause ms) = 0
number_of action.Done = 0
number_of (action.Refused why) = refusal_number why

abbrev pub also_of : Action → ℕ
also_of (action.Read register) = 0
also_of (action.Write register x) = 0
also_of (action.Pause ms) = 0
also_of action.Done = 0
also_of (action.Refused why) = refusal_also why

-- ---- an item

-- the link is up, at some speed
unfoldable pub link_up : ℕ → Bool
link_up value = not (eqb (link_speed value) 0)

-- the mask's bits of a word are all set, or all clear
abbrev pub all_set : ℕ → ℕ → Bool
all_set value mask = eqb (bit_and value mask) mask

abbrev pub all_clear : ℕ → ℕ → Bool
all_clear value mask = eqb (bit_and value mask) 0

-- reads and pauses take turns, so a value was read if an odd number of actions was made
unfoldable pub seen : ℕ → Bool → Bool
seen made test = pick (eqb (made % 2) 0) false test

-- the most actions that an item has: a wait of w reads has w - 1 pauses between them
abbrev pub cost : ℕ → Item → ℕ
cost w End = 0
cost w (Write register x) = 1
cost w (Read register) = 1
cost w (Change register clear set) = 2
cost w (WaitSet register mask) = 2 * w - 1
cost w (WaitClear register mask) = 2 * w - 1
cost w (Pause ms) = 1
cost w (Link register) = LINK-ACTIONS

-- is an item over, so many of its actions made, and value the last read?
abbrev pub over : Item → ℕ → ℕ → Bool
over End made value = false
over (Write register x) made value = leb 1 made
over (Read register) made value = leb 1 made
over (Change register clear set) made value = leb 2 made
over (WaitSet register mask) made value = seen made (all_set value mask)
over (WaitClear register mask) made value = seen made (all_clear value mask)
over (Pause ms) made value = leb 1 made
over (Link register) made value = pick (leb LINK-ACTIONS made) true (seen made (link_up value))

-- a wait's next action: a read, a pause, or 10 if that was its last read
unfoldable pub waiting : ℕ → ℕ → ℕ → Action
waiting w register made =
    pick (eqb (made % 2) 0) (action.Read register)
    (pick (eqb made (2 * w - 1)) (action.Refused (Waited register)) (action.Pause WAIT-MS))

-- a change's: the read, then the write of what was read, changed
unfoldable pub changing : ℕ → ℕ → ℕ → ℕ → ℕ → Action
changing register clear set made value =
    pick (eqb made 0) (action.Read register) (action.Write register (changed value clear set))

-- the link wait's: a read or a pause
unfoldable pub looking : ℕ → ℕ → Action
looking register made = pick (eqb (made % 2) 0) (action.Read register) (action.Pause WAIT-MS)

-- an item's next action if its register is in the map, so many of its actions made, and value the last read
abbrev pub intended : ℕ → Item → ℕ → ℕ → Action
intended w End made value = action.Done
intended w (Write register x) made value = action.Write register x
intended w (Read register) made value = action.Read register
intended w (Change register clear set) made value = changing register clear set made value
intended w (WaitSet register mask) made value = waiting w register made
intended w (WaitClear register mask) made value = waiting w register made
intended w (Pause ms) made value = action.Pause ms
intended w (Link register) made value = looking register made

-- the register that an item names
abbrev pub register_of : Item → ℕ
register_of End = 0
register_of (Write register x) = register
register_of (Read register) = register
register_of (Change register clear set) = register
register_of (WaitSet register mask) = register
register_of (WaitClear register mask) = register
register_of (Pause ms) = 0
register_of (Link register) = register

abbrev pub has_register : Item → Bool
has_register End = false
has_register (Write register x) = true
has_register (Read register) = true
has_register (Change register clear set) = true
has_register (WaitSet register mask) = true
has_register (WaitClear register mask) = true
has_register (Pause ms) = false
has_register (Link register) = true

-- the register that an item names, if it names one
abbrev pub named : Item → Option ℕ
named i = pick (has_register i) (Some (register_of i)) None

-- ---- the map

-- a register is in the map: not above the map's length less 4, and no map is under 4 bytes
unfoldable pub in_map : ℕ → ℕ → Bool
in_map map register = pick (ltb map 4) false (leb register (map - 4))

-- an item's register, if it has one, is in the map
unfoldable pub reachable : ℕ → Item → Bool
reachable map i = pick (has_register i) (in_map map (register_of i)) true

-- an item's next action, or 11 if its register is not in the map
unfoldable pub answer : ℕ → ℕ → Item → ℕ → ℕ → Action
answer map w i made value = pick (reachable map i) (intended w i made value) (action.Refused (OutsideMap (register_of i)))

-- ---- a step

-- the item at a place, and the item that a state is at
abbrev pub item_at : Setup → ℕ → Item
item_at setup place = get_or (sequence setup) place End

abbrev pub here : State → Item
here s = item_at s.setup s.place

-- a state of a set-up by its numbers, and the first one
abbrev pub state : Setup → ℕ → ℕ → ℕ → State
state setup place made kept = record { setup = setup; place = place; made = made; kept = kept }

abbrev pub start : Setup → State
start setup = state setup 0 0 0

-- the state after an action: one more action of the item is made, or a refusal is kept
abbrev pub settled : Setup → ℕ → ℕ → Action → Stepped
settled setup place made (action.Read register) = record { action = action.Read register; state = state setup place (made + 1) 0 }
settled setup place made (action.Write register x) = record { action = action.Write register x; state = state setup place (made + 1) 0 }
settled setup place made (action.Pause ms) = record { action = action.Pause ms; state = state setup place (made + 1) 0 }
settled setup place made action.Done = record { action = action.Done; state = state setup place made 0 }
settled setup place made (action.Refused why) = record { action = action.Refused why; state = state setup place made (refusal_number why) }

-- the next action at a place
abbrev pub acted : Setup → ℕ → ℕ → ℕ → Stepped
acted setup place made value = settled setup place made (answer setup.map setup.tries (item_at setup place) made value)

-- the refusal that a kept number stands for, of an item's register: 11 or 10, as a sound state keeps no other
abbrev pub kept_refusal : ℕ → ℕ → Refusal
kept_refusal kept register = pick (eqb kept OUTSIDE) (OutsideMap register) (Waited register)

-- a step of a sound state: a kept refusal again; else the next action of its item, or the first of the next item if its own is over
unfoldable pub step_of : State → ℕ → Stepped
step_of s value =
    pick (eqb s.kept 0)
    (pick (over (here s) s.made value) (acted s.setup (s.place + 1) 0 value) (acted s.setup s.place s.made value))
    (record { action = action.Refused (kept_refusal s.kept (register_of (here s))); state = s })

-- ---- soundness

-- the queue counts and the reads of a wait are in range
unfoldable pub in_range : ℕ → ℕ → ℕ → Bool
in_range receives sends tries =
    both (leb receives QUEUES) (both (leb sends QUEUES) (both (not (eqb tries 0)) (leb tries TRIES)))

-- the interrupts can be had: none, or MSI or MSI-X and no queue above 15
abbrev pub kind_ok : Option ℕ → ℕ → Bool
kind_ok None receives = true
kind_ok (Some kind) receives = both (either (eqb kind MSI) (eqb kind MSIX)) (leb receives SIGNALLED)

-- the set-up numbers pass
unfoldable pub setup_ok : Setup → Bool
setup_ok s = both (in_range s.receives s.sends s.tries) (kind_ok s.interrupts s.receives)

abbrev pub waits : Item → Bool
waits End = false
waits (Write register x) = false
waits (Read register) = false
waits (Change register clear set) = false
waits (WaitSet register mask) = true
waits (WaitClear register mask) = true
waits (Pause ms) = false
waits (Link register) = false

abbrev pub is_end : Item → Bool
is_end End = true
is_end (Write register x) = false
is_end (Read register) = false
is_end (Change register clear set) = false
is_end (WaitSet register mask) = false
is_end (WaitClear register mask) = false
is_end (Pause ms) = false
is_end (Link register) = false

-- the registers of the items before a place are in the map
unfoldable pub all_passed : Setup → ℕ → Bool
all_passed setup place = every place (λ k. reachable setup.map (item_at setup k))

-- the actions made and the kept refusal are those of the item at a place. 11: its register is not in the map. 10: it is a wait, and all
-- its reads were made. None kept: none of its actions was made, at the start and at the end only; or at most all of them were
unfoldable pub kept_ok : ℕ → ℕ → Item → ℕ → ℕ → ℕ → Bool
kept_ok map w i place made kept =
    pick (eqb kept OUTSIDE)
    (both (eqb made 0) (not (reachable map i)))
    (pick (eqb kept WAITED)
    (both (waits i) (both (reachable map i) (eqb made (cost w i))))
    (both (eqb kept 0) (pick (eqb made 0) (either (eqb place 0) (is_end i)) (both (reachable map i) (leb made (cost w i))))))

-- a state is sound: its set-up numbers pass, and its place and kept refusal are its sequence's
unfoldable pub sound_of : State → Bool
sound_of s =
    both (setup_ok s.setup)
    (both (leb s.place (length (sequence s.setup)))
    (both (all_passed s.setup s.place)
    (kept_ok s.setup.map s.setup.tries (here s) s.place s.made s.kept)))

-- the same as facts. What is kept, and how many actions were made, of the item at a place
pub data Kept (map w : ℕ) (i : Item) (place made kept : ℕ) : Type 0 where
  first : kept ≡ 0 → made ≡ 0 → place ≡ 0 → Kept map w i place made kept
  done : kept ≡ 0 → made ≡ 0 → is_end i ≡ true → Kept map w i place made kept
  begun : kept ≡ 0 → 0 < made → made ≤ cost w i → reachable map i ≡ true → Kept map w i place made kept
  failed : kept ≡ WAITED → made ≡ cost w i → waits i ≡ true → reachable map i ≡ true → Kept map w i place made kept
  outside : kept ≡ OUTSIDE → made ≡ 0 → reachable map i ≡ false → Kept map w i place made kept

pub record Sound (s : State) : Type 0 where
  pub receives : s.setup.receives ≤ QUEUES
  pub sends : s.setup.sends ≤ QUEUES
  pub some : 0 < s.setup.tries
  pub few : s.setup.tries ≤ TRIES
  pub kind : kind_ok s.setup.interrupts s.setup.receives ≡ true
  pub place : s.place ≤ length (sequence s.setup)
  pub passed : (k : ℕ) → k < s.place → reachable s.setup.map (item_at s.setup k) ≡ true
  pub kept : Kept s.setup.map s.setup.tries (here s) s.place s.made s.kept

-- a sound state whose rings' array is whole, as its type says
pub record Good (s : State) : Type 0 where
  pub sound : Sound s
  pub rings : length s.setup.rings ≡ RINGS

-- a step of any state: 1 if it is not sound
unfoldable pub stepped : State → ℕ → Stepped
stepped s value = pick (sound_of s) (step_of s value) (record { action = action.Refused Unsound; state = s })
