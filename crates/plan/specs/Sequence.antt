-- The sequence of a set-up: its parts in order, each made for one queue after the other.
use Rattle.std.specs.Prelude.{ℕ, zero, suc, ◌+◌, ◌*◌, ◌%◌, ◌/◌, ◌^◌, ◌≤◌, ◌≡◌, List, [], ◌∷◌, ◌++◌, map, eqb, length, get_or, Option, None, Some}
use Rattle.limits.specs.Limits.{QUEUES}
use Rattle.laws.specs.Test.{pick}
use Rattle.card.specs.Registers.{register_row, address}
use Rattle.card.specs.Masks.{queue_bit, vector_clear, vector_set}
use Rattle.parts.specs.declared.Value.{Value}
use Rattle.parts.specs.declared.Value.TheVariants.{Is, FirstOnly, ReceiveLow, ReceiveHigh, SendLow, SendHigh, Rate, QueueBit, VectorClear, VectorZero, VectorQueue}
use Rattle.parts.specs.declared.Template.{Template}
use Rattle.parts.specs.declared.Template.TheVariants.{Write, Read, Change, WaitSet, WaitClear, Pause, Link}
use Rattle.parts.specs.declared.Times.{Times}
use Rattle.parts.specs.declared.Times.TheVariants.{Once, Buffer, Receive, Send, MsiQueue, MsixQueue}
use Rattle.parts.specs.Parts.{Made, parts, PARTS, TEMPLATES}
use Rattle.plan.specs.declared.Setup.{Setup}
use Rattle.plan.specs.declared.Item.{Item}
use Rattle.plan.specs.declared.Item.TheVariants as item

-- the ring addresses that a set-up has room for
abbrev pub RINGS : ℕ
RINGS = 2 * QUEUES

-- the interrupt kinds by their numbers, as VFIO has them
abbrev pub MSI : ℕ
MSI = 1

abbrev pub MSIX : ℕ
MSIX = 2

-- the packet buffers each way
abbrev pub BUFFERS : ℕ
BUFFERS = 8

-- the queue counts are in range, and the rings' array is whole
pub record Ranged (s : Setup) : Type 0 where
  pub receives : s.receives ≤ QUEUES
  pub sends : s.sends ≤ QUEUES
  pub rings : length s.rings ≡ RINGS

-- ---- how often a part is made

-- the receive queues, if they are signalled by a kind of interrupt
abbrev pub by_kind : ℕ → Option ℕ → ℕ → ℕ
by_kind kind None receives = 0
by_kind kind (Some k) receives = pick (eqb k kind) receives 0

abbrev pub times_of : ℕ → ℕ → Option ℕ → Times → ℕ
times_of receives sends interrupts Once = 1
times_of receives sends interrupts Buffer = BUFFERS
times_of receives sends interrupts Receive = receives
times_of receives sends interrupts Send = sends
times_of receives sends interrupts MsiQueue = by_kind MSI interrupts receives
times_of receives sends interrupts MsixQueue = by_kind MSIX interrupts receives

abbrev pub times_for : Setup → Times → ℕ
times_for s times = times_of s.receives s.sends s.interrupts times

-- ---- a template for a queue

-- a queue's ring, receive first
abbrev pub receive_ring : Setup → ℕ → ℕ
receive_ring s queue = get_or s.rings queue 0

abbrev pub send_ring : Setup → ℕ → ℕ
send_ring s queue = get_or s.rings (s.receives + queue) 0

-- a template's word: IVAR's direction is 0, and its vector 0 for MSI, the queue for MSI-X
abbrev pub value_of : Setup → ℕ → Value → ℕ
value_of s queue (Is x) = x
value_of s queue (FirstOnly x) = pick (eqb queue 0) x 0
value_of s queue ReceiveLow = receive_ring s queue % 2 ^ 32
value_of s queue ReceiveHigh = receive_ring s queue / 2 ^ 32
value_of s queue SendLow = send_ring s queue % 2 ^ 32
value_of s queue SendHigh = send_ring s queue / 2 ^ 32
value_of s queue Rate = s.rate
value_of s queue QueueBit = queue_bit queue
value_of s queue VectorClear = vector_clear 0 queue
value_of s queue VectorZero = vector_set 0 queue 0
value_of s queue VectorQueue = vector_set 0 queue queue

-- a template's item
abbrev pub filled : Setup → ℕ → Template → Item
filled s queue (Write r v) = item.Write (address (register_row r) queue) (value_of s queue v)
filled s queue (Read r) = item.Read (address (register_row r) queue)
filled s queue (Change r clear set) = item.Change (address (register_row r) queue) (value_of s queue clear) (value_of s queue set)
filled s queue (WaitSet r mask) = item.WaitSet (address (register_row r) queue) mask
filled s queue (WaitClear r mask) = item.WaitClear (address (register_row r) queue) mask
filled s queue (Pause ms) = item.Pause ms
filled s queue (Link r) = item.Link (address (register_row r) queue)

-- ---- the sequence

-- the items of 0, of 1, and so on to n - 1
abbrev pub each : ℕ → (ℕ → List Item) → List Item
each zero f = []
each (suc n) f = each n f ++ f n

-- a part's items for a queue, and for all
abbrev pub for_queue : Setup → List Template → ℕ → List Item
for_queue s items queue = map (filled s queue) items

abbrev pub made : Setup → Made → List Item
made s p = each (times_for s p.times) (for_queue s p.items)

abbrev pub joined : Setup → List Made → List Item
joined s [] = []
joined s (p ∷ ps) = made s p ++ joined s ps

unfoldable pub sequence : Setup → List Item
sequence s = joined s parts

-- no sequence has more items
abbrev pub ITEMS : ℕ
ITEMS = PARTS * (QUEUES * TEMPLATES)
