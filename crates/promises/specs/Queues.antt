-- The ledger of a send queue, computed from the calls, their answers and the rings they lent, and never from what the account records. What
-- was sent on a queue is a list that only grows; of it, a number was given back, oldest first. The n-th packet ever sent on a queue stood
-- at slot n mod 512 of its ring.
use Rattle.std.specs.Prelude.{ℕ, zero, suc, ◌+◌, ◌-◌, ◌%◌, ◌≤◌, ◌≡◌, Bool, true, false, List, [], ◌++◌, length, take, eqb, leb}
use Rattle.limits.specs.Limits.{SLOTS, BATCH}
use Rattle.laws.specs.Test.{pick, both}
use Rattle.words.specs.Slots.{sent_at}
use Rattle.rules.specs.declared.Account.{Account}
use Rattle.rules.specs.Numbers.{on_verdict}
use Rattle.promises.specs.History.{Step, History}
use Rattle.promises.specs.History as h

-- ---- what was sent

-- the ids that a call sends on a queue: those of its list that the answer counts
abbrev pub sent_by : {a b : Account} → ℕ → Step a b → List ℕ
sent_by q (h.counts r e) = []
sent_by q (h.take len r e) = []
sent_by q (h.batch n len lists left r e) = []
sent_by q (h.release handle r e) = []
sent_by q (h.truncate handle len r e) = []
sent_by q (h.clone handle memory left r e) = []
sent_by q (h.view handle memory part e) = []
sent_by q (h.headroom handle asked memory part e) = []
sent_by q (h.start k ring addresses left r e) = []
sent_by q (h.receive k ring addresses n lists left filled r e) = []
sent_by q (h.send k ring addresses lists left r e) = pick (eqb k q) (take r.count lists.ids) []

-- all that was sent on it, in order
unfoldable pub sent_on : {a : Account} → ℕ → History a → List ℕ
sent_on q (h.fresh pool entries size receives sends r e done) = []
sent_on q (h.call before s) = sent_on q before ++ sent_by q s

-- ---- what was given back

-- of so many sent, with so many given back, the next 32 may be: they were all sent, and the done bit of the last of them is set in the ring
abbrev pub may_return : ℕ → List ℕ → ℕ → Bool
may_return sent ring back = both (leb (back + BATCH) sent) (sent_at ((back + (BATCH - 1)) % SLOTS) ring)

-- 32 after 32, while they may be given back; there are no more turns than packets
unfoldable pub back_after : ℕ → ℕ → List ℕ → ℕ → ℕ
back_after zero sent ring back = back
back_after (suc turns) sent ring back = pick (may_return sent ring back) (back_after turns sent ring (back + BATCH)) back

-- a call gives back on a queue only if it is a send on that queue that is not refused, by the ring that it was lent
abbrev pub back_by : {a b : Account} → ℕ → ℕ → ℕ → Step a b → ℕ
back_by q sent back (h.counts r e) = back
back_by q sent back (h.take len r e) = back
back_by q sent back (h.batch n len lists left r e) = back
back_by q sent back (h.release handle r e) = back
back_by q sent back (h.truncate handle len r e) = back
back_by q sent back (h.clone handle memory left r e) = back
back_by q sent back (h.view handle memory part e) = back
back_by q sent back (h.headroom handle asked memory part e) = back
back_by q sent back (h.start k ring addresses left r e) = back
back_by q sent back (h.receive k ring addresses n lists left filled r e) = back
back_by q sent back (h.send k ring addresses lists left r e) =
    pick (eqb k q) (on_verdict r.verdict (back_after (sent - back) sent ring back) (λ why. back)) back

-- how many of those sent on a queue were given back
unfoldable pub back_on : {a : Account} → ℕ → History a → ℕ
back_on q (h.fresh pool entries size receives sends r e done) = 0
back_on q (h.call before s) = back_by q (length (sent_on q before)) (back_on q before) s

-- ---- in a reader's words

-- from one number given back to another, 32 at a time: each time they were all sent, and the done bit of the last of them was set in the ring
pub data Batches (sent : ℕ) (ring : List ℕ) : ℕ → ℕ → Type 0 where
  none : {back : ℕ} → Batches sent ring back back
  batch : {back end : ℕ} → back + BATCH ≤ sent → sent_at ((back + (BATCH - 1)) % SLOTS) ring ≡ true → Batches sent ring (back + BATCH) end → Batches sent ring back end

-- the ring that a send was lent
abbrev pub ring_of : {a b : Account} → Step a b → List ℕ
ring_of (h.counts r e) = []
ring_of (h.take len r e) = []
ring_of (h.batch n len lists left r e) = []
ring_of (h.release handle r e) = []
ring_of (h.truncate handle len r e) = []
ring_of (h.clone handle memory left r e) = []
ring_of (h.view handle memory part e) = []
ring_of (h.headroom handle asked memory part e) = []
ring_of (h.start k ring addresses left r e) = []
ring_of (h.receive k ring addresses n lists left filled r e) = []
ring_of (h.send k ring addresses lists left r e) = ring

-- is a call a send on a queue?
abbrev pub sends_on : {a b : Account} → ℕ → Step a b → Bool
sends_on q (h.counts r e) = false
sends_on q (h.take len r e) = false
sends_on q (h.batch n len lists left r e) = false
sends_on q (h.release handle r e) = false
sends_on q (h.truncate handle len r e) = false
sends_on q (h.clone handle memory left r e) = false
sends_on q (h.view handle memory part e) = false
sends_on q (h.headroom handle asked memory part e) = false
sends_on q (h.start k ring addresses left r e) = false
sends_on q (h.receive k ring addresses n lists left filled r e) = false
sends_on q (h.send k ring addresses lists left r e) = eqb k q
