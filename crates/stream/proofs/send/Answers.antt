-- `stream::send` meets its contract: the gathered handles are sent on the part of the rings that is the queue's. Assumes nothing.
use Prim.Native.Nat.{ℕ, ◌+◌, ◌-◌, ◌<◌}
use mathlib.Core.Path.{◌≡◌, sym, ap}
use lib.Seq.{length-take-le}
use native.Mathlib.Omega.{arith}
use borrow.Author.Tests.{lt-ltb, le-ltb}
use Rattle.limits.specs.Limits.{SENDS, RING-BYTES}
use Rattle.rules.specs.Handles.{Handles, handles, Room}
use Rattle.rules.specs.Send.{AfterSend}
use Rattle.rules.proofs.Sound.{sound-means}
use Rattle.stream.specs.Bench.{send_answer}
use Rattle.stream.proofs.Keeps.{send-stays}
use Rattle.stream.proofs.Memory.{room-kept}
use Rattle.stream.proofs.send.Goals as goal
use Rattle.stream.proofs.send.Goals.{After-gather}

-- ---- no such queue

pub returns-then-account-queue : goal.returns-then-account-queue
unfolding send_answer
returns-then-account-queue c = rw (c.answered.ensures, le-ltb _ _ c.if-account-queue.true)

-- ---- the handles are gathered: the queue is one of the rings, and the lists have room for as many handles as before

module _ (c : After-gather) where
  known : c.args.queue < SENDS
  known = omega (arith, c.if-account-queue.false, (sound-means _ c.requires.0).numbers.few-sends)

  abbrev lists : Handles
  lists = let last = c.gather.new in handles last.pools last.ids last.froms last.sizes

  room : Room c.args.count lists
  room = let kept = c.gather.auto in room-kept c.requires.6 (omega arith) kept.pools kept.ids kept.froms kept.sizes

-- ---- the queue's ring is lent: the part of the rings that begins at `queue * RING-BYTES`

pub overflow_mul-from : goal.overflow_mul-from
overflow_mul-from c = omega (arith, known (goal.at.overflow_mul-from c).After-gather)

pub overflow_add-from : goal.overflow_add-from
overflow_add-from c = omega (arith, known (goal.at.overflow_add-from c).After-gather)

pub slice_bounds-send-end : goal.slice_bounds-send-end
slice_bounds-send-end c = omega (arith, known (goal.at.slice_bounds-send-end c).After-gather, c.requires.1)

-- from a place to the one a ring further on lies a ring
ring_long : (from : ℕ) → from + RING-BYTES - from ≡ RING-BYTES
ring_long from = omega arith

-- ---- the first handles of the lists are lent

pub slice_bounds-send-end-3 : goal.slice_bounds-send-end-3
slice_bounds-send-end-3 c = sym (length-take-le _ _ (room (goal.at.slice_bounds-send-end-3 c).After-gather).pools)

pub slice_bounds-send-end-5 : goal.slice_bounds-send-end-5
slice_bounds-send-end-5 c = sym (length-take-le _ _ (room (goal.at.slice_bounds-send-end-5 c).After-gather).ids)

pub slice_bounds-send-end-7 : goal.slice_bounds-send-end-7
slice_bounds-send-end-7 c = sym (length-take-le _ _ (room (goal.at.slice_bounds-send-end-7 c).After-gather).offsets)

pub slice_bounds-send-end-9 : goal.slice_bounds-send-end-9
slice_bounds-send-end-9 c = sym (length-take-le _ _ (room (goal.at.slice_bounds-send-end-9 c).After-gather).lengths)

-- ---- they are sent on the part that was lent, and that is the queue's own ring: a send on another ring is refused here

pub answered-requires-in-Err : goal.answered-requires-in-Err
answered-requires-in-Err c = rw (ap (λ (o : AfterSend). o.answer.account) c.in-Err.ensures) (send-stays c.whole.ensures c.requires.0 _ _ _ _)

pub answered-requires-in-Ok : goal.answered-requires-in-Ok
answered-requires-in-Ok c = rw (ap (λ (o : AfterSend). o.answer.account) c.in-Ok.ensures) (send-stays c.whole.ensures c.requires.0 _ _ _ _)

pub returns-in-Err : goal.returns-in-Err
unfolding send_answer
returns-in-Err c = rw (c.answered-in-Err.ensures, lt-ltb _ _ c.if-account-queue.false, ring_long, ← c.gather.ensures, ← (rw ring_long at c.in-Err.ensures))

pub returns-in-Ok : goal.returns-in-Ok
unfolding send_answer
returns-in-Ok c = rw (c.answered-in-Ok.ensures, lt-ltb _ _ c.if-account-queue.false, ring_long, ← c.gather.ensures, ← (rw ring_long at c.in-Ok.ensures))
