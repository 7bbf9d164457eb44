-- `stream::receive` meets its contract: what was received is remembered, whatever the lists held, and the account is sound. Assumes nothing.
use Prim.Native.Nat.{◌≤◌}
use mathlib.Core.Path.{ap}
use Rattle.limits.specs.Limits.{SLOTS}
use Rattle.rules.specs.Handles.{Handles, handles, Room}
use Rattle.rules.specs.Receive.{AfterReceive}
use Rattle.stream.specs.Bench.{remember_all}
use Rattle.stream.proofs.Keeps.{receive-stays, received-few}
use Rattle.stream.proofs.Memory.{room-kept}
use Rattle.stream.proofs.Scratch.{receive-any}
use Rattle.stream.proofs.receive.Goals as goal
use Rattle.stream.proofs.receive.Goals.{In-Ok}

-- ---- no more handles are received than a ring has slots, so the lists have room for them

module _ (c : In-Ok) where
  abbrev lists : Handles
  lists = let last = c.receive.new in handles last.pools last.ids last.offsets last.lengths

  few : c.in-Ok.received.count ≤ SLOTS
  few = rw (ap (λ (o : AfterReceive). o.answer.count) c.in-Ok.ensures) (received-few c.whole.ensures c.requires.0 _ _ _ _)

  room : Room c.in-Ok.received.count lists
  room = let kept = c.receive.auto in room-kept c.requires.3 few kept.pools kept.ids kept.offsets kept.lengths

pub remember-requires : goal.remember-requires
remember-requires c =
    let room-here = room (goal.at.remember-requires c).In-Ok in
    (c.requires.1, c.requires.2, room-here.ids, room-here.offsets, room-here.lengths)

-- ---- they are remembered, and the account is sound

pub answered-requires : goal.answered-requires
answered-requires c = rw (ap (λ (o : AfterReceive). o.answer.account) c.in-Err.ensures) (receive-stays c.whole.ensures c.requires.0 _ _ _ _)

pub answered-requires-in-Ok : goal.answered-requires-in-Ok
answered-requires-in-Ok c = rw (ap (λ (o : AfterReceive). o.answer.account) c.in-Ok.ensures) (receive-stays c.whole.ensures c.requires.0 _ _ _ _)

pub returns-in-Err : goal.returns-in-Err
unfolding remember_all
returns-in-Err c = rw (c.answered.ensures, receive-any c.whole.ensures c.requires.0 _ _ _ _ c.requires.3, ← c.in-Err.ensures)

pub returns-in-Ok : goal.returns-in-Ok
returns-in-Ok c = rw (c.answered-in-Ok.ensures, c.remember.ensures, receive-any c.whole.ensures c.requires.0 _ _ _ _ c.requires.3, ← c.in-Ok.ensures)
