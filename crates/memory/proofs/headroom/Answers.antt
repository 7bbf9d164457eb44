-- `memory::headroom` meets its contract: refused as its verdict says, or the part just before the packet, which the packet's offset makes room
-- for inside its entry. Assumes nothing.
use Prim.Native.Nat.{◌≤◌}
use mathlib.Core.Path.{◌≡◌, sym}
use native.Mathlib.Omega.{arith}
use lib.ListN.{length}
use lib.Arith.{sub-sub_self}
use Rattle.rules.specs.Verdict.{Done}
use Rattle.rules.specs.Refusals.{headroom_verdict}
use Rattle.rules.specs.Packets.{headroom_call}
use Rattle.memory.proofs.Laws.{Inside, headroom-inside}
use Rattle.memory.proofs.headroom.Goals as goal
use Rattle.memory.proofs.headroom.Goals.{In-Ok}

module _ (c : In-Ok) where
  -- every test held
  passed : headroom_verdict c.args.account.now c.args.handle c.args.asked (length c.args.memory.now) ≡ Done
  passed = sym (rw c.in-Ok.is at c.headroom_verdict.ensures)

  inside : Inside c.args.account.now c.args.handle (length c.args.memory.now) × (c.args.asked ≤ c.args.handle.offset)
  inside = headroom-inside _ _ _ _ passed

pub place-end-requires : goal.place-end-requires
place-end-requires c = omega (arith, inside (goal.at.place-end-requires c).In-Ok)

pub overflow_sub-at : goal.overflow_sub-at
overflow_sub-at c = omega (arith, inside (goal.at.overflow_sub-at c).In-Ok)

pub slice_bounds-memory-end-in-Ok : goal.slice_bounds-memory-end-in-Ok
slice_bounds-memory-end-in-Ok c = omega (arith, inside (goal.at.slice_bounds-memory-end-in-Ok c).In-Ok)

pub returns-in-Err : goal.returns-in-Err
unfolding headroom_call
returns-in-Err c = rw (sym (rw c.in-Err.is at c.headroom_verdict.ensures))

pub returns-in-Ok : goal.returns-in-Ok
unfolding headroom_call
returns-in-Ok c =
    let fits : c.args.asked ≤ c.place-end.result = omega (arith, inside (goal.at.returns-in-Ok c).In-Ok) in
    rw (passed (goal.at.returns-in-Ok c).In-Ok, sub-sub_self fits, c.place-end.ensures)
