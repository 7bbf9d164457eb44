-- `memory::view` meets its contract: refused as its verdict says, or the packet's part, which lies inside packet memory. Assumes nothing.
use mathlib.Core.Path.{◌≡◌, refl, sym}
use native.Mathlib.Omega.{arith}
use native.Mathlib.Nat.{add-sub_cancel_left}
use lib.ListN.{length}
use Rattle.rules.specs.Packets.{view_call}
use Rattle.rules.specs.Refusals.{view_verdict}
use Rattle.rules.specs.Verdict.{Done}
use Rattle.memory.proofs.Laws.{Inside, view-inside}
use Rattle.memory.proofs.view.Goals as goal
use Rattle.memory.proofs.view.Goals.{In-Ok}

module _ (c : In-Ok) where
  -- every test held
  passed : view_verdict c.args.account.now c.args.handle (length c.args.memory.now) ≡ Done
  passed = sym (rw c.in-Ok.is at c.view_verdict.ensures)

  inside : Inside c.args.account.now c.args.handle (length c.args.memory.now)
  inside = view-inside _ _ _ passed

pub place-at-requires : goal.place-at-requires
place-at-requires c = omega (arith, inside (goal.at.place-at-requires c).In-Ok)

pub overflow_add-end : goal.overflow_add-end
overflow_add-end c = omega (arith, inside (goal.at.overflow_add-end c).In-Ok)

pub slice_bounds-result-end-in-Ok : goal.slice_bounds-result-end-in-Ok
slice_bounds-result-end-in-Ok c = omega (arith, inside (goal.at.slice_bounds-result-end-in-Ok c).In-Ok)

pub returns-in-Err : goal.returns-in-Err
unfolding view_call
returns-in-Err c = rw (sym (rw c.in-Err.is at c.view_verdict.ensures)) refl

pub returns-in-Ok : goal.returns-in-Ok
unfolding view_call
returns-in-Ok c = rw (passed (goal.at.returns-in-Ok c).In-Ok, add-sub_cancel_left, c.place-at.ensures)
