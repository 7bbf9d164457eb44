-- `packets::take` meets its contract: refused as its verdict says, or the top is taken. Assumes nothing.
use Prim.Native.Nat.{◌-◌, ◌<◌}
use mathlib.Core.Path.{◌≡◌, sym}
use native.Mathlib.Omega.{arith}
use borrow.Author.Tests.{leb-true, ltb-true}
use Rattle.std.proofs.lemmas.Result.{err_from_is_err_and}
use Rattle.rules.specs.Verdict.{Done}
use Rattle.rules.specs.Refusals.{take_verdict}
use Rattle.rules.specs.Packets.{take_call}
use Rattle.rules.proofs.Facts.{Bounds, bounds, stack-known}
use Rattle.rules.proofs.Calls.{take_done}
use Rattle.packets.proofs.take.Goals as goal
use Rattle.packets.proofs.take.Goals.{In_ok-take_verdict}

module _ (c : In_ok-take_verdict) where
  -- every test held
  passed : take_verdict c.args.account.now c.args.len ≡ Done
  passed = sym c.in_ok-take_verdict.ensures

  held : Bounds c.args.account.now
  held = bounds _ (take_done _ _ passed).0

  some : 0 < c.args.account.now.free.depth
  some = ltb-true 0 _ (take_done _ _ passed).2

pub overflow_cast-len : goal.overflow_cast-len
overflow_cast-len c = record { fits = omega (arith, held (goal.at.overflow_cast-len c).In_ok-take_verdict, leb-true c.args.len _ (take_done _ _ (passed (goal.at.overflow_cast-len c).In_ok-take_verdict)).1) }

pub take_top-requires : goal.take_top-requires
take_top-requires c = (
  some (goal.at.take_top-requires c).In_ok-take_verdict,
  omega (arith, held (goal.at.take_top-requires c).In_ok-take_verdict),
  omega (arith, held (goal.at.take_top-requires c).In_ok-take_verdict, stack-known _ (take_done _ _ (passed (goal.at.take_top-requires c).In_ok-take_verdict)).0 (c.args.account.now.free.depth - 1) (omega (arith, some (goal.at.take_top-requires c).In_ok-take_verdict))),
)

pub returns-in_err-take_verdict : goal.returns-in_err-take_verdict
unfolding take_call
returns-in_err-take_verdict c = let p = err_from_is_err_and c.from_residual.result c.from_residual.ensures.1 in rw (p.1, p.2, sym c.in_err-take_verdict.ensures)

pub returns : goal.returns
unfolding take_call
returns c = rw (c.take_top.ensures.handle, c.take_top.ensures.leaves, sym c.in_ok-take_verdict.ensures)
