-- `packets::take_verdict` meets its contract: each answer by the tests that led there. Assumes nothing.
use Prim.Native.Nat.{◌-◌}
use mathlib.Core.Path.{◌≡◌, refl}
use mathlib.Core.Bool.{false}
use lib.Dec.{leb}
use native.Mathlib.Omega.{arith}
use borrow.Author.Tests.{lt-leb, le-leb, lt-ltb, le-ltb}
use Rattle.limits.specs.Limits.{HEADROOM}
use Rattle.rules.specs.Refusals.{take_verdict}
use Rattle.rules.proofs.Facts.{bounds}
use Rattle.packets.proofs.take_verdict.Goals as goal

pub overflow_sub-account : goal.overflow_sub-account
overflow_sub-account c = omega (arith, bounds c.args.account.now c.requires)

pub returns-then-account-len : goal.returns-then-account-len
unfolding take_verdict
returns-then-account-len c =
    let more : leb c.args.len (c.args.account.now.size - HEADROOM) ≡ false = lt-leb _ _ c.if-account-len.true in
    rw (c.requires, more) refl

pub returns-then-account-eq0 : goal.returns-then-account-eq0
unfolding take_verdict
returns-then-account-eq0 c = rw (c.requires, le-leb _ _ c.if-account-len.false, le-ltb 0 c.args.account.now.free.depth (omega (arith, c.if-account-eq0.true)))

pub returns : goal.returns
unfolding take_verdict
returns c = rw (c.requires, le-leb _ _ c.if-account-len.false, lt-ltb 0 c.args.account.now.free.depth (omega (arith, c.if-account-eq0.false)))
