-- `memory::view_verdict` meets its contract: each answer by the test that led there. Packet memory's size fits, for a sound account is small.
-- Assumes nothing.
use native.Mathlib.Omega.{arith}
use borrow.Author.Tests.{eq-eqb, ne_eqb}
use Rattle.rules.specs.Refusals.{handle_verdict, view_verdict}
use Rattle.rules.proofs.Facts.{bounds}
use Rattle.memory.proofs.view_verdict.Goals as goal

pub overflow_mul-account : goal.overflow_mul-account
overflow_mul-account c = omega (arith, bounds c.args.account.now c.requires)

pub returns-then-bytes-account : goal.returns-then-bytes-account
unfolding view_verdict
returns-then-bytes-account c = rw (c.requires, ne_eqb _ _ c.if-bytes-account.true)

pub returns : goal.returns
unfolding handle_verdict view_verdict
returns c = rw (c.handle_verdict.ensures, c.requires, eq-eqb _ _ c.if-bytes-account.false)
