-- `batches::batch` meets its contract: refused, or nothing taken, by the tests that led there; else as many are taken as are asked for and free,
-- and the rule takes no more than there are. Each place of a sound account's stack has an id of the account. Assumes nothing.
use Prim.Native.Nat.{min}
use mathlib.Core.Path.{◌≡◌, sym, ap, ◌∙◌}
use native.Mathlib.Omega.{arith}
use borrow.Author.Tests.{le-leb, lt-leb}
use Rattle.rules.specs.Handles.{handles, has_room}
use Rattle.rules.specs.Refusals.{batch_of, batch_verdict}
use Rattle.rules.specs.Packets.{batch_rule, batch_call}
use Rattle.rules.proofs.Facts.{bounds, stack-known}
use Rattle.rules.proofs.Verdicts.{room-means}
use Rattle.rules.proofs.Packets.{many-min}
use Rattle.batches.proofs.batch.Goals as goal
use Rattle.batches.proofs.batch.Goals.{After-has_room, After-min-most}

-- the rule tests the same room
tested : (c : After-has_room)
    → has_room (min (batch_of c.args.n) c.args.account.now.entries)
    (handles c.args.pools.now c.args.ids.now c.args.offsets.now c.args.lengths.now)
    ≡ c.has_room.result
tested c = sym (rw (c.min-room.ensures, c.batch_of-asked.ensures) at c.has_room.ensures)

-- as many as are asked for and free
most : (c : After-min-most) → c.min-most.result ≡ min (batch_of c.args.n) c.args.account.now.free.depth
most c = c.min-most.ensures ∙ ap (λ asked. min asked c.args.account.now.free.depth) c.batch_of-asked.ensures

pub returns-then-not-has_room : goal.returns-then-not-has_room
unfolding batch_call batch_verdict
returns-then-not-has_room c = rw (c.requires, tested (goal.at.returns-then-not-has_room c).After-has_room ∙ c.if-not-has_room.true)

pub overflow_sub-account : goal.overflow_sub-account
overflow_sub-account c = omega (arith, bounds _ c.requires)

pub returns-then-account-len : goal.returns-then-account-len
unfolding batch_call batch_verdict batch_rule
returns-then-account-len c = rw (c.requires, tested (goal.at.returns-then-account-len c).After-has_room ∙ c.if-not-has_room.false, lt-leb _ _ c.if-account-len.true)

pub overflow_cast-len : goal.overflow_cast-len
overflow_cast-len c = omega (arith, bounds _ c.requires, c.if-account-len.false)

pub take_many-requires : goal.take_many-requires
take_many-requires c =
    let b = bounds _ c.requires in
    let m = most (goal.at.take_many-requires c).After-min-most in
    let r = room-means _ _ (tested (goal.at.take_many-requires c).After-has_room ∙ c.if-not-has_room.false) in
    record {
      enough = omega arith;
      deep = omega arith;
      known = λ i below. omega (arith, stack-known _ c.requires i below);
      room = record { pools = omega (arith, r.pools); ids = omega (arith, r.ids); offsets = omega (arith, r.offsets); lengths = omega (arith, r.lengths) };
    }

pub returns : goal.returns
unfolding batch_call batch_verdict batch_rule
returns c =
    rw (
      c.requires,
      tested (goal.at.returns c).After-has_room ∙ c.if-not-has_room.false,
      le-leb _ _ c.if-account-len.false,
      many-min,
      ← most (goal.at.returns c).After-min-most,
      ← c.take_many.ensures,
    )
