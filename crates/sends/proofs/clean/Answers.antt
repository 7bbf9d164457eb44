-- `sends::clean` meets its contract. The invariant is `Along`, and each way out of a turn one law of `Laws`. Assumes nothing.
use Prim.Native.Nat.{◌≤◌}
use mathlib.Core.Path.{sym, ap, ◌∙◌}
use native.Mathlib.Omega.{arith}
use Rattle.rules.specs.Account.{waiting}
use Rattle.rules.specs.Send.{Cleaning}
use Rattle.sends.proofs.Laws.{along-few, along-unsent, along-less, along-batch}
use Rattle.sends.proofs.clean.Goals as goal
use Rattle.sends.proofs.clean.Goals.{Else-pending-batch}

-- a whole batch is pending
waits : (c : Else-pending-batch)
    → c.args.batch ≤ waiting c.args.tx c.loop-last.first
waits c = omega (arith, c.if-pending-batch.false, c.pending.ensures)

pub loop-last-smaller : goal.loop-last-smaller
loop-last-smaller c = rw (ap (λ (w : Cleaning). w.clean) c.give_back-first.ensures) (along-less c.loop-last.invariant (waits (goal.at.loop-last-smaller c).Else-pending-batch))

pub loop-last-preserved : goal.loop-last-preserved
loop-last-preserved c =
    rw c.give_back-first.ensures
    (along-batch c.loop-last.invariant (waits (goal.at.loop-last-preserved c).Else-pending-batch)
    (sym c.is_sent.ensures ∙ c.if-not-is_sent.false))

pub returns-then-pending-batch : goal.returns-then-pending-batch
returns-then-pending-batch c = along-few c.loop-last.invariant (omega (arith, c.if-pending-batch.true, c.pending.ensures))

pub returns-then-not-is_sent : goal.returns-then-not-is_sent
returns-then-not-is_sent c = along-unsent c.loop-last.invariant (sym c.is_sent.ensures ∙ c.if-not-is_sent.true)
