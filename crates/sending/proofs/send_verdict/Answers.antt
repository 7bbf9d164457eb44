-- `sending::send_verdict` meets its contract: behind the tests of the sizes and of the queue, by the run of good handles. Assumes nothing.
use mathlib.Core.Path.{sym, ◌∙◌}
use lib.ListN.{length}
use native.Mathlib.Omega.{arith}
use borrow.Author.Tests.{lt-ltb, eq-eqb, ne_eqb}
use Rattle.rules.specs.Refusals.{send_verdict}
use Rattle.rules.proofs.Facts.{bounds}
use Rattle.rules.proofs.Verdicts.{room-means}
use Rattle.sends.proofs.Marks.{run-verdict}
use Rattle.sending.proofs.send_verdict.Goals as goal

pub good_run-run-requires : goal.good_run-run-requires
good_run-run-requires c = ((bounds _ c.requires).entries-most, room-means _ _ (sym c.has_room.ensures ∙ c.if-not-has_room.false))

-- the run of good handles is known
pub returns-then-run-ids-clause-says : goal.returns-then-run-ids-clause-says
unfolding send_verdict
returns-then-run-ids-clause-says c =
    rw (
      c.requires,
      sym c.rings_fit.ensures ∙ c.if-not-rings_fit.false,
      sym c.has_room.ensures ∙ c.if-not-has_room.false,
      lt-ltb _ _ c.if-account-q.false,
      run-verdict c.args.account.now c.good_run-run.ensures.run,
      ne_eqb c.good_run-run.result (length c.args.ids.now) (λ e. omega arith),
    )

pub returns-clause-says : goal.returns-clause-says
unfolding send_verdict
returns-clause-says c =
    let run = c.good_run-run.ensures.run in
    rw (
      c.requires,
      sym c.rings_fit.ensures ∙ c.if-not-rings_fit.false,
      sym c.has_room.ensures ∙ c.if-not-has_room.false,
      lt-ltb _ _ c.if-account-q.false,
      run-verdict c.args.account.now run,
      eq-eqb c.good_run-run.result (length c.args.ids.now) (omega (arith, run.not-past)),
    )
