-- `sends::good_run` meets its contract: the marks of a run are taken away again. Assumes nothing.
use mathlib.Core.Path.{◌∙◌}
use native.Mathlib.Omega.{arith}
use Rattle.pool.specs.Hands.{HAND-SEND}
use Rattle.sends.proofs.Marks.{run-known, run-unmarked}
use Rattle.sends.proofs.good_run.Goals as goal

pub unmark-requires : goal.unmark-requires
unmark-requires c =
    let run = c.mark_good-run.ensures.run in
    (run.not-past, λ k h. omega (arith, run-known run k h, c.requires.0))

pub returns-clause-leaves : goal.returns-clause-leaves
returns-clause-leaves c =
    let run = c.mark_good-run.ensures.run in
    let marks = c.mark_good-run.ensures.marks in
    c.unmark.ensures ∙ rw marks (run-unmarked run HAND-SEND (λ e. omega arith) (omega arith))
