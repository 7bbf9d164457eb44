-- `memory::headroom_verdict` meets its contract: the view's verdict, and then each answer by the tests that led there. Assumes nothing.
use mathlib.Core.Path.{◌≡◌, refl, sym}
use mathlib.Core.Bool.{false}
use lib.Dec.{leb}
use borrow.Author.Tests.{lt-leb, le-leb}
use Rattle.std.proofs.lemmas.Result.{err_from_is_err_and}
use Rattle.limits.specs.Limits.{HEADROOM}
use Rattle.memory.proofs.Laws.{headroom-by-view}
use Rattle.memory.proofs.headroom_verdict.Goals as goal

pub returns-in_err-view_verdict : goal.returns-in_err-view_verdict
returns-in_err-view_verdict c = let p = err_from_is_err_and c.from_residual.result c.from_residual.ensures.1 in rw (p.1, p.2, headroom-by-view, sym c.in_err-view_verdict.ensures)

pub returns-then-asked-gt-HEADROOM : goal.returns-then-asked-gt-HEADROOM
returns-then-asked-gt-HEADROOM c = rw (headroom-by-view, sym c.in_ok-view_verdict.ensures, lt-leb _ HEADROOM c.if-asked-gt-HEADROOM.true)

pub returns-then-offset-asked : goal.returns-then-offset-asked
returns-then-offset-asked c =
    let outside : leb c.args.asked c.args.handle.offset ≡ false = lt-leb _ _ c.if-offset-asked.true in
    rw (headroom-by-view, sym c.in_ok-view_verdict.ensures, le-leb _ HEADROOM c.if-asked-gt-HEADROOM.false, outside) refl

pub returns : goal.returns
returns c = rw (headroom-by-view, sym c.in_ok-view_verdict.ensures, le-leb _ HEADROOM c.if-asked-gt-HEADROOM.false, le-leb _ _ c.if-offset-asked.false)
