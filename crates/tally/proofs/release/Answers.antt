-- `tally::release` meets its contract: by the last handle, and the account is sound. Assumes nothing.
use mathlib.Core.Path.{refl, ap}
use Rattle.rules.specs.Answers.{Kept}
use Rattle.tally.specs.Tally.{release_answer}
use Rattle.tally.proofs.Keeps.{release-stays}
use Rattle.tally.proofs.release.Goals as goal

pub answered-requires : goal.answered-requires
answered-requires c = rw (ap (λ (k : Kept). k.account) c.in-Err.ensures) (release-stays c.whole.ensures c.requires.0 _)

pub answered-requires-in-Ok : goal.answered-requires-in-Ok
answered-requires-in-Ok c = rw (ap (λ (k : Kept). k.account) c.in-Ok.ensures) (release-stays c.whole.ensures c.requires.0 _)

pub returns-in-Err : goal.returns-in-Err
unfolding release_answer
returns-in-Err c = rw (c.answered.ensures, ← c.last_handle.ensures, ← c.in-Err.ensures) refl

pub returns-in-Ok : goal.returns-in-Ok
unfolding release_answer
returns-in-Ok c = rw (c.answered-in-Ok.ensures, ← c.last_handle.ensures, ← c.in-Ok.ensures) refl
