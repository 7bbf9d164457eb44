-- `tally::take` meets its contract: the taken handle is remembered, and the account is sound. Assumes nothing.
use Prim.Native.Nat.{◌<◌}
use mathlib.Core.Path.{refl, sym, ap}
use native.Mathlib.Omega.{arith}
use Rattle.limits.specs.Limits.{ENTRIES}
use Rattle.rules.specs.Answers.{Taken}
use Rattle.tally.specs.Tally.{take_answer}
use Rattle.tally.proofs.Keeps.{take-stays, taken-known}
use Rattle.tally.proofs.take.Goals as goal
use Rattle.tally.proofs.take.Goals.{In-Ok}

known : (c : In-Ok) → c.in-Ok.handle.id < ENTRIES
known c = rw (ap (λ (r : Taken). r.handle.id) c.in-Ok.ensures) (taken-known c.whole.ensures c.requires.0 _ (sym (ap (λ (r : Taken). r.verdict) c.in-Ok.ensures)))

pub answered-requires : goal.answered-requires
answered-requires c = rw (ap (λ (r : Taken). r.account) c.in-Err.ensures) (take-stays c.whole.ensures c.requires.0 _)

pub bounds-offsets-at : goal.bounds-offsets-at
bounds-offsets-at c = omega (arith, known (goal.at.bounds-offsets-at c).In-Ok)

pub bounds-lengths-at : goal.bounds-lengths-at
bounds-lengths-at c = omega (arith, known (goal.at.bounds-lengths-at c).In-Ok)

pub answered-requires-in-Ok : goal.answered-requires-in-Ok
answered-requires-in-Ok c = rw (ap (λ (r : Taken). r.account) c.in-Ok.ensures) (take-stays c.whole.ensures c.requires.0 _)

pub returns-in-Err : goal.returns-in-Err
unfolding take_answer
returns-in-Err c = rw (c.answered.ensures, ← c.in-Err.ensures) refl

pub returns-in-Ok : goal.returns-in-Ok
unfolding take_answer
returns-in-Ok c = rw (c.answered-in-Ok.ensures, ← c.in-Ok.ensures) refl
