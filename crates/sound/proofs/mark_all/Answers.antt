-- `sound::mark_all` meets its contract. The loop's invariant: marking the ids that are left gives what marking all of them gave at the start.
-- Assumes nothing.
use Rattle.std.proofs.Common.{◌≡◌, ℕ, ◌+◌, List, [], ◌∷◌, drop, get_or, refl, sym, ◌∙◌, add-one, arith}
use Rattle.std.proofs.lemmas.List.{drop_all}
use lib.Seq.{drop-cons}
use Rattle.sound.specs.Marks.{mark_all}
use Rattle.sound.proofs.Marks.{turn_more, turn-fails}
use Rattle.sound.proofs.mark_all.Goals as goal
use Rattle.sound.proofs.mark_all.Goals.{After-mark}

-- what `mark` makes of the next id
module _ (c : After-mark) where
  abbrev rest : List ℕ
  rest = drop (c.loop-id.id-index + 1) c.args.ids.now

  left : mark_all c.args.account.now.entries c.args.account.now.hands c.args.hand (get_or c.args.ids.now c.loop-id.id-index 0 ∷ rest) c.loop-id.seen
      ≡ mark_all c.args.account.now.entries c.args.account.now.hands c.args.hand c.args.ids.now c.args.seen.now
  left =
      let next : drop c.loop-id.id-index c.args.ids.now ≡ get_or c.args.ids.now c.loop-id.id-index 0 ∷ rest
      = drop-cons c.args.ids.now c.loop-id.id-index 0 (omega (arith, c.loop-id-test.true)) ∙ rw (add-one c.loop-id.id-index) refl in
      rw next at c.loop-id.invariant

pub returns-then-not-mark : goal.returns-then-not-mark
returns-then-not-mark c =
    sym (turn-fails _ _ _ _ (rest (goal.at.returns-then-not-mark c).After-mark) _ _ _ c.mark.ensures.says c.mark.ensures.leaves c.if-not-mark.true)
    ∙ left (goal.at.returns-then-not-mark c).After-mark

pub loop-id-preserved : goal.loop-id-preserved
loop-id-preserved c =
    sym (turn_more _ _ _ _ (rest (goal.at.loop-id-preserved c).After-mark) _ _ _ c.mark.ensures.says c.mark.ensures.leaves c.if-not-mark.false)
    ∙ left (goal.at.loop-id-preserved c).After-mark

pub returns : goal.returns
unfolding mark_all
returns c =
    let none : drop c.loop-id.id-index c.args.ids.now ≡ [] = drop_all c.loop-id.id-index c.args.ids.now (omega (arith, c.loop-id-test.false)) in
    rw none at c.loop-id.invariant
