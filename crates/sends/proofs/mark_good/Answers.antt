-- `sends::mark_good` meets its contract. The invariant is `Marking`, and each way out of a turn one law of `Marks`: a handle is good by the marks
-- just where it can be sent. Assumes nothing.
use mathlib.Core.Path.{◌≡◌, sym, ap, ◌∙◌}
use native.Mathlib.Omega.{arith}
use borrow.Author.Rules.{rules}
use Rattle.rules.specs.Handles.{handles, handle_at}
use Rattle.pool.specs.Good.{good_in}
use Rattle.sends.proofs.Marks.{good-known, marked-none, marking-stopped, marking-more}
use Rattle.sends.proofs.mark_good.Goals as goal
use Rattle.sends.proofs.mark_good.Goals.{After-is_good}

pub loop-i-init : goal.loop-i-init
loop-i-init c =
    record {
      other = c.requires.1;
      not-past = search rules;
      marked = sym (marked-none _ _ _);
      sendable = λ k h. absurd (omega arith);
    }

-- what the test says of the handle at the place
judged : (c : After-is_good)
    → c.is_good.result
    ≡ good_in c.args.pool c.args.entries c.args.size c.loop-i.hands
    (handle_at (handles c.args.pools.now c.args.ids.now c.args.offsets.now c.args.lengths.now) c.loop-i.i)
judged c = c.is_good.ensures ∙ ap (good_in _ _ _ _) c.at-handle.ensures

pub returns-then-not-is_good-clause-run : goal.returns-then-not-is_good-clause-run
returns-then-not-is_good-clause-run c =
    marking-stopped c.loop-i.invariant (sym (judged (goal.at.returns-then-not-is_good-clause-run c).After-is_good) ∙ c.if-not-is_good.true)

pub bounds-hands-id : goal.bounds-hands-id
bounds-hands-id c =
    let good = sym (judged (goal.at.bounds-hands-id c).After-is_good) ∙ c.if-not-is_good.false in
    omega (arith, good-known _ _ _ _ _ good)

pub loop-i-preserved : goal.loop-i-preserved
loop-i-preserved c =
    marking-more c.loop-i.invariant c.loop-i-test.true
    (sym (judged (goal.at.loop-i-preserved c).After-is_good) ∙ c.if-not-is_good.false)
