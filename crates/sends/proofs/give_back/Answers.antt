-- `sends::give_back` meets its contract: what is left to give back at the loop's head is what was to give back at the start. Assumes nothing.
use mathlib.Core.Path.{◌≡◌, sym, ◌∙◌}
use native.Mathlib.Omega.{arith}
use Rattle.sends.proofs.Laws.{give-turn, give-none}
use Rattle.sends.proofs.give_back.Goals as goal

pub loop-i-preserved : goal.loop-i-preserved
loop-i-preserved c = give-turn _ _ _ _ _ _ _ _ c.loop-i-test.true ∙ c.loop-i.invariant

pub returns : goal.returns
returns c =
    let all : c.loop-i.i ≡ c.args.n = omega arith in
    rw all at (sym (give-none _ _ _ _ _ (omega arith)) ∙ c.loop-i.invariant)
