-- `sound::all_settled` meets its contract: the chain tests every id. Assumes nothing.
use Rattle.std.proofs.Common.{arith, refl, ◌∙◌, get_or, eqb}
use Rattle.std.proofs.lemmas.Iterator.{YieldsList-from_range}
use Rattle.std.proofs.lemmas.Iterator.Search.{all_from_yields_List}
use Rattle.std.proofs.Common.{tests, rules}
use Rattle.laws.specs.Test.{either}
use Rattle.pool.specs.Hands.{HAND-OUT}
use Rattle.sound.specs.Marks.{settled}
use Rattle.sound.proofs.Chains.{all-every}
use Rattle.sound.proofs.all_settled.Goals as goal

pub returns : goal.returns
unfolding settled
returns c =
    let a = c.args.account.now in
    all_from_yields_List (λ id. either (eqb (get_or a.hands id 0) HAND-OUT) (eqb (get_or c.args.seen.now id 0) 1)) _ _ c.all.result c.all.ensures.ran
    (YieldsList-from_range 0 a.entries a.entries refl (omega arith)) (λ x b q k. search (rules, tests))
    ∙ all-every a.entries _
