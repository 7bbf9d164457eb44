-- `sound::queues_placed` meets its contract: the chain tests every queue. Assumes nothing.
use Rattle.std.proofs.Common.{arith, refl, ◌∙◌, get_or}
use Rattle.std.proofs.lemmas.Iterator.{YieldsList-from_range}
use Rattle.std.proofs.lemmas.Iterator.Search.{all_from_yields_List}
use Rattle.std.proofs.Common.{tests, rules}
use Rattle.rules.specs.Sound.{indices, queues_placed}
use Rattle.sound.proofs.Chains.{all-every}
use Rattle.sound.proofs.queues_placed.Goals as goal

pub returns : goal.returns
unfolding queues_placed
returns c =
    let a = c.args.account.now in
    all_from_yields_List (λ q. indices (get_or a.clean q 0) (get_or a.tx q 0)) _ _ c.all.result c.all.ensures.ran
    (YieldsList-from_range 0 a.sends a.sends refl (omega arith)) (λ x b q k. search (rules, tests))
    ∙ all-every a.sends _
