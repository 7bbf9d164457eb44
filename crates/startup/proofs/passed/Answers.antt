-- `startup::passed` meets its contract: each register up to the highest is looked at, and past it they all are in the map. Assumes nothing.
use mathlib.Core.Path.{◌≡◌, refl, ◌∙◌}
use borrow.Author.Rules.{rules}
use native.Mathlib.Omega.{arith}
use Rattle.std.specs.List.{range_with_len, list_all}
use Rattle.std.proofs.lemmas.Iterator.{YieldsList-from_range}
use Rattle.std.proofs.lemmas.Iterator.Search.{all_from_yields_List}
use Rattle.startup.specs.Machine.{reachable, item_at}
use Rattle.startup.proofs.Map.{passed_listed, passed_few}
use Rattle.startup.proofs.passed.Goals as goal

pub returns : goal.returns
returns c =
    let listed : c.all.result ≡ list_all (λ k. reachable c.args.setup.map (item_at c.args.setup k)) (range_with_len 0 c.min-most.result)
    = all_from_yields_List (λ k. reachable c.args.setup.map (item_at c.args.setup k)) _ _ c.all.result c.all.ensures.ran
    (YieldsList-from_range 0 c.min-most.result c.min-most.result refl (omega arith)) (λ x b q k. search rules) in
    listed ∙ passed_listed c.args.setup c.min-most.result ∙ rw c.min-most.ensures (passed_few c.args.setup c.requires c.args.place)
