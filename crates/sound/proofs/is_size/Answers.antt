-- `sound::is_size` meets its contract: the chain tries each doubling of the smallest size. Assumes nothing.
use Rattle.std.proofs.Common.{◌≡◌, ◌+◌, ◌*◌, ◌^◌, ◌%◌, refl, ap, ◌∙◌, arith, eqb, rules, tests}
use Rattle.std.proofs.Math.Nat.{pow-le-pow_right}
use Rattle.std.proofs.lemmas.Iterator.{YieldsList-from_range}
use Rattle.std.proofs.lemmas.Iterator.Search.{any_from_yields_List}
use Rattle.limits.specs.Limits.{SMALLEST-SIZE, SIZE-DOUBLINGS}
use Rattle.rules.specs.Sound.{is_size}
use Rattle.sound.proofs.Chains.{any-some}
use Rattle.sound.proofs.is_size.Goals as goal

pub returns : goal.returns
unfolding is_size
returns c =
    any_from_yields_List (λ k. eqb c.args.size (SMALLEST-SIZE * 2 ^ k % 2 ^ 64)) _ _ c.any.result c.any.ensures.ran
    (YieldsList-from_range 0 (SIZE-DOUBLINGS + 1) (SIZE-DOUBLINGS + 1) refl (omega arith)) (λ x b q k. search (rules, tests))
    ∙ any-some (SIZE-DOUBLINGS + 1) _ _ (λ k below.
    let small = pow-le-pow_right {n = 2} (omega arith) {i = k} {j = SIZE-DOUBLINGS} (omega arith) in
    let whole : SMALLEST-SIZE * 2 ^ k % 2 ^ 64 ≡ SMALLEST-SIZE * 2 ^ k = omega (arith, small) in
    ap (eqb c.args.size) whole)
