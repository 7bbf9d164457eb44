-- `turns::first` meets its contract: one entry of the smallest size is in range. Assumes nothing.
use mathlib.Core.Path.{◌≡◌, refl}
use Rattle.laws.specs.Test.{some}
use Rattle.rules.specs.Packets.{fresh_call}
use Rattle.rules.specs.Sound.{is_size, in_range}
use Rattle.rules.specs.Refusals.{fresh_verdict}
use Rattle.tally.specs.Tally.{fresh_answer}
use Rattle.turns.proofs.first.Goals as goal

in-range : (fresh_answer 1 64 0).number ≡ 0
unfolding fresh_answer fresh_call fresh_verdict in_range is_size some
in-range = refl

pub returns : goal.returns
returns c = (refl, refl, refl, c.fresh.ensures.keeps in-range)
