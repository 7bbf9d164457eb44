-- `window::total_of` meets its contract: each rate is below 2^32. Assumes nothing.
use Rattle.std.proofs.Common.{arith}
use Rattle.std.proofs.lemmas.Grind.{common_steps}
use Rattle.window.proofs.Rates.{total_is_sum, total_small}
use Rattle.window.proofs.total_of.Goals as goal

pub returns-clause-small : goal.returns-clause-small
returns-clause-small c = grind (arith, common_steps, total_is_sum, total_small _ c.type_inv.rates)
