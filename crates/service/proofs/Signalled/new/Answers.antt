-- `Signalled::new` meets its contract: a queue that is one is below the bound. Assumes nothing.
use native.Mathlib.Omega.{arith}
use Rattle.service.proofs.Signalled.new.Goals as goal

pub invariant_of-result : goal.invariant_of-result
invariant_of-result c = record { low = omega arith }
