-- `Register::entry` meets its contract: the row is the table's, and the sum fits by the table's rule. Assumes nothing.
use Rattle.card.specs.Registers.{registers}
use Rattle.card.proofs.Rows.{read, product-fits, total-fits}
use Rattle.card.proofs.Register.entry.Goals as goal

pub overflow_mul-result : goal.overflow_mul-result
unfolding registers
overflow_mul-result c = record { fits = product-fits _ _ c.row.ensures.1 c.requires }

pub overflow_add-result : goal.overflow_add-result
unfolding registers
overflow_add-result c = record { fits = total-fits _ _ c.row.ensures.1 c.requires }

pub returns : goal.returns
unfolding registers
returns c = rw c.row.ensures.0 (read _ _)
