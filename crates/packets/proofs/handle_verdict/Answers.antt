-- `packets::handle_verdict` meets its contract: the account is sound, and the handle good or not. Assumes nothing.
use mathlib.Core.Path.{sym, ◌∙◌}
use Rattle.rules.specs.Refusals.{handle_verdict}
use Rattle.packets.proofs.handle_verdict.Goals as goal

pub returns-then-is_good : goal.returns-then-is_good
unfolding handle_verdict
returns-then-is_good c = rw (c.requires, sym c.is_good.ensures ∙ c.if-is_good.true)

pub returns-else-is_good : goal.returns-else-is_good
unfolding handle_verdict
returns-else-is_good c = rw (c.requires, sym c.is_good.ensures ∙ c.if-is_good.false)
