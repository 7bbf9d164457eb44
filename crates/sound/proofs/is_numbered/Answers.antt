-- `sound::is_numbered` meets its contract: an account whose numbers are in their ranges has few queues. Assumes nothing.
use Rattle.std.proofs.Common.{◌∙◌, sym}
use Rattle.rules.proofs.Sound.{in-range-means}
use Rattle.sound.proofs.is_numbered.Goals as goal

pub queues_placed-requires : goal.queues_placed-requires
queues_placed-requires c = (in-range-means _ _ _ _ (sym c.in_range.ensures ∙ c.if-in_range.true)).few-sends
