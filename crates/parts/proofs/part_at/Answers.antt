-- `parts::part_at` meets its contract: the row of a part is that of what it is made of. Assumes nothing.
use Rattle.parts.specs.Parts.{parts, row_for, no_made, no_part}
use Rattle.std.proofs.lemmas.List.{get_or-map}
use Rattle.parts.proofs.part_at.Goals as goal

pub returns : goal.returns
unfolding parts
returns c = rw (get_or-map row_for parts c.args.i no_made no_part c.requires, c.row-times.ensures.0, c.row-times.ensures.1)
