-- `parts::row` meets its contract: the table is `parts`. Assumes nothing.
use mathlib.Core.List.{[]}
use Rattle.std.proofs.lemmas.List.{get_or-map}
use Rattle.parts.specs.declared.Times.TheVariants.{Once}
use Rattle.parts.specs.Parts.{Made, parts, no_made}
use Rattle.parts.proofs.Table.{times-at, items-at}
use Rattle.parts.proofs.row.Goals as goal

pub returns : goal.returns
unfolding parts
returns c = (
  rw (times-at, c.requires) (get_or-map (λ (p : Made). p.times) parts c.args.part no_made Once c.requires),
  rw (items-at, c.requires) (get_or-map (λ (p : Made). p.items) parts c.args.part no_made [] c.requires),
)
