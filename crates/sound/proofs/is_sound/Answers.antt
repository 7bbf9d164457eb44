-- `sound::is_sound` meets its contract: where the numbers and indices are right, the ids' places decide. Assumes nothing.
use Rattle.std.proofs.Common.{◌∙◌, sym}
use Rattle.sound.proofs.Marks.{places-sound}
use Rattle.sound.proofs.Numbered.{numbered-means, not-numbered}
use Rattle.sound.proofs.is_sound.Goals as goal

pub in_places-requires : goal.in_places-requires
in_places-requires c = numbered-means _ (sym c.is_numbered.ensures ∙ c.if-is_numbered.true)

pub returns-then-is_numbered : goal.returns-then-is_numbered
returns-then-is_numbered c = c.in_places.ensures ∙ places-sound _ (numbered-means _ (sym c.is_numbered.ensures ∙ c.if-is_numbered.true))

pub returns-else-is_numbered : goal.returns-else-is_numbered
returns-else-is_numbered c = c.if-is_numbered.false ∙ sym (not-numbered _ (sym c.is_numbered.ensures ∙ c.if-is_numbered.false))
