-- `startup::step` meets its contract: 1, or the step of a sound state. Assumes nothing.
use borrow.Author.Rules.{rules}
use mathlib.Core.Path.{sym, ◌∙◌}
use Rattle.startup.proofs.Sound.{sound-facts}
use Rattle.startup.proofs.step.Goals as goal

pub advance-requires : goal.advance-requires
advance-requires c = record { sound = sound-facts _ (sym c.is_sound.ensures ∙ c.if-is_sound.true); rings = search rules }
