-- `window::Window::rated` meets its contract: past the test the window is sound. Assumes nothing.
use Rattle.std.proofs.Common.{sym, ◌∙◌}
use Rattle.window.proofs.Laws.{sound-means}
use Rattle.window.proofs.Window.rated.Goals as goal

pub take_rate-next-requires-clause-sound : goal.take_rate-next-requires-clause-sound
take_rate-next-requires-clause-sound c = sound-means _ (sym c.is_sound.ensures.exact ∙ c.if-not-is_sound.false)
