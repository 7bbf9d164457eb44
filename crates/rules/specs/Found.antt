-- What stands at a receive slot: a reason to stop, or a frame with its length.
use Rattle.std.specs.Prelude.{ℕ}
use Rattle.rules.specs.declared.Stop.{Stop}

pub data Found : Type 0 where
  Nothing : Stop → Found
  Frame : ℕ → Found
