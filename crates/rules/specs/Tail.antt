-- The tail that the host writes to the card after a call, if any.
use Rattle.std.specs.Prelude.{ℕ}

pub data Tail : Type 0 where
  Unwritten : Tail
  Written : ℕ → Tail
