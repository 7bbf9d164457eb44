-- How many bytes of the input are held at once.
use Rattle.std.specs.Prelude.{ℕ}

abbrev pub HELD : ℕ
HELD = 131072
