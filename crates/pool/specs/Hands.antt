-- The hands that can have a buffer, as numbers. Send queue q is hand HAND-SEND + q.
use Rattle.std.specs.Prelude.{ℕ}

abbrev pub HAND-FREE : ℕ
HAND-FREE = 0

abbrev pub HAND-RECEIVE : ℕ
HAND-RECEIVE = 1

abbrev pub HAND-OUT : ℕ
HAND-OUT = 2

abbrev pub HAND-SEND : ℕ
HAND-SEND = 3
