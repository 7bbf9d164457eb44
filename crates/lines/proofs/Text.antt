-- What is gathered after one text is put behind another.
use Prim.Native.Nat.{ℕ}
use mathlib.Core.Path.{◌≡◌}
use mathlib.Core.List.{List, ◌++◌, append_assoc}
use Rattle.lines.specs.Lines.{item, BLANK}

-- a text is put behind a text
pub joined : (start first rest : List ℕ) {a b : List ℕ} → a ≡ start ++ first → b ≡ a ++ rest → b ≡ start ++ (first ++ rest)
joined start first rest e f = rw (f, e) (append_assoc start first rest)

-- three numbers are put, each with a blank behind it, and a text behind them
pub three-then : (start : List ℕ) (k m n : ℕ) (rest : List ℕ) {a b c d : List ℕ}
    → a ≡ start ++ item k BLANK → b ≡ a ++ item m BLANK → c ≡ b ++ item n BLANK → d ≡ c ++ rest
    → d ≡ start ++ (item k BLANK ++ (item m BLANK ++ (item n BLANK ++ rest)))
three-then start k m n rest {a} {b} e f g h =
    let last = joined b (item n BLANK) rest g h in
    let both = joined a (item m BLANK) (item n BLANK ++ rest) f last in
    joined start (item k BLANK) (item m BLANK ++ (item n BLANK ++ rest)) e both
