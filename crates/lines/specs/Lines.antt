-- Document 01, "The bench program": the bytes of a line. "A line is: record number, kind, table number, value, then free, receive, all send,
-- out", each in decimal, with a blank between; a malformed record's line is the word `bad` and the record's number.
use Rattle.std.specs.Prelude.{ℕ, zero, suc, ◌+◌, ◌/◌, Bool, true, List, [], ◌∷◌, ◌++◌, ltb, Some, None}
use Rattle.std.specs.declared.option.Option.{Option}
use Rattle.io.specs.Digits.{last_digits}
use Rattle.laws.specs.Test.{pick}
use Rattle.tally.specs.declared.Tally.{Tally}
use Rattle.lines.specs.declared.Line.{Line}

-- ---- a number in decimal

-- how many digits a number has, counted up to one more than given
unfoldable pub width : ℕ → ℕ → ℕ
width zero n = 1
width (suc more) n = pick (ltb n 10) 1 (1 + width more (n / 10))

-- a number of 64 bits has at most 20
unfoldable pub spelled : ℕ → List ℕ
spelled n = last_digits 10 (width 19 n) n

-- a number, and the byte behind it: a blank, or the line's end
abbrev pub BLANK : ℕ
BLANK = 32

abbrev pub END : ℕ
END = 10

abbrev pub item : ℕ → ℕ → List ℕ
item n behind = spelled n ++ (behind ∷ [])

-- ---- lines

-- the most bytes of a number with the byte behind it, of what each hand has, and of a line
abbrev pub ITEM : ℕ
ITEM = 21

abbrev pub TALLY : ℕ
TALLY = 84

abbrev pub LINE : ℕ
LINE = 168

unfoldable pub tally_text : Tally → List ℕ
tally_text t = item t.free BLANK ++ (item t.receive BLANK ++ (item t.send BLANK ++ item t.out END))

unfoldable pub good_text : ℕ → Line → List ℕ
good_text count l =
    item count BLANK ++ (item l.kind BLANK ++ (item l.number BLANK ++ (item l.value BLANK ++ tally_text l.tally)))

unfoldable pub bad_text : ℕ → List ℕ
bad_text count = (98 ∷ 97 ∷ 100 ∷ BLANK ∷ []) ++ item count END

abbrev pub text_of : ℕ → Bool → Line → List ℕ
text_of count good l = pick good (good_text count l) (bad_text count)

-- the line of a good record, or of a bad one
abbrev pub shown_text : ℕ → Option Line → List ℕ
shown_text count (Some l) = text_of count true l
shown_text count None = bad_text count
