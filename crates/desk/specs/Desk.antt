-- What the contracts of `desk` cite: which bytes of the input are held, and the line of a record that is cut short.
use Rattle.std.specs.Prelude.{◌≡◌, ℕ, ◌-◌, Bool, not, List, [], take, drop, nat_lt, is_some}
use Rattle.laws.specs.Test.{pick, both}
use Rattle.records.specs.Records.{end_of}
use Rattle.lines.specs.Lines.{bad_text}
use Rattle.desk.specs.declared.input.Input.{Input}

abbrev pub unread : Input → List ℕ
unread i = take (i.to - i.from) (drop i.from i.bytes)

-- what was unread still is, in front of what was read since
abbrev pub Kept : Input → Input → Type 0
Kept i j = take (i.to - i.from) (unread j) ≡ unread i

-- bytes are left over, too few for a record, and no bad record has ended the run
unfoldable pub is_cut : Bool → ℕ → ℕ → List ℕ → Bool
is_cut ended from to b = both (not ended) (both (nat_lt from to) (not (is_some (end_of from to b))))

abbrev pub cut_text : ℕ → Bool → List ℕ
cut_text count cut = pick cut (bad_text count) []
