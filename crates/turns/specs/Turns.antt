-- Document 01, "The bench program": a record, on the state that the records before it have left, gives a line and another state; so do the records of
-- some bytes, one after the other.
use Rattle.std.specs.Prelude.{ℕ, zero, suc, ◌+◌, ◌-◌, ◌^◌, Bool, true, false, not, Option, Some, None, List, ◌++◌, take, drop, eqb, ltb, leb}
use Rattle.laws.specs.Test.{pick, both}
use Rattle.rules.specs.declared.Account.{Account}
use Rattle.records.specs.declared.Record.{Record}
use Rattle.records.specs.Way.{Way}
use Rattle.records.specs.Way as way
use Rattle.records.specs.Records.{record_of, kind_of, way_of, end_of}
use Rattle.records.specs.Card.{Rings, card_as, card_rule}
use Rattle.tally.specs.Tally.{Answer, Memory, answered_as, fresh_rule}
use Rattle.stream.specs.Bench.{State, bench_as, Outcome, account_rule}
use Rattle.lines.specs.declared.Line.{Line}
use Rattle.lines.specs.Lines.{LINE, text_of}
use Rattle.turns.specs.declared.Run.{Run}

-- ---- a record's turn

-- the bench between two records: whether a fresh account has answered 0, and the state
pub record Stand : Type 0 where
  pub begun : Bool
  pub state : State

abbrev pub stand_as : Bool → State → Stand
stand_as begun s = record { begun = begun; state = s }

-- whether a record is good, what its line shows, and what it leaves
pub record Turn : Type 0 where
  pub good : Bool
  pub line : Line
  pub left : Stand

abbrev pub turn_as : Bool → Line → Stand → Turn
turn_as good line left = record { good = good; line = line; left = left }

-- a line: the kind, the number and the value of the answer, then what each hand has
abbrev pub line_of : Option Record → Answer → Line
line_of r a = record { kind = kind_of r; number = a.number; value = a.value; tally = a.tally }

-- a record that leaves the account as it was answers 0
abbrev pub quiet_line : Option Record → Account → Line
quiet_line r a = line_of r (answered_as 0 0 a)

-- a fresh account that answers 0 is the bench's from then on; a refused one leaves what there was
pub record Opened : Type 0 where
  pub line : Line
  pub begun : Bool
  pub account : Account

abbrev pub opened_by : Option Record → Answer → Account → Opened
opened_by r fresh a =
    record { line = line_of r fresh; begun = eqb fresh.number 0; account = pick (eqb fresh.number 0) fresh.account a }

abbrev pub fresh_turn : Opened → State → Turn
fresh_turn o s = turn_as true o.line (stand_as o.begun (bench_as o.account s.rx s.tx s.memory))

-- the card writes to the rings
abbrev pub card_turn : Option Record → Rings → Stand → Turn
card_turn r w s = turn_as true (quiet_line r s.state.account) (stand_as s.begun (bench_as s.state.account w.rx w.tx s.state.memory))

-- a call on the account
abbrev pub account_turn : Option Record → Outcome → Bool → Turn
account_turn r o begun = turn_as true (line_of r o.answer) (stand_as begun (bench_as o.answer.account o.rx o.tx o.memory))

-- by what is done with the record; a bad one changes nothing
abbrev pub way_turn : Way → Option Record → List ℕ → List ℕ → Stand → Turn
way_turn way.Bad r b addresses s = turn_as false (quiet_line r s.state.account) s
way_turn way.Fresh r b addresses s = fresh_turn (opened_by r (fresh_rule r) s.state.account) s.state
way_turn way.Card r b addresses s = card_turn r (card_rule r (card_as s.state.rx s.state.tx)) s
way_turn way.Account r b addresses s = account_turn r (account_rule r b addresses s.state) s.begun

unfoldable pub turn_rule : List ℕ → List ℕ → Stand → Turn
turn_rule b addresses s = way_turn (way_of s.begun s.state.account.sends (record_of b)) (record_of b) b addresses s

-- what is shown of a record: none if it is bad
abbrev pub seen : Turn → Option Line
seen t = pick t.good (Some t.line) None

-- ---- the records of some bytes

-- where they stand: the next record's first byte and its number, whether a bad record has ended the run, the text of the lines, and the bench
pub record Ran : Type 0 where
  pub from : ℕ
  pub count : ℕ
  pub ended : Bool
  pub text : List ℕ
  pub stand : Stand

abbrev pub ran_as : Run → List ℕ → List ℕ → List ℕ → Memory → Ran
ran_as r out rx tx m =
    record { from = r.from; count = r.count; ended = r.ended; text = take r.at out; stand = stand_as r.begun (bench_as r.account rx tx m) }

-- a record's bytes, its length taken off
abbrev pub rest_of : ℕ → ℕ → List ℕ → List ℕ
rest_of from end b = take (end - (from + 2)) (drop (from + 2) b)

-- the turn of the record that ends there, and its line
abbrev pub shown : ℕ → Turn → Ran → Ran
shown end t w =
    record { from = end; count = w.count + 1; ended = not t.good; text = w.text ++ text_of w.count t.good t.line; stand = t.left }

-- the next record, if no bad one has ended the run and it is not cut short
abbrev pub next_to : Option ℕ → List ℕ → List ℕ → Ran → Ran
next_to None b addresses w = w
next_to (Some end) b addresses w = pick w.ended w (shown end (turn_rule (rest_of w.from end b) addresses w.stand) w)

unfoldable pub ran_one : ℕ → List ℕ → List ℕ → Ran → Ran
ran_one to b addresses w = next_to (end_of w.from to b) b addresses w

-- so many records
unfoldable pub ran : ℕ → ℕ → List ℕ → List ℕ → Ran → Ran
ran zero to b addresses w = w
ran (suc n) to b addresses w = ran_one to b addresses (ran n to b addresses w)

-- one more record is looked at: no bad one has ended the run, its number is a u64, and there is room for its line
unfoldable pub goes_on : Bool → ℕ → ℕ → ℕ → Bool
goes_on ended count at room = both (not ended) (both (ltb count (2 ^ 64 - 1)) (leb LINE (room - at)))
