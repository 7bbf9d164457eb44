-- What holds between two records, and why it holds after one more.
use Prim.Native.Nat.{ℕ, suc, ◌+◌, ◌-◌, ◌^◌, ◌≤◌, ◌<◌}
use mathlib.Core.Path.{◌≡◌, refl, ap, ◌∙◌}
use mathlib.Core.Bool.{Bool, true, false, not}
use mathlib.Core.List.{List, ◌++◌}
use lib.ListN.{length}
use lib.Dec.{ltb, leb}
use Rattle.std.specs.Prelude.{Some, None, is_some}
use native.Mathlib.Omega.{arith}
use borrow.Author.Tests.{ltb-true, leb-true, not-true}
use Rattle.laws.specs.Test.{pick, both}
use Rattle.laws.proofs.Test.{both_left, both_right}
use Rattle.rules.specs.Handles.{Handles}
use Rattle.rules.specs.Sound.{sound}
use Rattle.records.specs.Records.{end_of}
use Rattle.stream.specs.Bench.{State, Bench}
use Rattle.lines.specs.declared.Line.{Line}
use Rattle.lines.specs.Lines.{LINE, text_of, shown_text}
use Rattle.turns.specs.Turns.{Stand, Turn, seen, Ran, rest_of, shown, turn_rule, ran_one, ran, goes_on}

abbrev placed : ℕ → ℕ → Bool → List ℕ → Stand → Ran
placed from count ended text stand = record { from = from; count = count; ended = ended; text = text; stand = stand }

-- lists of handles as long as others
pub record Same (l k : Handles) : Type 0 where
  pub pools : length l.pools ≡ length k.pools
  pub ids : length l.ids ≡ length k.ids
  pub offsets : length l.offsets ≡ length k.offsets
  pub lengths : length l.lengths ≡ length k.lengths

pub same : (l : Handles) → Same l l
same l = record { pools = refl; ids = refl; offsets = refl; lengths = refl }

pub same_more : {l k j : Handles} → Same l k → Same k j → Same l j
same_more a b = record { pools = a.pools ∙ b.pools; ids = a.ids ∙ b.ids; offsets = a.offsets ∙ b.offsets; lengths = a.lengths ∙ b.lengths }

-- what holds between two records
pub record Serving (buffer addresses : List ℕ) (to : ℕ) (first now : Ran) (out₀ out : List ℕ) (at : ℕ) (lists₀ lists : Handles) : Type 0 where
  pub shown : now ≡ ran (now.count - first.count) to buffer addresses first
  pub more : first.count ≤ now.count
  pub onward : first.from ≤ now.from
  pub held : now.from ≤ to
  pub gathered : at ≤ length out
  pub room : length out ≡ length out₀
  pub good : sound now.stand.state.account ≡ true
  pub bench : Bench now.stand.state addresses lists
  pub kept : Same lists lists₀

-- ---- one more record

-- one is looked at only where no bad one has ended the run, its number is a u64, and its line has room
pub goes_on-holds : (ended : Bool) (count at room : ℕ) → goes_on ended count at room ≡ true → (ended ≡ false) × (count < 2 ^ 64 - 1) × (LINE ≤ room - at)
unfolding goes_on
goes_on-holds ended count at room e =
    let rest = both_right (not ended) (both (ltb count (2 ^ 64 - 1)) (leb LINE (room - at))) e in (
      not-true ended (both_left (not ended) (both (ltb count (2 ^ 64 - 1)) (leb LINE (room - at))) e),
      ltb-true count (2 ^ 64 - 1) (both_left (ltb count (2 ^ 64 - 1)) (leb LINE (room - at)) rest),
      leb-true LINE (room - at) (both_right (ltb count (2 ^ 64 - 1)) (leb LINE (room - at)) rest),
    )

-- what is lent keeps its lengths
pub bench-kept : {addresses : List ℕ} {s left : State} {lists lists' : Handles} → length left.rx ≡ length s.rx → length left.tx ≡ length s.tx
    → length left.memory.offsets ≡ length s.memory.offsets → length left.memory.lengths ≡ length s.memory.lengths → Same lists' lists
    → Bench s addresses lists → Bench left addresses lists'
bench-kept rx tx offsets lengths kept bench =
    record {
      rx = rx ∙ bench.rx;
      tx = tx ∙ bench.tx;
      offsets = offsets ∙ bench.offsets;
      lengths = lengths ∙ bench.lengths;
      known = bench.known;
      room = record {
        pools = omega (arith, kept.pools, bench.room.pools);
        ids = omega (arith, kept.ids, bench.room.ids);
        offsets = omega (arith, kept.offsets, bench.room.offsets);
        lengths = omega (arith, kept.lengths, bench.room.lengths);
      };
    }

-- the line of a turn, and whether it ends the run
shown-line : (count : ℕ) (good : Bool) (line : Line) → shown_text count (pick good (Some line) None) ≡ text_of count good line
shown-line count true line = refl
shown-line count false line = refl

pub ends-run : (good : Bool) (line : Line) (ended : Bool) → is_some (pick good (Some line) None) ≡ not ended → ended ≡ not good
ends-run true line true e = e
ends-run true line false e = refl
ends-run false line true e = refl
ends-run false line false e = e

-- what a record's turn and its line leave
pub shown-as : (w : Ran) (end : ℕ) (t : Turn) {ended : Bool} {text : List ℕ} {left : Stand} → ended ≡ not t.good
    → text ≡ w.text ++ shown_text w.count (seen t) → left ≡ t.left
    → placed end (w.count + 1) ended text left ≡ shown end t w
shown-as w end t e f g = rw (e, f, g, shown-line w.count t.good t.line)

-- a record that is whole is shown
pub one_more : (to : ℕ) (b addresses : List ℕ) (w : Ran) {end : ℕ} → w.ended ≡ false → Some end ≡ end_of w.from to b
    → shown end (turn_rule (rest_of w.from end b) addresses w.stand) w ≡ ran_one to b addresses w
unfolding ran_one
one_more to b addresses w going whole = rw (← whole, going)

-- no record yet
pub no_more : (to : ℕ) (b addresses : List ℕ) (w : Ran) → w ≡ ran (w.count - w.count) to b addresses w
unfolding ran
no_more to b addresses w = let none : w.count - w.count ≡ 0 = omega arith in rw none

-- so many records, and one more
pub after_more : (to : ℕ) (b addresses : List ℕ) (first w next : Ran) → first.count ≤ w.count → next.count ≡ w.count + 1
    → w ≡ ran (w.count - first.count) to b addresses first → next ≡ ran_one to b addresses w
    → next ≡ ran (next.count - first.count) to b addresses first
unfolding ran
after_more to b addresses first w next less one e step =
    let k : next.count - first.count ≡ suc (w.count - first.count) = omega arith in
    step ∙ (ap (ran_one to b addresses) e ∙ rw k)
