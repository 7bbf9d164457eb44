-- A record's turn, by what the record is, if it may come.
use Prim.Native.Nat.{ℕ}
use mathlib.Core.Path.{◌≡◌, refl, sym, ◌∙◌}
use mathlib.Core.Bool.{Bool, true, false}
use mathlib.Core.List.{List}
use lib.Dec.{eqb}
use native.Mathlib.Omega.{arith}
use borrow.Author.Tests.{ne_eqb}
use Rattle.std.specs.Prelude.{Option, Some, None, Result, Ok, Err, is_ok}
use Rattle.laws.specs.Test.{pick}
use Rattle.refusals.specs.declared.Refusal.{Refusal}
use Rattle.rules.specs.Numbers.{number}
use Rattle.rules.specs.Results.{says}
use Rattle.calls.proofs.Parts.{not-zero}
use Rattle.records.specs.declared.Record.{Record}
use Rattle.records.specs.declared.Record.TheVariants.{Fresh, Card, Call}
use Rattle.records.specs.declared.Event.{Event}
use Rattle.records.specs.declared.Call as call
use Rattle.records.specs.Records.{record_of, way_of, admitted, shape}
use Rattle.records.specs.Card.{card_as, event_rule}
use Rattle.tally.specs.Tally.{fresh_answer}
use Rattle.stream.specs.Bench.{call_rule}
use Rattle.turns.specs.Turns.{Stand, turn_as, quiet_line, opened_by, fresh_turn, card_turn, account_turn, way_turn, turn_rule}

-- an answer is no refusal where its number is 0
pub is-zero : (r : Result ℕ Refusal) → is_ok r ≡ eqb (number (says r)) 0
is-zero (Ok value) = refl
is-zero (Err why) = sym (ne_eqb _ 0 (not-zero why))

-- a record that may come is the one that was read
picked-some : {r : Option Record} {w : Record} (test : Bool) → Some w ≡ pick test r None → r ≡ Some w
picked-some true e = sym e
picked-some false e = grind arith

came : (begun : Bool) (queues : ℕ) {r : Option Record} {w : Record} → Some w ≡ admitted begun queues r → r ≡ Some w
came true queues e = picked-some _ e
came false queues e = picked-some _ e

-- by what is done with it
by_way : (b addresses : List ℕ) (s : Stand) (r : Option Record) → shape r ≡ way_of s.begun s.state.account.sends (record_of b)
    → turn_rule b addresses s ≡ way_turn (shape r) (record_of b) b addresses s
unfolding turn_rule
by_way b addresses s r way = rw way

module _ (b addresses : List ℕ) (s : Stand) {d : Option Record} (read : d ≡ record_of b) where
  pub bad-turn : shape None ≡ way_of s.begun s.state.account.sends d → turn_rule b addresses s ≡ turn_as false (quiet_line (record_of b) s.state.account) s
  bad-turn way = by_way b addresses s None (rw read at way)

  module _ {r : Record} (may : Some r ≡ admitted s.begun s.state.account.sends d) (way : shape (Some r) ≡ way_of s.begun s.state.account.sends d) where
    turned : turn_rule b addresses s ≡ way_turn (shape (Some r)) (Some r) b addresses s
    turned =
        let e : record_of b ≡ Some r = sym read ∙ came s.begun s.state.account.sends may in
        by_way b addresses s (Some r) (rw read at way) ∙ rw e refl

    pub fresh-turn : {entries size sends : ℕ} → r ≡ Fresh entries size sends
        → turn_rule b addresses s ≡ fresh_turn (opened_by (Some (Fresh entries size sends)) (fresh_answer entries size sends) s.state.account) s.state
    fresh-turn e = turned ∙ rw e refl

    pub card-turn : {event : Event} → r ≡ Card event
        → turn_rule b addresses s ≡ card_turn (Some (Card event)) (event_rule event (card_as s.state.rx s.state.tx)) s
    card-turn e = turned ∙ rw e refl

    pub call-turn : {what : call.Call} → r ≡ Call what → turn_rule b addresses s ≡ account_turn (Some (Call what)) (call_rule what b addresses s.state) s.begun
    call-turn e = turned ∙ rw e refl
