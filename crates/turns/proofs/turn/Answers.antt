-- `turns::turn` meets its contract: a bad record, a fresh account, what the card does, and a call. Assumes nothing.
use mathlib.Core.Path.{sym, ap, ◌∙◌}
use lib.Dec.{eqb}
use Rattle.std.specs.Prelude.{Some}
use Rattle.records.specs.declared.Record.TheVariants.{Fresh, Card, Call}
use Rattle.records.specs.Card.{Rings}
use Rattle.tally.specs.Tally.{Answer, memory_as, fresh_answer}
use Rattle.stream.specs.Bench.{bench_as, Outcome}
use Rattle.turns.specs.Turns.{stand_as, Turn, line_of, seen}
use Rattle.turns.proofs.Turning.{is-zero, bad-turn, fresh-turn, card-turn, call-turn}
use Rattle.turns.proofs.turn.Goals as goal

-- ---- a bad record

pub returns-in_err-what-clause-line : goal.returns-in_err-what-clause-line
returns-in_err-what-clause-line c =
    c.from_residual.ensures ∙ sym (ap seen (bad-turn c.args.rest.now c.args.addresses.now _ c.decode.ensures c.in_err-what.ensures.way))

pub returns-in_err-what-clause-left : goal.returns-in_err-what-clause-left
returns-in_err-what-clause-left c =
    sym (ap (λ (t : Turn). t.left) (bad-turn c.args.rest.now c.args.addresses.now _ c.decode.ensures c.in_err-what.ensures.way))

-- ---- a fresh account

pub returns-in-Fresh-clause-line : goal.returns-in-Fresh-clause-line
returns-in-Fresh-clause-line c =
    let t = fresh-turn c.args.rest.now c.args.addresses.now _ c.decode.ensures c.in_ok-what.ensures.admitted c.in_ok-what.ensures.way c.in-Fresh.is in
    let r = Some (Fresh c.in-Fresh.entries c.in-Fresh.size c.in-Fresh.sends) in
    let fresh = fresh_answer c.in-Fresh.entries c.in-Fresh.size c.in-Fresh.sends in
    ap Some (c.line_of.ensures fresh.account ∙ ap (line_of r) c.fresh-answer.ensures.answer) ∙ sym (ap seen t)

pub returns-in-Fresh-clause-left : goal.returns-in-Fresh-clause-left
returns-in-Fresh-clause-left c =
    let t = fresh-turn c.args.rest.now c.args.addresses.now _ c.decode.ensures c.in_ok-what.ensures.admitted c.in_ok-what.ensures.way c.in-Fresh.is in
    let begun = c.is_ok.ensures.value ∙ (is-zero c.fresh-answer.result.outcome ∙ ap (λ (a : Answer). eqb a.number 0) c.fresh-answer.ensures.answer) in
    rw (begun, c.fresh-answer.ensures.leaves) (sym (ap (λ (t : Turn). t.left) t))

-- ---- what the card does: the account answers 0, and stays

pub returns-in-Card-clause-line : goal.returns-in-Card-clause-line
returns-in-Card-clause-line c =
    let t = card-turn c.args.rest.now c.args.addresses.now _ c.decode.ensures c.in_ok-what.ensures.admitted c.in_ok-what.ensures.way c.in-Card.is in
    ap Some (c.line_of-in-Card.ensures c.args.account.now ∙ ap (line_of (Some (Card c.in-Card.event))) c.answered.ensures) ∙ sym (ap seen t)

pub returns-in-Card-clause-left : goal.returns-in-Card-clause-left
returns-in-Card-clause-left c =
    let t = card-turn c.args.rest.now c.args.addresses.now _ c.decode.ensures c.in_ok-what.ensures.admitted c.in_ok-what.ensures.way c.in-Card.is in
    let h = c.args in
    ap (λ (w : Rings). stand_as h.begun.now (bench_as h.account.now w.rx w.tx (memory_as h.offsets.now h.lengths.now))) c.on_card.ensures
    ∙ sym (ap (λ (t : Turn). t.left) t)

-- ---- a call on the account

pub returns-in-Call-clause-line : goal.returns-in-Call-clause-line
returns-in-Call-clause-line c =
    let t = call-turn c.args.rest.now c.args.addresses.now _ c.decode.ensures c.in_ok-what.ensures.admitted c.in_ok-what.ensures.way c.in-Call.is in
    let told = ap (λ (o : Outcome). line_of (Some (Call c.in-Call.call)) o.answer) c.on_call-answer.ensures.answer in
    ap Some (c.line_of-in-Call.ensures c.on_call-answer.new.account ∙ told) ∙ sym (ap seen t)

pub returns-in-Call-clause-left : goal.returns-in-Call-clause-left
returns-in-Call-clause-left c =
    let t = call-turn c.args.rest.now c.args.addresses.now _ c.decode.ensures c.in_ok-what.ensures.admitted c.in_ok-what.ensures.way c.in-Call.is in
    ap (λ (o : Outcome). stand_as c.args.begun.now (bench_as o.answer.account o.rx o.tx o.memory)) c.on_call-answer.ensures.answer
    ∙ sym (ap (λ (t : Turn). t.left) t)
