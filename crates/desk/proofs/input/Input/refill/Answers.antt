-- `refill` meets its contract: the unread bytes go to the front, and what is read goes behind them. Assumes nothing.
use Rattle.std.proofs.Common.{sym, ◌∙◌, arith}
use Rattle.std.proofs.lemmas.Result.{err_from_is_err_and}
use Rattle.desk.proofs.Front.{kept, kept-before}
use Rattle.desk.proofs.input.Input.refill.Goals as goal

pub returns-in_err-got-clause-err : goal.returns-in_err-got-clause-err
returns-in_err-got-clause-err g c =
    let moved = c.move_to_front.new.self in
    let p = err_from_is_err_and c.from_residual.result c.from_residual.ensures.1 in
    rw p.1 (kept moved.bytes c.read_full.new.part moved.from moved.to _ c.move_to_front.ensures.rest.0 (omega arith) ∙ c.move_to_front.ensures.kept)

pub returns-clause-ok : goal.returns-clause-ok
returns-clause-ok g c =
    let moved = c.move_to_front.new.self in
    let front = c.move_to_front.ensures.rest in
    kept-before moved.bytes c.read_full.new.part moved.from moved.to _ front.0 (omega arith) _ c.in_ok-got.got (sym front.1)
    ∙ c.move_to_front.ensures.kept
