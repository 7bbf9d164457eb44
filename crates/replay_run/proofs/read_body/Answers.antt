-- `replay_run::read_body`: the bytes that were read before an error are the first of the buffer, and no more than were asked for.
use Rattle.std.proofs.Common.{◌≡◌, ℕ, List, ◌++◌, length, take, min, arith, subst, sym, ◌∙◌, Option}
use Rattle.std.proofs.lemmas.List.{take-append-le, take_min}
use Rattle.std.specs.Io.KnownBytes.{Consumes}
use Rattle.replay_run.proofs.Errors.{OnErr-of}
use Rattle.replay_run.proofs.read_body.Goals as goal

-- the first of a part are the first of what begins with it
Consumes-first : (a b : Option (List ℕ)) (part rest : List ℕ) → ((x : ℕ) × Consumes a b (take x part)) → ((x : ℕ) × Consumes a b (take x (part ++ rest)))
Consumes-first a b part rest h =
    let count = min h.0 (length part) in
    let same : take count (part ++ rest) ≡ take h.0 part = take-append-le count part rest (omega arith) ∙ take_min h.0 part in
    (count, subst (Consumes a b) (sym same) h.1)

pub returns-in_err-got-clause-err : goal.returns-in_err-got-clause-err
returns-in_err-got-clause-err g c =
    OnErr-of c.from_residual.result (Consumes-first _ _ c.read_full.new.part _ c.in_err-got.ensures.err)
