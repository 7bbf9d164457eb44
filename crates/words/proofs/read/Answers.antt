-- `words::read` meets its contract: the word's bytes, with zeros behind them, are eight bytes of the same number. Assumes nothing.
use Rattle.std.proofs.Common.{◌≡◌, ◌+◌, ◌-◌, ◌∙◌, arith}
use Rattle.words.proofs.Bytes.{from_le_bytes-le_at}
use Rattle.words.proofs.Laws.{le_below}
use Rattle.words.proofs.read.Goals as goal

pub returns-clause-value : goal.returns-clause-value
returns-clause-value c =
    let long : c.args.at + c.args.width - c.args.at ≡ c.args.width = omega arith in
    c.from_le_bytes.ensures
    ∙ rw (c.copy_from_slice.ensures.after, long) (from_le_bytes-le_at c.args.width c.args.at c.args.s.now c.requires.1 c.requires.0)

pub returns-clause-fits : goal.returns-clause-fits
returns-clause-fits c =
    rw (returns-clause-value c) (le_below c.args.width c.args.at c.args.s.now (λ i. omega (arith, c.type_inv.s i)))
