-- `put` meets its contract: the number's digits and the byte behind them stand behind what was gathered. Assumes nothing.
use mathlib.Core.Path.{◌≡◌, ◌∙◌}
use mathlib.Core.List.{[], ◌∷◌}
use native.Mathlib.Omega.{arith}
use lib.ListN.{take}
use Rattle.lines.specs.Lines.{spelled}
use Rattle.lines.specs.Out.{gathered}
use Rattle.lines.proofs.Text.{joined}
use Rattle.lines.proofs.Width.{spells}
use Rattle.lines.proofs.Out.put.Goals as goal

pub returns-clause-text : goal.returns-clause-text
returns-clause-text c =
    let args = c.args in
    let digits = c.decimal-digits in
    let digits_spell : take digits.result digits.new.out ≡ spelled args.n =
    digits.ensures.digits ∙ spells args.n digits.result (omega arith) digits.ensures.len in
    joined (gathered args.self.now) (spelled args.n) (args.behind ∷ []) (rw digits_spell at c.put_text.ensures.text) c.put_text-2.ensures.text
