-- `sends::clean` meets its contract. The invariant is `Along`, and each way out of a turn one law of `Laws`. Assumes nothing.
use Rattle.rules.specs.Account.{waiting}
use Rattle.sends.specs.Lent.{cleaning_as}
use Rattle.sends.proofs.Laws.{Along}
use Rattle.sends.proofs.clean.Given as goal

abbrev pub invariant-loop-last : goal.invariant-loop-last
invariant-loop-last l =
    Along l.batch l.ring l.sent l.q l.tx (cleaning_as l.initial.stack l.depth l.initial.hands l.clean) (cleaning_as l.stack l.deep l.hands l.first)

abbrev pub decreases-loop-last : goal.decreases-loop-last
decreases-loop-last l = waiting l.tx l.first
