-- What a receive says of itself: stopped or refused, and why.
use Rattle.refusals.specs.declared.Refusal.{Refusal}
use Rattle.rules.specs.declared.Stop.{Stop}

pub data Ended : Type 0 where
  Stopped : Stop → Ended
  Refused : Refusal → Ended
