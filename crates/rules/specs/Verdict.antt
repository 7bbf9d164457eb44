-- What a call says of itself: done, or refused and why.
use Rattle.refusals.specs.declared.Refusal.{Refusal}

pub data Verdict : Type 0 where
  Done : Verdict
  Refused : Refusal → Verdict
