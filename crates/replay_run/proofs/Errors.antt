-- What holds, holds too where a call ended in an error.
use Rattle.std.proofs.Common.{OnErr, Result, Ok, Err}

pub OnErr-of : {A E : Type 0} {P : Type 0} (r : Result A E) → P → OnErr r P
OnErr-of (Ok x) p = tt
OnErr-of (Err e) p = p
