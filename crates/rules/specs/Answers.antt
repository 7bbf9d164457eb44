-- All that a call answers, refusals too, with the account that it leaves: the rules speak of these. Results.antt has how a call's result says it.
use Rattle.std.specs.Prelude.{ℕ, List}
use Rattle.pool.specs.declared.Handle.{Handle}
use Rattle.rules.specs.declared.Account.{Account}
use Rattle.rules.specs.Verdict.{Verdict}
use Rattle.rules.specs.Ended.{Ended}
use Rattle.rules.specs.Tail.{Tail}

-- fresh, and release
pub record Kept : Type 0 where
  pub verdict : Verdict
  pub account : Account

-- one packet, and a clone
pub record Taken : Type 0 where
  pub verdict : Verdict
  pub handle : Handle
  pub account : Account

pub record Batch : Type 0 where
  pub verdict : Verdict
  pub count : ℕ
  pub account : Account

pub record Truncated : Type 0 where
  pub verdict : Verdict
  pub handle : Handle

-- how many buffers each hand has
pub record Counts : Type 0 where
  pub verdict : Verdict
  pub free : ℕ
  pub receive : ℕ
  pub send : List ℕ
  pub out : ℕ

pub record Started : Type 0 where
  pub verdict : Verdict
  pub tail : Tail
  pub account : Account

pub record Received : Type 0 where
  pub ended : Ended
  pub count : ℕ
  pub tail : Tail
  pub account : Account

pub record Sent : Type 0 where
  pub verdict : Verdict
  pub count : ℕ
  pub tail : Tail
  pub account : Account
