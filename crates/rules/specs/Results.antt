-- How a call's result, with the account that it leaves, says all that the call answers. A refusal answers no handle, no count and no tail.
use Rattle.std.specs.Prelude.{ℕ, Result, Ok, Err, Option, Some, None, replicate}
use Rattle.limits.specs.Limits.{SENDS}
use Rattle.refusals.specs.declared.Refusal.{Refusal}
use Rattle.pool.specs.declared.Handle.{Handle}
use Rattle.rules.specs.declared.Stop.{Stop}
use Rattle.rules.specs.declared.Account.{Account}
use Rattle.rules.specs.declared.Counts as counts
use Rattle.rules.specs.declared.Received as received
use Rattle.rules.specs.declared.Sent as sent
use Rattle.rules.specs.Verdict.{Verdict, Done, Refused}
use Rattle.rules.specs.Ended as ended
use Rattle.rules.specs.Found.{Found, Nothing, Frame}
use Rattle.rules.specs.Tail.{Tail, Unwritten, Written}
use Rattle.rules.specs.Answers.{Kept, Taken, Batch, Truncated, Counts, Started, Received, Sent}
use Rattle.rules.specs.Handles.{no_handle}
use Rattle.rules.specs.Account.{no_account}

-- done, or refused and why
abbrev pub says : {A : Type 0} → Result A Refusal → Verdict
says (Ok answer) = Done
says (Err why) = Refused why

abbrev pub found_as : Result ℕ Stop → Found
found_as (Ok len) = Frame len
found_as (Err reason) = Nothing reason

abbrev pub tail_as : Option ℕ → Tail
tail_as None = Unwritten
tail_as (Some slot) = Written slot

abbrev pub fresh_as : Result Account Refusal → Kept
fresh_as (Ok a) = record { verdict = Done; account = a }
fresh_as (Err why) = record { verdict = Refused why; account = no_account }

abbrev pub counts_as : Result counts.Counts Refusal → Counts
counts_as (Ok c) = record { verdict = Done; free = c.free; receive = c.receive; send = c.send; out = c.out }
counts_as (Err why) = record { verdict = Refused why; free = 0; receive = 0; send = replicate SENDS 0; out = 0 }

abbrev pub taken_as : Result Handle Refusal → Account → Taken
taken_as (Ok h) a = record { verdict = Done; handle = h; account = a }
taken_as (Err why) a = record { verdict = Refused why; handle = no_handle; account = a }

abbrev pub batch_as : Result ℕ Refusal → Account → Batch
batch_as (Ok count) a = record { verdict = Done; count = count; account = a }
batch_as (Err why) a = record { verdict = Refused why; count = 0; account = a }

abbrev pub kept_as : {A : Type 0} → Result A Refusal → Account → Kept
kept_as r a = record { verdict = says r; account = a }

-- a refused truncate gives the handle back as it was
abbrev pub truncated_as : Result Handle Refusal → Handle → Truncated
truncated_as (Ok h) given = record { verdict = Done; handle = h }
truncated_as (Err why) given = record { verdict = Refused why; handle = given }

abbrev pub start_as : Result ℕ Refusal → Account → Started
start_as (Ok slot) a = record { verdict = Done; tail = Written slot; account = a }
start_as (Err why) a = record { verdict = Refused why; tail = Unwritten; account = a }

abbrev pub receive_as : Result received.Received Refusal → Account → Received
receive_as (Ok r) a = record { ended = ended.Stopped r.stop; count = r.count; tail = tail_as r.tail; account = a }
receive_as (Err why) a = record { ended = ended.Refused why; count = 0; tail = Unwritten; account = a }

abbrev pub send_as : Result sent.Sent Refusal → Account → Sent
send_as (Ok s) a = record { verdict = Done; count = s.count; tail = Written s.tail; account = a }
send_as (Err why) a = record { verdict = Refused why; count = 0; tail = Unwritten; account = a }
