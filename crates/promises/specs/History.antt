-- A history: a fresh account that answered 0, and then any public calls with any arguments, each given the account that the last one
-- returned, with any bytes in what it is lent (the card writes what it likes between calls), refused calls too. A call's outcome is
-- whatever satisfies that call's own postcondition: proofs/Results.antt has that each call's Result is such a step.
use Rattle.std.specs.Prelude.{ℕ, ◌≡◌, List, length}
use Rattle.pool.specs.declared.Handle.{Handle}
use Rattle.rules.specs.declared.Account.{Account}
use Rattle.rules.specs.Answers.{Batch, Counts, Kept, Received, Sent, Started, Taken, Truncated}
use Rattle.rules.specs.Verdict.{Verdict, Done}
use Rattle.rules.specs.Numbers.{verdict_of}
use Rattle.rules.specs.Handles.{Handles}
use Rattle.rules.specs.Refusals.{view_verdict, headroom_verdict}
use Rattle.rules.specs.Packets.{fresh_call, counts_call, take_call, batched, batch_call, release_call, truncate_call, cloned_as, clone_call, Lent, view_call, headroom_call}
use Rattle.rules.specs.Receive.{started_as, start_call, received_as, receive_call}
use Rattle.rules.specs.Send.{sent_as, send_call}

-- a call on an account, and the account after it
pub data Step (a : Account) : Account → Type 0 where
  counts : (r : Counts) → r ≡ counts_call a → Step a a
  take : (len : ℕ) (r : Taken) → r ≡ take_call a len → Step a r.account
  batch : (n len : ℕ) (lists after : Handles) (r : Batch) → batched r after ≡ batch_call a n len lists → Step a r.account
  release : (h : Handle) (r : Kept) → r ≡ release_call a h → Step a r.account
  truncate : (h : Handle) (len : ℕ) (r : Truncated) → r ≡ truncate_call a h len → Step a a
  clone : (h : Handle) (memory after : List ℕ) (r : Taken) → cloned_as r after ≡ clone_call a h memory → Step a r.account
  view : (h : Handle) (memory part : Lent) → part ≡ view_call a h memory → Step a a
  headroom : (h : Handle) (asked : ℕ) (memory part : Lent) → part ≡ headroom_call a h asked memory → Step a a
  start : (q : ℕ) (ring addresses after : List ℕ) (r : Started) → started_as r after ≡ start_call a q ring addresses → Step a r.account
  receive : (q : ℕ) (ring addresses : List ℕ) (n : ℕ) (lists : Handles) (after : List ℕ) (filled : Handles) (r : Received)
      → received_as r after filled ≡ receive_call a q ring addresses n lists → Step a r.account
  send : (q : ℕ) (ring addresses : List ℕ) (lists : Handles) (after : List ℕ) (r : Sent) → sent_as r after ≡ send_call a q ring addresses lists → Step a r.account

pub data History : Account → Type 0 where
  fresh : (pool entries size receives sends : ℕ) (r : Kept) → r ≡ fresh_call pool entries size receives sends → r.verdict ≡ Done → History r.account
  call : {a b : Account} → History a → Step a b → History b

-- what a call's answer says of itself; a view's and a headroom's number comes from the call beside it
abbrev pub verdict_by : {a b : Account} → Step a b → Verdict
verdict_by (counts r e) = r.verdict
verdict_by (take len r e) = r.verdict
verdict_by (batch n len lists after r e) = r.verdict
verdict_by (release h r e) = r.verdict
verdict_by (truncate h len r e) = r.verdict
verdict_by (clone h memory after r e) = r.verdict
verdict_by {a} (view h memory part e) = view_verdict a h (length memory.bytes)
verdict_by {a} (headroom h asked memory part e) = headroom_verdict a h asked (length memory.bytes)
verdict_by (start q ring addresses after r e) = r.verdict
verdict_by (receive q ring addresses n lists after filled r e) = verdict_of r.ended
verdict_by (send q ring addresses lists after r e) = r.verdict
