-- Document 01, "The bench program": what a record answers and leaves on the bench's state. What an answer holds, and what a take and a release
-- answer, stands in `tally`.
use Rattle.std.specs.Prelude.{ℕ, zero, suc, ◌+◌, ◌*◌, ◌≡◌, List, ◌++◌, map, length, get_or, take, drop, replicate, ltb}
use Rattle.limits.specs.Limits.{ENTRIES, SLOTS, RING-BYTES}
use Rattle.laws.specs.Test.{pick}
use Rattle.laws.specs.Occurs.{up_from}
use Rattle.words.specs.Le.{le_at}
use Rattle.rules.specs.declared.Account.{Account}
use Rattle.rules.specs.Numbers.{number, verdict_of, tail_or}
use Rattle.rules.specs.Handles.{Handles, handles, Room}
use Rattle.rules.specs.Receive.{AfterStart, start_call, AfterReceive, receive_call}
use Rattle.rules.specs.Send.{AfterSend, send_call}
use Rattle.std.specs.Prelude.{Option, Some, None}
use Rattle.records.specs.declared.Record.{Record}
use Rattle.records.specs.declared.Record.TheVariants as kind
use Rattle.records.specs.declared.Call.{Call}
use Rattle.records.specs.declared.Call.TheVariants.{Start, Take, Release, Receive, Send}
use Rattle.records.specs.Records.{MOST}
use Rattle.records.specs.Card.{SEND-BYTES}
use Rattle.tally.specs.Tally.{Answer, POOL, Memory, last_handle, answered_as, remembered, TakeLeft, take_answer, release_answer}

-- ---- handles one after the other

-- the ids of a send's bytes, and their last handles
abbrev pub id_at : List ℕ → ℕ → ℕ
id_at b i = le_at 2 (6 + 2 * i) b

unfoldable pub send_lists : List ℕ → ℕ → Memory → Handles
send_lists b count m =
    handles
    (map (λ i. POOL) (up_from 0 count))
    (map (λ i. id_at b i) (up_from 0 count))
    (map (λ i. (last_handle m (id_at b i)).offset) (up_from 0 count))
    (map (λ i. (last_handle m (id_at b i)).length) (up_from 0 count))

-- the handles of a list, from a place on, are remembered
unfoldable pub remember_all : List ℕ → List ℕ → List ℕ → ℕ → ℕ → Memory → Memory
remember_all ids offsets lengths i zero m = m
remember_all ids offsets lengths i (suc n) m =
    remember_all ids offsets lengths (i + 1) n (remembered (get_or ids i 0) (get_or offsets i 0) (get_or lengths i 0) m)

-- ---- records on the rings

-- start: the value is the tail
pub record StartLeft : Type 0 where
  pub answer : Answer
  pub rx : List ℕ

abbrev pub start_answered : Answer → List ℕ → StartLeft
start_answered answer rx = record { answer = answer; rx = rx }

abbrev pub start_from : AfterStart → StartLeft
start_from s = start_answered (answered_as (number s.answer.verdict) (tail_or 0 s.answer.tail) s.answer.account) s.ring

unfoldable pub start_answer : Account → List ℕ → List ℕ → StartLeft
start_answer a rx addresses = start_from (start_call a 0 rx addresses)

-- receive: the value is the count, and each handle is remembered
pub record ReceiveLeft : Type 0 where
  pub answer : Answer
  pub rx : List ℕ
  pub memory : Memory

abbrev pub receive_answered : Answer → List ℕ → Memory → ReceiveLeft
receive_answered answer rx memory = record { answer = answer; rx = rx; memory = memory }

abbrev pub receive_from : AfterReceive → Memory → ReceiveLeft
receive_from r m =
    receive_answered
    (answered_as (number (verdict_of r.answer.ended)) r.answer.count r.answer.account)
    r.ring
    (remember_all r.lists.ids r.lists.offsets r.lists.lengths 0 r.answer.count m)

-- lists that hold nothing: what those of the bench held before does not matter
unfoldable pub no_handles : Handles
no_handles = handles (replicate SLOTS 0) (replicate SLOTS 0) (replicate SLOTS 0) (replicate SLOTS 0)

unfoldable pub receive_answer : Account → ℕ → List ℕ → List ℕ → Memory → ReceiveLeft
receive_answer a n rx addresses m = receive_from (receive_call a 0 rx addresses n no_handles) m

-- send: the value is the count. No such queue is 3
pub record SendLeft : Type 0 where
  pub answer : Answer
  pub tx : List ℕ

abbrev pub send_answered : Answer → List ℕ → SendLeft
send_answered answer tx = record { answer = answer; tx = tx }

-- a queue's ring, and the rings with another in its place
abbrev pub ring_of : ℕ → List ℕ → List ℕ
ring_of queue tx = take RING-BYTES (drop (queue * RING-BYTES) tx)

abbrev pub with_ring : ℕ → List ℕ → List ℕ → List ℕ
with_ring queue ring tx = take (queue * RING-BYTES) tx ++ (ring ++ drop RING-BYTES (drop (queue * RING-BYTES) tx))

abbrev pub send_from : ℕ → AfterSend → List ℕ → SendLeft
send_from queue s tx =
    send_answered (answered_as (number s.answer.verdict) s.answer.count s.answer.account) (with_ring queue s.ring tx)

unfoldable pub send_answer : Account → ℕ → Handles → List ℕ → List ℕ → SendLeft
send_answer a queue lists addresses tx =
    pick (ltb queue a.sends)
    (send_from queue (send_call a queue (ring_of queue tx) addresses lists) tx)
    (send_answered (answered_as 3 0 a) tx)

-- ---- a record on the bench's state

pub record State : Type 0 where
  pub account : Account
  pub rx : List ℕ
  pub tx : List ℕ
  pub memory : Memory

abbrev pub bench_as : Account → List ℕ → List ℕ → Memory → State
bench_as a rx tx m = record { account = a; rx = rx; tx = tx; memory = m }

-- what the bench lends has its lengths
pub record Bench (s : State) (addresses : List ℕ) (lists : Handles) : Type 0 where
  pub rx : length s.rx ≡ RING-BYTES
  pub tx : length s.tx ≡ SEND-BYTES
  pub offsets : length s.memory.offsets ≡ ENTRIES
  pub lengths : length s.memory.lengths ≡ ENTRIES
  pub known : length addresses ≡ ENTRIES
  pub room : Room MOST lists

-- all that a record leaves
pub record Outcome : Type 0 where
  pub answer : Answer
  pub rx : List ℕ
  pub tx : List ℕ
  pub memory : Memory

abbrev pub outcome_as : Answer → List ℕ → List ℕ → Memory → Outcome
outcome_as answer rx tx memory = record { answer = answer; rx = rx; tx = tx; memory = memory }

-- a record that has nothing to do with the account
abbrev pub quiet : State → Outcome
quiet s = outcome_as (answered_as 0 0 s.account) s.rx s.tx s.memory

-- the entries' addresses
abbrev pub each : State → List ℕ → List ℕ
each s addresses = take s.account.entries addresses

abbrev pub after_start : StartLeft → State → Outcome
after_start r s = outcome_as r.answer r.rx s.tx s.memory

abbrev pub after_take : TakeLeft → State → Outcome
after_take r s = outcome_as r.answer s.rx s.tx r.memory

abbrev pub after_receive : ReceiveLeft → State → Outcome
after_receive r s = outcome_as r.answer r.rx s.tx r.memory

abbrev pub after_send : SendLeft → State → Outcome
after_send r s = outcome_as r.answer s.rx r.tx s.memory

abbrev pub call_rule : Call → List ℕ → List ℕ → State → Outcome
call_rule Start b addresses s = after_start (start_answer s.account s.rx (each s addresses)) s
call_rule (Take size) b addresses s = after_take (take_answer s.account size s.memory) s
call_rule (Release id) b addresses s = outcome_as (release_answer s.account id s.memory) s.rx s.tx s.memory
call_rule (Receive n) b addresses s = after_receive (receive_answer s.account n s.rx (each s addresses) s.memory) s
call_rule (Send queue count) b addresses s =
    after_send (send_answer s.account queue (send_lists b count s.memory) (each s addresses) s.tx) s

-- any other record leaves the account
abbrev pub account_rule : Option Record → List ℕ → List ℕ → State → Outcome
account_rule (Some (kind.Fresh entries size sends)) b addresses s = quiet s
account_rule (Some (kind.Card event)) b addresses s = quiet s
account_rule (Some (kind.Call call)) b addresses s = call_rule call b addresses s
account_rule None b addresses s = quiet s
