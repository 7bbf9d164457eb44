-- Document 01, "Receive rules": the start, what stands at a slot, and a receive.
use Rattle.std.specs.Prelude.{ℕ, zero, suc, ◌+◌, ◌-◌, ◌%◌, Bool, true, false, List, get_or, set, eqb, ltb, leb}
use Rattle.limits.specs.Limits.{SLOTS}
use Rattle.laws.specs.Test.{pick}
use Rattle.words.specs.Slots.{status_at, length_at, is_done, is_end, offered}
use Rattle.pool.specs.declared.FreeStack.{FreeStack}
use Rattle.pool.specs.declared.Handle.{Handle}
use Rattle.pool.specs.Stack.{top, popped}
use Rattle.pool.specs.Hands.{HAND-RECEIVE, HAND-OUT}
use Rattle.rules.specs.declared.Account.{Account}
use Rattle.rules.specs.declared.Stop.{Stop}
use Rattle.rules.specs.declared.Stop.TheVariants.{Asked, NotDone, Split, TooLong, NoBuffer}
use Rattle.rules.specs.Found.{Found, Nothing, Frame}
use Rattle.rules.specs.Ended as ended
use Rattle.rules.specs.Verdict.{Done, Refused}
use Rattle.rules.specs.Tail.{Tail, Unwritten, Written}
use Rattle.rules.specs.Answers.{Started, Received}
use Rattle.rules.specs.Numbers.{on_verdict}
use Rattle.rules.specs.Handles.{Handles, put_handle}
use Rattle.rules.specs.Account.{next_slot, with_receive}
use Rattle.rules.specs.Refusals.{start_verdict, receive_verdict}

-- ---- the start

-- what a start works on
pub record Filling : Type 0 where
  pub free : FreeStack
  pub hands : List ℕ
  pub slots : List ℕ
  pub ring : List ℕ

-- a slot gets the id popped, its address at bytes 0 to 8, zero at 8 to 16
unfoldable pub filled : List ℕ → ℕ → Filling → Filling
filled addresses slot w =
    record {
      free = popped w.free;
      hands = set w.hands (top w.free) HAND-RECEIVE;
      slots = set w.slots slot (top w.free);
      ring = offered slot (get_or addresses (top w.free) 0) w.ring;
    }

-- n slots from a slot on
unfoldable pub fill_rule : List ℕ → ℕ → ℕ → Filling → Filling
fill_rule addresses slot zero w = w
fill_rule addresses slot (suc n) w = fill_rule addresses (slot + 1) n (filled addresses slot w)

abbrev pub filling : Account → List ℕ → Filling
filling a ring = record { free = a.free; hands = a.hands; slots = a.slots; ring = ring }

-- all that a start leaves
pub record AfterStart : Type 0 where
  pub answer : Started
  pub ring : List ℕ

abbrev pub started_as : Started → List ℕ → AfterStart
started_as answer ring = record { answer = answer; ring = ring }

-- the tail of a full ring is its last slot
abbrev pub start_end : Account → Filling → AfterStart
start_end a w =
    record {
      answer = record { verdict = Done; tail = Written (SLOTS - 1); account = with_receive a w.free w.hands 0 w.slots };
      ring = w.ring;
    }

unfoldable pub start_call : Account → ℕ → List ℕ → List ℕ → AfterStart
start_call a q ring addresses =
    on_verdict (start_verdict a q ring addresses)
    (start_end a (fill_rule addresses 0 SLOTS (filling a ring)))
    (λ why. record { answer = record { verdict = Refused why; tail = Unwritten; account = a }; ring = ring })

-- ---- a slot

-- a test that has to hold for a frame, and the reason to stop where it doesn't
abbrev pub or_stop : Bool → Stop → Found → Found
or_stop true reason rest = rest
or_stop false reason rest = Nothing reason

-- NotDone, Split, TooLong, NoBuffer, tested in that order
abbrev pub judged : ℕ → ℕ → ℕ → ℕ → Found
judged size depth status len =
    or_stop (is_done status) NotDone
    (or_stop (is_end status) Split
    (or_stop (leb len size) TooLong
    (or_stop (ltb 0 depth) NoBuffer (Frame len))))

unfoldable pub found : ℕ → ℕ → ℕ → List ℕ → Found
found size depth slot ring = judged size depth (status_at slot ring) (length_at slot ring)

-- ---- a receive

-- what a receive works on, and how many frames it has taken
pub record Receiving : Type 0 where
  pub free : FreeStack
  pub hands : List ℕ
  pub slots : List ℕ
  pub rx : ℕ
  pub ring : List ℕ
  pub lists : Handles
  pub count : ℕ

-- the id at the slot that is looked at
abbrev pub old_id : Receiving → ℕ
old_id w = get_or w.slots w.rx 0

-- a received frame starts its entry
abbrev pub frame_of : ℕ → ℕ → ℕ → Handle
frame_of pool id len = record { pool = pool; id = id; offset = 0; length = len }

-- the slot's old id goes to the list, a popped id takes the slot, and its address and zero are written
unfoldable pub received : ℕ → List ℕ → ℕ → Receiving → Receiving
received pool addresses len w =
    record {
      free = popped w.free;
      hands = set (set w.hands (old_id w) HAND-OUT) (top w.free) HAND-RECEIVE;
      slots = set w.slots w.rx (top w.free);
      rx = next_slot w.rx;
      ring = offered w.rx (get_or addresses (top w.free) 0) w.ring;
      lists = put_handle w.lists w.count (frame_of pool (old_id w) len);
      count = w.count + 1;
    }

-- what stands at the slot that is looked at
abbrev pub next : ℕ → Receiving → Found
next size w = found size w.free.depth w.rx w.ring

-- where a receive stopped, and why
pub record Stopping : Type 0 where
  pub stop : Stop
  pub work : Receiving

-- a receive of n: Asked is looked at first
unfoldable pub receive_rule : ℕ → ℕ → List ℕ → ℕ → Receiving → Stopping
receive_rule pool size addresses zero w = record { stop = Asked; work = w }
receive_rule pool size addresses (suc n) w =
    elim (next size w) [ Nothing reason ↦ record { stop = reason; work = w } | Frame len ↦ receive_rule pool size addresses n (received pool addresses len w) ]

abbrev pub receiving : Account → List ℕ → Handles → Receiving
receiving a ring lists =
    record { free = a.free; hands = a.hands; slots = a.slots; rx = a.rx; ring = ring; lists = lists; count = 0 }

-- the slot before a slot
abbrev pub slot_before : ℕ → ℕ
slot_before slot = (slot + (SLOTS - 1)) % SLOTS

-- the tail is the last slot taken, written only if something was received
abbrev pub tail_after : ℕ → ℕ → Tail
tail_after count rx = pick (eqb count 0) Unwritten (Written (slot_before rx))

-- all that a receive leaves
pub record AfterReceive : Type 0 where
  pub answer : Received
  pub ring : List ℕ
  pub lists : Handles

abbrev pub received_as : Received → List ℕ → Handles → AfterReceive
received_as answer ring lists = record { answer = answer; ring = ring; lists = lists }

abbrev pub receive_end : Account → Stopping → AfterReceive
receive_end a s =
    record {
      answer = record {
        ended = ended.Stopped s.stop;
        count = s.work.count;
        tail = tail_after s.work.count s.work.rx;
        account = with_receive a s.work.free s.work.hands s.work.rx s.work.slots;
      };
      ring = s.work.ring;
      lists = s.work.lists;
    }

unfoldable pub receive_call : Account → ℕ → List ℕ → List ℕ → ℕ → Handles → AfterReceive
receive_call a q ring addresses n lists =
    on_verdict (receive_verdict a q ring addresses n lists)
    (receive_end a (receive_rule a.pool a.size addresses n (receiving a ring lists)))
    (λ why. record {
      answer = record { ended = ended.Refused why; count = 0; tail = Unwritten; account = a };
      ring = ring;
      lists = lists;
    })
