-- Document 01, "Send rules": cleaning, over the size of a batch, and a send.
use Rattle.std.specs.Prelude.{ℕ, zero, suc, ◌+◌, ◌-◌, ◌%◌, min, Bool, true, false, List, length, get_or, set, leb}
use Rattle.limits.specs.Limits.{SLOTS, BATCH}
use Rattle.laws.specs.Test.{both}
use Rattle.words.specs.Le.{address_plus}
use Rattle.words.specs.Slots.{sent_at, described}
use Rattle.pool.specs.declared.FreeStack.{FreeStack}
use Rattle.pool.specs.declared.Handle.{Handle}
use Rattle.pool.specs.Stack.{pushed}
use Rattle.pool.specs.Hands.{HAND-FREE, HAND-SEND}
use Rattle.rules.specs.declared.Account.{Account}
use Rattle.rules.specs.Verdict.{Done, Refused}
use Rattle.rules.specs.Tail.{Unwritten, Written}
use Rattle.rules.specs.Answers.{Sent}
use Rattle.rules.specs.Numbers.{on_verdict}
use Rattle.rules.specs.Handles.{Handles, handle_at}
use Rattle.rules.specs.Account.{next_slot, waiting, send_place, with_send}
use Rattle.rules.specs.Refusals.{send_verdict}

-- ---- cleaning

-- what cleaning works on
pub record Cleaning : Type 0 where
  pub free : FreeStack
  pub hands : List ℕ
  pub clean : ℕ

-- the oldest id of a queue
abbrev pub oldest : List ℕ → ℕ → Cleaning → ℕ
oldest sent q w = get_or sent (send_place q w.clean) 0

-- the oldest id is pushed, and the clean index moves by one
unfoldable pub given_back : List ℕ → ℕ → Cleaning → Cleaning
given_back sent q w =
    record {
      free = pushed w.free (oldest sent q w);
      hands = set w.hands (oldest sent q w) HAND-FREE;
      clean = next_slot w.clean;
    }

-- the n oldest, in order
unfoldable pub give_back : List ℕ → ℕ → ℕ → Cleaning → Cleaning
give_back sent q zero w = w
give_back sent q (suc n) w = give_back sent q n (given_back sent q w)

-- the last slot of the batch that begins at the clean index
abbrev pub batch_last : ℕ → ℕ → ℕ
batch_last batch clean = (clean + (batch - 1)) % SLOTS

-- a whole batch is pending, and the card has sent the last of it
abbrev pub cleanable : ℕ → ℕ → List ℕ → ℕ → Bool
cleanable batch tx ring clean = both (leb batch (waiting tx clean)) (sent_at (batch_last batch clean) ring)

-- batch after batch while one can be cleaned. A turn gives back at least one, so there are no more turns than pending slots
unfoldable pub clean_rule : ℕ → List ℕ → ℕ → ℕ → List ℕ → ℕ → Cleaning → Cleaning
clean_rule batch sent q tx ring zero w = w
clean_rule batch sent q tx ring (suc turns) w =
    elim (cleanable batch tx ring w.clean) [ true ↦ clean_rule batch sent q tx ring turns (give_back sent q batch w) | false ↦ w ]

abbrev pub cleaning : Account → ℕ → Cleaning
cleaning a q = record { free = a.free; hands = a.hands; clean = get_or a.clean q 0 }

-- the cleaning of a queue
abbrev pub cleaned : Account → ℕ → List ℕ → Cleaning
cleaned a q ring =
    clean_rule BATCH a.sent q (get_or a.tx q 0) ring (waiting (get_or a.tx q 0) (get_or a.clean q 0)) (cleaning a q)

-- ---- a send

-- what a send works on after cleaning, and how many packets it has sent
pub record Sending : Type 0 where
  pub hands : List ℕ
  pub sent : List ℕ
  pub tx : ℕ
  pub ring : List ℕ
  pub count : ℕ

-- a packet's address, command word and length are written, and its id stands at its slot
unfoldable pub packet_sent : ℕ → List ℕ → Handle → Sending → Sending
packet_sent q addresses h w =
    record {
      hands = set w.hands h.id (HAND-SEND + q);
      sent = set w.sent (send_place q w.tx) h.id;
      tx = next_slot w.tx;
      ring = described w.tx (address_plus (get_or addresses h.id 0) h.offset) h.length w.ring;
      count = w.count + 1;
    }

-- n packets of the list, from the first that is not sent yet
unfoldable pub send_rule : ℕ → List ℕ → Handles → ℕ → Sending → Sending
send_rule q addresses lists zero w = w
send_rule q addresses lists (suc n) w = send_rule q addresses lists n (packet_sent q addresses (handle_at lists w.count) w)

abbrev pub sending : Account → ℕ → List ℕ → Cleaning → Sending
sending a q ring c = record { hands = c.hands; sent = a.sent; tx = get_or a.tx q 0; ring = ring; count = 0 }

-- a ring with so many pending has room for as many more: never all of its slots are used
abbrev pub room_for : ℕ → ℕ
room_for many = SLOTS - 1 - many

-- room is fixed once, after cleaning
abbrev pub room_after : Account → ℕ → Cleaning → ℕ
room_after a q c = room_for (waiting (get_or a.tx q 0) c.clean)

-- as many as fit
abbrev pub sent_after : Account → ℕ → List ℕ → List ℕ → Handles → Cleaning → Sending
sent_after a q ring addresses lists c =
    send_rule q addresses lists (min (length lists.ids) (room_after a q c)) (sending a q ring c)

-- all that a send leaves
pub record AfterSend : Type 0 where
  pub answer : Sent
  pub ring : List ℕ

abbrev pub sent_as : Sent → List ℕ → AfterSend
sent_as answer ring = record { answer = answer; ring = ring }

-- the tail is written always
abbrev pub send_end : Account → ℕ → Cleaning → Sending → AfterSend
send_end a q c w =
    record {
      answer = record {
        verdict = Done;
        count = w.count;
        tail = Written w.tx;
        account = with_send a c.free w.hands w.sent (set a.clean q c.clean) (set a.tx q w.tx);
      };
      ring = w.ring;
    }

unfoldable pub send_call : Account → ℕ → List ℕ → List ℕ → Handles → AfterSend
send_call a q ring addresses lists =
    on_verdict (send_verdict a q ring addresses lists)
    (send_end a q (cleaned a q ring) (sent_after a q ring addresses lists (cleaned a q ring)))
    (λ why. record { answer = record { verdict = Refused why; count = 0; tail = Unwritten; account = a }; ring = ring })
