-- What the tests of a send give the loops: in a sound account all that is pending is known and has room on the stack, and every handle that
-- passed has an address and a length that a descriptor holds. And how the loops' answers make the call's.
use Prim.Native.Nat.{ℕ, ◌≤◌, ◌<◌, min}
use mathlib.Core.Path.{◌≡◌}
use mathlib.Core.Bool.{true}
use mathlib.Core.List.{List}
use lib.ListN.{length, get_or}
use lib.Dec.{eqb}
use native.Mathlib.Omega.{arith}
use borrow.Author.Tests.{eqb-true, ltb-true}
use Rattle.limits.specs.Limits.{SENDS, SLOTS, RING-BYTES, BATCH}
use Rattle.laws.proofs.Test.{both_left, both_right}
use Rattle.rules.specs.declared.Account.{Account}
use Rattle.rules.specs.Verdict.{Done}
use Rattle.rules.specs.Handles.{Handles, handle_at}
use Rattle.rules.specs.Account.{waiting}
use Rattle.rules.specs.Sound.{sound, Indices, Full, Good}
use Rattle.rules.specs.Refusals.{send_verdict}
use Rattle.rules.specs.Send.{Cleaning, clean_rule, Sending, send_rule, sending, room_for, sent_after, send_end}
use Rattle.rules.proofs.Facts.{bounds, sent-known, room-for-pending}
use Rattle.rules.proofs.Sound.{sound-means}
use Rattle.rules.proofs.Verdicts.{room-means, handles-done, sendable-good}
use Rattle.rules.proofs.Calls.{send-done}
use Rattle.rules.proofs.Send.{give-clean, clean-holds}
use Rattle.sends.specs.Lent.{Cleanable, Writable}

-- a cleaning's index stays in the ring
pub clean-place : (batch : ℕ) (sent : List ℕ) (q tx : ℕ) (ring : List ℕ) (turns : ℕ) (w end : Cleaning)
    → end ≡ clean_rule batch sent q tx ring turns w → w.clean < SLOTS → end.clean < SLOTS
clean-place batch sent q tx ring turns w end e below =
    rw e (clean-holds batch sent q tx ring (λ v. v.clean < SLOTS) (λ v e p. rw (give-clean sent q batch v p) (omega arith)) turns w below)

-- fewer of a list can be written too
pub writable-less : {n m q tx : ℕ} {addresses ring : List ℕ} {lists : Handles} → m ≤ n → Writable n q tx addresses ring lists → Writable m q tx addresses ring lists
writable-less few w =
    record {
      queue = w.queue;
      place = w.place;
      few = w.few;
      whole = w.whole;
      room = record {
        pools = omega (arith, w.room.pools);
        ids = omega (arith, w.room.ids);
        offsets = omega (arith, w.room.offsets);
        lengths = omega (arith, w.room.lengths);
      };
      each = λ i l. w.each i (omega arith);
    }

-- the answer, from what cleaning and sending left
pub run-outcome : (a : Account) (q : ℕ) (ring addresses : List ℕ) (lists : Handles) (c whole : Cleaning) (count : ℕ) (w : Sending)
    → c ≡ whole → count ≡ min (length lists.ids) (room_for (waiting (get_or a.tx q 0) c.clean))
    → w ≡ send_rule q addresses lists count (sending a q ring c)
    → send_end a q c w ≡ send_end a q whole (sent_after a q ring addresses lists whole)
run-outcome a q ring addresses lists c whole count w p n e = rw (e, n, p)

module _ (a : Account) (q : ℕ) (ring addresses : List ℕ) (lists : Handles) (done : send_verdict a q ring addresses lists ≡ Done) where
  e : sound a ≡ true
  e = (send-done a q ring addresses lists done).0

  queue : q < a.sends
  queue = ltb-true q a.sends (send-done a q ring addresses lists done).3

  whole : length ring ≡ RING-BYTES
  whole = eqb-true (length ring) RING-BYTES (both_left (eqb (length ring) RING-BYTES) _ (send-done a q ring addresses lists done).1)

  one_each : length addresses ≡ a.entries
  one_each = eqb-true (length addresses) a.entries (both_right (eqb (length ring) RING-BYTES) _ (send-done a q ring addresses lists done).1)

  pub queue-below : q < SENDS
  queue-below = omega (arith, queue, (sound-means a e).numbers.few-sends)

  pub places : Indices (get_or a.clean q 0) (get_or a.tx q 0)
  places = (sound-means a e).queues q queue

  pub cleanable-now : Full a → Cleanable BATCH ring a.sent q (get_or a.tx q 0) (get_or a.clean q 0) a.free.depth
  cleanable-now full =
      record {
        some = omega arith;
        small = omega arith;
        index = places.tx-below;
        whole = whole;
        givable = record {
          queue = queue-below;
          place = places.clean-below;
          room = omega (arith, room-for-pending a e full q queue, bounds a e);
          known = λ i l. omega (arith, sent-known a e q queue i l, bounds a e);
        };
      }

  good : (i : ℕ) → i < length lists.ids → Good a (handle_at lists i)
  good i l = sendable-good a lists i (handles-done a lists 0 (length lists.ids) (send-done a q ring addresses lists done).4 i (omega arith) (omega arith))

  pub writable_now : Writable (length lists.ids) q (get_or a.tx q 0) addresses ring lists
  writable_now =
      record {
        queue = queue-below;
        place = places.tx-below;
        few = omega (arith, one_each, bounds a e);
        whole = whole;
        room = room-means (length lists.ids) lists (send-done a q ring addresses lists done).2;
        each = λ i l. record { known = omega (arith, good i l, one_each); short = omega (arith, good i l, bounds a e) };
      }
