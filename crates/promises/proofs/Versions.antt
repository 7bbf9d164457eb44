-- How tight the contracts are: document 01's versions to try, each shut out. One refuses all calls; one always answers 0 with count 0, one
-- does nothing; one sends the first packet and only counts the others; one invents a sent count. No outcome of such a shape satisfies the
-- call's postcondition, on any input where it matters.
use Prim.Native.Nat.{ℕ, ◌+◌, ◌%◌, ◌<◌, min}
use mathlib.Core.Path.{◌≡◌, ap}
use mathlib.Core.Bool.{true, not}
use mathlib.Core.List.{List}
use lib.ListN.{length, get_or}
use lib.Dec.{ltb, leb}
use native.Mathlib.Omega.{arith}
use borrow.Author.Tests.{lt-ltb}
use Rattle.limits.specs.Limits.{SLOTS, HEADROOM}
use Rattle.words.specs.Le.{le_at, address_plus}
use Rattle.words.specs.Slots.{slot_at, command_of, payload_of}
use Rattle.pool.specs.declared.Handle.{Handle}
use Rattle.rules.specs.declared.Account.{Account}
use Rattle.rules.specs.Answers.{Batch, Counts, Kept, Received, Sent, Started, Taken, Truncated}
use Rattle.rules.specs.Found.{Frame}
use Rattle.rules.specs.Verdict.{Verdict, Done}
use Rattle.rules.specs.Numbers.{verdict_of}
use Rattle.rules.specs.Handles.{Handles, handle_at, has_room}
use Rattle.rules.specs.Sound.{in_range, is_good, sound}
use Rattle.rules.specs.Refusals.{rings_fit, memory_fits, packet_fits, size_given, batch_of, handles_verdict, fresh_verdict, counts_verdict, take_verdict, batch_verdict, handle_verdict, view_verdict, headroom_verdict, clone_verdict, start_verdict, receive_verdict, send_verdict}
use Rattle.rules.specs.Packets.{fresh_call, counts_call, take_call, taking_of, batch_rule, batched, batch_end, batch_call, release_call, truncate_call, cloned_as, clone_call}
use Rattle.rules.specs.Receive.{found, receiving, started_as, start_call, received_as, receive_call}
use Rattle.rules.specs.Send.{cleaned, sending, room_after, sent_as, send_call}
use Rattle.promises.proofs.Done.{batch-ended, receive-ended, send-ended, sent-count, sent-indices, sent-whole, sent-short}
use Rattle.promises.proofs.Written.{batch-some, many-takes, receive-some, send-describes}

-- ---- one refuses all calls: a call that no row of the table refuses is done

pub fresh-done : (pool entries size receives sends : ℕ) (r : Kept) → r ≡ fresh_call pool entries size receives sends → in_range entries (size_given size) receives sends ≡ true → r.verdict ≡ Done
unfolding fresh_call fresh_verdict
fresh-done pool entries size receives sends r post range = rw (post, range)

module _ (a : Account) (s : sound a ≡ true) where
  pub counts-done : (r : Counts) → r ≡ counts_call a → r.verdict ≡ Done
  unfolding counts_call counts_verdict
  counts-done r post = rw (post, s)

  pub take_done : (len : ℕ) (r : Taken) → r ≡ take_call a len → packet_fits a len ≡ true → 0 < a.free.depth → r.verdict ≡ Done
  unfolding take_call take_verdict
  take_done len r post fits some = rw (post, s, fits, lt-ltb 0 a.free.depth some)

  pub batch-done : (n len : ℕ) (lists after : Handles) (r : Batch) → batched r after ≡ batch_call a n len lists → has_room (min (batch_of n) a.entries) lists ≡ true → r.verdict ≡ Done
  unfolding batch_call batch_verdict
  batch-done n len lists after r post room = rw (ap (λ o. o.answer.verdict) post, s, room)

  module _ (h : Handle) (good : is_good a h ≡ true) where
    pub release-done : (r : Kept) → r ≡ release_call a h → r.verdict ≡ Done
    unfolding release_call handle_verdict
    release-done r post = rw (post, s, good)

    pub truncate-done : (len : ℕ) (r : Truncated) → r ≡ truncate_call a h len → r.verdict ≡ Done
    unfolding truncate_call handle_verdict
    truncate-done len r post = rw (post, s, good)

    pub clone-done : (memory after : List ℕ) (r : Taken) → cloned_as r after ≡ clone_call a h memory → memory_fits a (length memory) ≡ true → packet_fits a h.length ≡ true → 0 < a.free.depth → r.verdict ≡ Done
    unfolding clone_call clone_verdict
    clone-done memory after r post memory-fits fits some = rw (ap (λ o. o.answer.verdict) post, s, memory-fits, good, fits, lt-ltb 0 a.free.depth some)

    -- of a view and a headroom the number says so, beside the part
    pub view-done : (bytes : ℕ) (r : Verdict) → r ≡ view_verdict a h bytes → memory_fits a bytes ≡ true → r ≡ Done
    unfolding view_verdict
    view-done bytes r post memory-fits = rw (post, s, memory-fits, good)

    pub headroom-done : (asked bytes : ℕ) (r : Verdict) → r ≡ headroom_verdict a h asked bytes → memory_fits a bytes ≡ true → leb asked HEADROOM ≡ true → leb asked h.offset ≡ true → r ≡ Done
    unfolding headroom_verdict
    headroom-done asked bytes r post memory-fits fits has = rw (post, s, memory-fits, good, fits, has)

  module _ (q : ℕ) (ring addresses : List ℕ) (fit : rings_fit a.entries ring addresses ≡ true) where
    pub start-done : (after : List ℕ) (r : Started) → started_as r after ≡ start_call a q ring addresses → ltb q a.receives ≡ true → not a.started ≡ true → leb SLOTS a.free.depth ≡ true → r.verdict ≡ Done
    unfolding start_call start_verdict
    start-done after r post queue new enough = rw (ap (λ o. o.answer.verdict) post, s, fit, queue, new, enough)

    pub receive-done : (n : ℕ) (lists : Handles) (after : List ℕ) (filled : Handles) (r : Received) → received_as r after filled ≡ receive_call a q ring addresses n lists
        → has_room (min n SLOTS) lists ≡ true → ltb q a.receives ≡ true → a.started ≡ true → verdict_of r.ended ≡ Done
    unfolding receive_call receive_verdict
    receive-done n lists after filled r post room queue on = rw (ap (λ o. o.answer.ended) post, s, fit, room, queue, on)

    pub send-done : (lists : Handles) (after : List ℕ) (r : Sent) → sent_as r after ≡ send_call a q ring addresses lists
        → has_room (length lists.ids) lists ≡ true → ltb q a.sends ≡ true → handles_verdict a lists 0 (length lists.ids) ≡ Done → r.verdict ≡ Done
    unfolding send_call send_verdict
    send-done lists after r post room queue all = rw (ap (λ o. o.answer.verdict) post, s, fit, room, queue, all)

-- ---- one always answers 0 with count 0, one does nothing

-- a batch takes something where something is free and the packets fit
pub batch-takes : (a : Account) (n len : ℕ) (lists after : Handles) (r : Batch) → batched r after ≡ batch_call a n len lists → r.verdict ≡ Done
    → packet_fits a len ≡ true → 0 < a.free.depth → (0 < r.count) × (r.account.free.depth < a.free.depth)
unfolding batch_rule
batch-takes a n len lists after r post done fits some =
    rw (ap (λ o. o.answer.count) end, ap (λ o. o.answer.account.free.depth) end, fits) (many-takes a.pool len (batch_of n) (taking_of a lists) (batch-some n) some)
  where
    end : batched r after ≡ batch_end a (batch_rule a.pool a.size n len (taking_of a lists))
    end = (batch-ended a n len lists r after post done).1

-- a receive takes a frame that is there, and a free buffer for its slot
pub receive-takes : (a : Account) (q : ℕ) (ring addresses : List ℕ) (n : ℕ) (lists : Handles) (after : List ℕ) (filled : Handles) (r : Received) (len : ℕ)
    → received_as r after filled ≡ receive_call a q ring addresses n lists → verdict_of r.ended ≡ Done → 0 < n
    → found a.size a.free.depth a.rx ring ≡ Frame len → (0 < r.count) × (r.account.free.depth < a.free.depth)
receive-takes a q ring addresses n lists after filled r len post done some frame =
    let end = (receive-ended a q ring addresses n lists r after filled post done).1 in
    rw (ap (λ o. o.answer.count) end, ap (λ o. o.answer.account.free.depth) end)
    (receive-some a.pool a.size addresses (receiving a ring lists) n len some frame)

module _ (a : Account) (q : ℕ) (ring addresses : List ℕ) (lists : Handles) (after : List ℕ) (r : Sent)
    (post : sent_as r after ≡ send_call a q ring addresses lists) (done : r.verdict ≡ Done) where
  -- ---- one invents a sent count: it is what the list has and the room lets in, no more and no less

  pub send-counts : r.count ≡ min (length lists.ids) (room_after a q (cleaned a q ring))
  send-counts = sent-count a q ring addresses lists r after post done

  -- ---- one sends the first packet and only counts the others: every packet that is counted has its descriptor in the ring

  pub send-writes : (i : ℕ) → i < r.count
      → (le_at 8 (slot_at ((get_or a.tx q 0 + i) % SLOTS)) after ≡ address_plus (get_or addresses (handle_at lists i).id 0) (handle_at lists i).offset)
      × (le_at 4 (slot_at ((get_or a.tx q 0 + i) % SLOTS) + 8) after ≡ command_of (handle_at lists i).length)
      × (le_at 4 (slot_at ((get_or a.tx q 0 + i) % SLOTS) + 12) after ≡ payload_of (handle_at lists i).length)
  send-writes i below =
      let short = sent-short a q ring addresses lists r after post done i (omega (arith, send-counts)) in
      let first : 0 + i ≡ i = omega arith in
      rw (ap (λ o. o.ring) (send-ended a q ring addresses lists r after post done).1)
      (rw first at
      (send-describes q addresses lists (min (length lists.ids) (room_after a q (cleaned a q ring))) (sending a q ring (cleaned a q ring)) i (sent-indices a q ring addresses lists r after post done).tx-below
      (sent-whole a q ring addresses lists r after post done) (omega arith) (omega (arith, send-counts)) (rw first (omega arith))))
