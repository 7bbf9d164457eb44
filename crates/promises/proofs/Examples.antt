-- Document 01's twelve examples, of the code's contracts: whatever outcome satisfies a call's postcondition on an example's input is the
-- example's answer. Each is stated for every account that the example's numbers fit.
use Prim.Native.Nat.{ℕ, zero, suc, ◌+◌, ◌-◌, ◌%◌, ◌<◌, ◌≤◌, min}
use mathlib.Core.Path.{◌≡◌, refl, ap, ◌∙◌}
use mathlib.Core.Bool.{Bool, true, false}
use mathlib.Core.List.{List, map}
use lib.ListN.{length, get_or}
use lib.Seq.{get_or-set_same}
use lib.Dec.{leb}
use native.Mathlib.Omega.{arith}
use borrow.Author.Tests.{lt-ltb, eq-eqb}
use Rattle.limits.specs.Limits.{ENTRIES, SENDS, SLOTS, RING-BYTES, BATCH}
use Rattle.laws.specs.Test.{pick}
use Rattle.laws.specs.Occurs.{up_from}
use Rattle.words.specs.Slots.{status_at, length_at, sent_at}
use Rattle.rules.specs.declared.Account.{Account}
use Rattle.rules.specs.Answers.{Batch, Counts, Received, Sent, Started, Taken}
use Rattle.rules.specs.Ended.{Stopped}
use Rattle.rules.specs.Found.{Nothing}
use Rattle.refusals.specs.declared.Refusal.TheVariants.{NoneFree}
use Rattle.rules.specs.declared.Stop.{Stop}
use Rattle.rules.specs.declared.Stop.TheVariants.{Asked, NotDone, Split, TooLong}
use Rattle.rules.specs.Tail.{Written}
use Rattle.rules.specs.Verdict.{Done}
use Rattle.rules.specs.Numbers.{number, verdict_of, unless}
use Rattle.rules.specs.Handles.{Handles, has_room}
use Rattle.rules.specs.Account.{pending, waiting, opened}
use Rattle.rules.specs.Sound.{InRange, sound}
use Rattle.rules.specs.Refusals.{packet_fits, fresh_verdict, counts_verdict, take_verdict, start_verdict}
use Rattle.rules.specs.Packets.{fresh_call, counts_call, take_call, one_more, take_many, batch_rule, taking_of, batched, batch_call}
use Rattle.rules.specs.Receive.{filled, fill_rule, filling, started_as, start_call, found, received, receiving, receive_rule, received_as, receive_end, receive_call}
use Rattle.rules.specs.Send.{Cleaning, given_back, give_back, batch_last, cleanable, cleaning, cleaned, sending, room_after, sent_after, sent_as, send_end, send_call}
use Rattle.rules.proofs.Sound.{means-in-range, sound-means, means-sound}
use Rattle.rules.proofs.Verdicts.{unless-done, room-means}
use Rattle.rules.proofs.Packets.{opened-sound, many-none, many-empty, many_more}
use Rattle.rules.proofs.Receive.{rule-asked, rule-stopped, rule-frame}
use Rattle.rules.proofs.Send.{give-clean, send-tx, clean-stops, clean-more, batch-waits}
use Rattle.rules.proofs.Calls.{receive-done}
use Rattle.promises.proofs.Balance.{fresh-opened}
use Rattle.promises.proofs.Done.{ended, batch-ended, receive-ended, send-ended, sent-count, sent-indices}
use Rattle.promises.proofs.Versions.{batch-done}

-- the count of each queue
counted : (f : ℕ → ℕ) (q : ℕ) → q < SENDS → get_or (map f (up_from 0 SENDS)) q 0 ≡ f q
unfolding up_from
counted f zero few = refl
counted f (suc zero) few = refl
counted f (suc (suc zero)) few = refl
counted f (suc (suc (suc zero))) few = refl
counted f (suc (suc (suc (suc q)))) few = absurd (omega arith)

-- (b) tx 5, clean 480: 37 pending
pub example-b : (a : Account) (q : ℕ) (r : Counts) → r ≡ counts_call a → r.verdict ≡ Done → q < a.sends → get_or a.tx q 0 ≡ 5 → get_or a.clean q 0 ≡ 480
    → get_or r.send q 0 ≡ 37
unfolding counts_call counts_verdict
example-b a q r post done queue tx clean =
    let end = ended (λ (c : Counts). c.verdict) (counts_verdict a) _ _ (λ why. refl) post done in
    let few = (sound-means a (unless-done _ _ _ end.0).0).numbers.few-sends in
    rw (end.1, counted _ q (omega arith), lt-ltb q a.sends queue, tx, clean)

-- n ids given back are n more on the stack
give-depth : (sent : List ℕ) (q n : ℕ) (w : Cleaning) → (give_back sent q n w).free.depth ≡ w.free.depth + n
unfolding give_back given_back
give-depth sent q zero w = omega arith
give-depth sent q (suc n) w = give-depth sent q n (given_back sent q w) ∙ omega arith

-- a send that is done
module _ (a : Account) (q : ℕ) (ring addresses : List ℕ) (lists : Handles) (r : Sent) (after : List ℕ)
    (post : sent_as r after ≡ send_call a q ring addresses lists) (done : r.verdict ≡ Done) where
  -- it left what the rule leaves,
  end : sent_as r after ≡ send_end a q (cleaned a q ring) (sent_after a q ring addresses lists (cleaned a q ring))
  end = (send-ended a q ring addresses lists r after post done).1

  -- and sent as many as the list has and the room lets in
  counts : r.count ≡ min (length lists.ids) (room_after a q (cleaned a q ring))
  counts = sent-count a q ring addresses lists r after post done

  -- (a) after slot 511 comes 0
  pub example-a : get_or a.tx q 0 ≡ 511 → r.count ≡ 1 → r.tail ≡ Written 0
  example-a tx one =
      ap (λ o. o.answer.tail) end ∙ ap Written (send-tx q addresses lists _ (sending a q ring (cleaned a q ring)) (omega arith) ∙ omega (arith, counts))

  -- (c) 511 pending: room 0; 510: room 1
  pub example-c-full : waiting (get_or a.tx q 0) (cleaned a q ring).clean ≡ 511 → r.count ≡ 0
  example-c-full many = omega (arith, counts)

  pub example-c-room : waiting (get_or a.tx q 0) (cleaned a q ring).clean ≡ 510 → r.count ≡ min (length lists.ids) 1
  example-c-room many = omega (arith, counts)

  -- whether a batch can be cleaned from an index on
  can : ℕ → Bool
  can clean = cleanable BATCH (get_or a.tx q 0) ring clean

  module _ (turns : ℕ) where
    -- where no batch can be cleaned, none is freed
    none-freed : pending a q ≡ suc turns → can (get_or a.clean q 0) ≡ false → r.account.free.depth ≡ a.free.depth
    unfolding can
    none-freed many stop =
        ap (λ o. o.answer.account.free.depth) end ∙ rw (many, clean-stops BATCH a.sent q (get_or a.tx q 0) ring turns (cleaning a q) stop)

    -- where one can and then no other, 32 are
    batch-freed : pending a q ≡ suc (suc turns) → can (get_or a.clean q 0) ≡ true → leb BATCH (pending a q - BATCH) ≡ false → r.account.free.depth ≡ a.free.depth + BATCH
    unfolding can
    batch-freed many go stop =
        let index = sent-indices a q ring addresses lists r after post done in
        let moved = give-clean a.sent q BATCH (cleaning a q) index.clean-below in
        let left : waiting (get_or a.tx q 0) ((get_or a.clean q 0 + BATCH) % SLOTS) ≡ pending a q - BATCH
        = omega (arith, batch-waits BATCH a.sent q (get_or a.tx q 0) ring (get_or a.clean q 0) go) in
        ap (λ o. o.answer.account.free.depth) end
        ∙ rw (
          many,
          clean-more BATCH a.sent q (get_or a.tx q 0) ring (suc turns) (cleaning a q) go,
          clean-stops BATCH a.sent q (get_or a.tx q 0) ring turns (give_back a.sent q BATCH (cleaning a q)) (rw (moved, left, stop)),
        )
        (give-depth a.sent q BATCH (cleaning a q))

  -- (d) 31 pending, all done: 0 freed
  pub example-d : pending a q ≡ 31 → r.account.free.depth ≡ a.free.depth
  unfolding can
  example-d many = none-freed 30 many (rw many)

  -- (e) 32 pending, last done: 32 freed
  pub example-e : pending a q ≡ 32 → sent_at (batch_last BATCH (get_or a.clean q 0)) ring ≡ true → r.account.free.depth ≡ a.free.depth + 32
  unfolding can
  example-e many last = batch-freed 30 many (rw (many, last)) (rw many)

  -- (f) 32 pending, only the last not done: 0
  pub example-f : pending a q ≡ 32 → sent_at (batch_last BATCH (get_or a.clean q 0)) ring ≡ false → r.account.free.depth ≡ a.free.depth
  unfolding can
  example-f many last = none-freed 31 many (rw (many, last))

  -- (g) 63 pending, all done: 32 freed
  pub example-g : pending a q ≡ 63 → ((slot : ℕ) → sent_at slot ring ≡ true) → r.account.free.depth ≡ a.free.depth + 32
  unfolding can
  example-g many all = batch-freed 61 many (rw (many, all (batch_last BATCH (get_or a.clean q 0)))) (rw many)

-- (h) start on 512 entries: slot 0 has id 511, slot 511 id 0, none free; on 511 entries: 6
module _ (pool sends : ℕ) (few : sends ≤ SENDS) (ring addresses : List ℕ) (whole : length ring ≡ RING-BYTES) (r : Started) (after : List ℕ) where
  -- its account is fresh, and a start is not refused but for want of ids
  fresh : (entries : ℕ) → 0 < entries → entries ≤ ENTRIES → length addresses ≡ entries
      → ((fresh_call pool entries 2048 1 sends).account ≡ opened pool entries 2048 1 sends)
      × (start_verdict (opened pool entries 2048 1 sends) 0 ring addresses ≡ unless (leb SLOTS entries) NoneFree Done)
  unfolding fresh_verdict opened start_verdict
  fresh entries some most each =
      let numbers : InRange entries 2048 1 sends
      = record { some-entries = some; few-entries = most; doublings = 5; few-doublings = omega arith; power = refl; few-receives = omega arith; few-sends = few } in (
        fresh-opened pool entries 2048 1 sends (rw (means-in-range entries 2048 1 sends numbers)),
        rw (means-sound _ (opened-sound pool entries 2048 1 sends numbers), eq-eqb (length ring) RING-BYTES whole, eq-eqb (length addresses) entries each),
      )

  -- the ids of the first and the last slot, and what is left, whatever the bytes of the ring
  first-last : (get_or (fill_rule addresses 0 SLOTS (filling (opened pool 512 2048 1 sends) ring)).slots 0 0 ≡ 511)
      × (get_or (fill_rule addresses 0 SLOTS (filling (opened pool 512 2048 1 sends) ring)).slots 511 0 ≡ 0)
      × ((fill_rule addresses 0 SLOTS (filling (opened pool 512 2048 1 sends) ring)).free.depth ≡ 0)
  unfolding opened fill_rule filled up_from
  first-last = (refl, refl, refl)

  pub example-h : length addresses ≡ 512 → started_as r after ≡ start_call (fresh_call pool 512 2048 1 sends).account 0 ring addresses
      → (r.verdict ≡ Done) × (get_or r.account.slots 0 0 ≡ 511) × (get_or r.account.slots 511 0 ≡ 0) × (r.account.free.depth ≡ 0)
  unfolding start_call
  example-h each post =
      let f = fresh 512 (omega arith) (omega arith) each in
      rw (ap (λ o. o.answer.verdict) post, ap (λ o. o.answer.account.slots) post, ap (λ o. o.answer.account.free.depth) post, f.0, f.1)
      (refl, first-last.0, first-last.1, first-last.2)

  pub example-h-few : length addresses ≡ 511 → started_as r after ≡ start_call (fresh_call pool 511 2048 1 sends).account 0 ring addresses → number r.verdict ≡ 6
  unfolding start_call
  example-h-few each post =
      let f = fresh 511 (omega arith) (omega arith) each in
      rw (ap (λ o. o.answer.verdict) post, f.0, f.1)

-- a receive of one that is not refused
module _ (a : Account) (q : ℕ) (ring addresses : List ℕ) (lists : Handles) (r : Received) (after : List ℕ) (filled : Handles)
    (post : received_as r after filled ≡ receive_call a q ring addresses 1 lists) (done : verdict_of r.ended ≡ Done) where
  -- it left what the rule leaves
  end_of : received_as r after filled ≡ receive_end a (receive_rule a.pool a.size addresses 1 (receiving a ring lists))
  end_of = (receive-ended a q ring addresses 1 lists r after filled post done).1

  -- what stands at the slot is why it stops
  stopped : (reason : Stop) → found a.size a.free.depth a.rx ring ≡ Nothing reason → (r.ended ≡ Stopped reason) × (r.count ≡ 0)
  stopped reason e =
      rw (ap (λ o. o.answer.ended) end_of, ap (λ o. o.answer.count) end_of, rule-stopped a.pool a.size addresses 0 (receiving a ring lists) reason e)
      (refl, refl)

  -- (i) status 1: Split; status 2: NotDone
  pub example-i-split : status_at a.rx ring ≡ 1 → (r.ended ≡ Stopped Split) × (r.count ≡ 0)
  unfolding found
  example-i-split status = stopped Split (rw status)

  pub example-i-not-done : status_at a.rx ring ≡ 2 → (r.ended ≡ Stopped NotDone) × (r.count ≡ 0)
  unfolding found
  example-i-not-done status = stopped NotDone (rw status)

  -- (j) status 3 with length 2048 taken, 2049 TooLong
  pub example-j-taken : a.size ≡ 2048 → 0 < a.free.depth → status_at a.rx ring ≡ 3 → length_at a.rx ring ≡ 2048
      → (r.ended ≡ Stopped Asked) × (r.count ≡ 1) × (get_or filled.lengths 0 0 ≡ 2048)
  unfolding found received
  example-j-taken size some status len =
      let w = receiving a ring lists in
      let room = room-means 1 lists (receive-done a q ring addresses 1 lists (receive-ended a q ring addresses 1 lists r after filled post done).0).2 in
      rw (
        ap (λ o. o.answer.ended) end_of,
        ap (λ o. o.answer.count) end_of,
        ap (λ o. o.lists.lengths) end_of,
        rule-frame a.pool a.size addresses 0 w 2048 (rw (status, len, size, lt-ltb 0 a.free.depth some)),
        rule-asked a.pool a.size addresses 0 (received a.pool addresses 2048 w),
      )
      (refl, refl, get_or-set_same lists.lengths 0 2048 0 (omega (arith, room.lengths)))

  pub example-j-long : a.size ≡ 2048 → status_at a.rx ring ≡ 3 → length_at a.rx ring ≡ 2049 → (r.ended ≡ Stopped TooLong) × (r.count ≡ 0)
  unfolding found
  example-j-long size status len = stopped TooLong (rw (status, len, size))

module _ (a : Account) (s : sound a ≡ true) where
  -- (k) size 2016 taken, 2017: 5
  pub example-k-taken : (r : Taken) → r ≡ take_call a 2016 → a.size ≡ 2048 → 0 < a.free.depth → (r.verdict ≡ Done) × (r.handle.length ≡ 2016)
  unfolding take_call take_verdict
  example-k-taken r post size some = rw (post, s, size, lt-ltb 0 a.free.depth some) (refl, refl)

  pub example-k-large : (r : Taken) → r ≡ take_call a 2017 → a.size ≡ 2048 → number r.verdict ≡ 5
  unfolding take_call take_verdict
  example-k-large r post size = rw (post, s, size)

  -- (l) batch of 0: one, or 0 if none is free
  module _ (len : ℕ) (lists after : Handles) (r : Batch) (post : batched r after ≡ batch_call a 0 len lists) (room : has_room 1 lists ≡ true) where
    -- it is done, and its count is the rule's
    one-done : (r.verdict ≡ Done) × (r.count ≡ (batch_rule a.pool a.size 0 len (taking_of a lists)).count)
    one-done =
        let least : min 1 a.entries ≡ 1 = omega (arith, (sound-means a s).numbers.some-entries) in
        let done = batch-done a s 0 len lists after r post (rw least room) in
        (done, ap (λ o. o.answer.count) (batch-ended a 0 len lists r after post done).1)

    pub example-l-one : packet_fits a len ≡ true → 0 < a.free.depth → (r.verdict ≡ Done) × (r.count ≡ 1)
    unfolding batch_rule
    example-l-one fits some =
        (one-done.0, one-done.1 ∙ rw (fits, many_more a.pool len 0 (taking_of a lists) some, many-none a.pool len (one_more a.pool len (taking_of a lists))))

    pub example-l-none : a.free.depth ≡ 0 → (r.verdict ≡ Done) × (r.count ≡ 0)
    unfolding batch_rule
    example-l-none none = (one-done.0, one-done.1 ∙ by_size (packet_fits a len))
      where
        by_size : (b : Bool) → (pick b (take_many a.pool len 1 (taking_of a lists)) (taking_of a lists)).count ≡ 0
        by_size true = rw (many-empty a.pool len 0 (taking_of a lists) none)
        by_size false = refl
