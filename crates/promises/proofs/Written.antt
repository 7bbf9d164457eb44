-- What a batch, a receive and a send must have done: something is taken where something can be, and each packet that a send counts has its
-- descriptor in the ring. A later packet is described in another slot, so it leaves the words of the earlier ones.
use Prim.Native.Nat.{ℕ, zero, suc, ◌+◌, ◌%◌, ◌^◌, ◌≤◌, ◌<◌}
use mathlib.Core.Path.{◌≡◌, ◌∙◌}
use mathlib.Core.List.{List}
use lib.ListN.{length, get_or}
use native.Mathlib.Omega.{arith}
use borrow.Author.Tests.{ne_eqb}
use Rattle.limits.specs.Limits.{SLOTS, SLOT-BYTES, RING-BYTES}
use Rattle.words.specs.Le.{le_at, address_plus}
use Rattle.words.specs.Slots.{slot_at, command_of, payload_of, described}
use Rattle.words.proofs.Laws.{read-other, read_same}
use Rattle.words.proofs.Slots.{length-described, described-other, described-payload, described-command}
use Rattle.pool.specs.declared.Handle.{Handle}
use Rattle.rules.specs.Found.{Frame}
use Rattle.rules.specs.Handles.{Handles, handle_at}
use Rattle.rules.specs.Account.{waiting}
use Rattle.rules.specs.Refusals.{batch_of}
use Rattle.rules.specs.Packets.{Taking, one_more, take_many}
use Rattle.rules.specs.Receive.{Receiving, received, next, receive_rule}
use Rattle.rules.specs.Send.{Sending, packet_sent, send_rule}
use Rattle.rules.proofs.Packets.{many_more, many-holds}
use Rattle.rules.proofs.Receive.{rule-frame, receive-holds, frame-free}

-- ---- a batch

-- a batch of any number asks for one at least
pub batch-some : (n : ℕ) → 0 < batch_of n
batch-some zero = omega arith
batch-some (suc n) = rw (ne_eqb (suc n) 0 (λ e. omega arith)) (omega arith)

-- from a stack that has some, it takes some
pub many-takes : (pool len n : ℕ) (w : Taking) → 0 < n → 0 < w.free.depth
    → (0 < (take_many pool len n w).count) × ((take_many pool len n w).free.depth < w.free.depth)
many-takes pool len zero w asked some = absurd (omega arith)
many-takes pool len (suc n) w asked some =
    rw (many_more pool len n w some)
    (many-holds pool len (λ m v. (0 < v.count) × (v.free.depth < w.free.depth)) (λ v. (0 < v.count) × (v.free.depth < w.free.depth))
    (λ m v p. p) (λ m v more p. omega arith) n (one_more pool len w) (omega arith))

-- ---- a receive

module _ (pool size : ℕ) (addresses : List ℕ) (w : Receiving) where
  -- some frames are taken, and as many ids are off the stack
  Took : Receiving → Type 0
  Took v = (0 < v.count) × (v.free.depth < w.free.depth)

  took_one : (len : ℕ) → 0 < w.free.depth → Took (received pool addresses len w)
  unfolding received Took
  took_one len some = omega arith

  took_more : (len : ℕ) (v : Receiving) → Took v → Took (received pool addresses len v)
  unfolding received Took
  took_more len v p = omega arith

  -- where a frame is, a receive takes some
  pub receive-some : (n len : ℕ) → 0 < n → next size w ≡ Frame len
      → (0 < (receive_rule pool size addresses n w).work.count) × ((receive_rule pool size addresses n w).work.free.depth < w.free.depth)
  unfolding Took
  receive-some zero len asked e = absurd (omega arith)
  receive-some (suc n) len asked e =
      rw (rule-frame pool size addresses n w len e)
      (receive-holds pool size addresses (λ m v. Took v) (λ o. Took o.work) (λ m v reason p. p) (λ m l v f p. took_more l v p)
      n (received pool addresses len w) (took_one len (frame-free size w len e)))

-- ---- a send

-- a slot has a packet's descriptor: its address, its command word and its length
abbrev pub Describes : List ℕ → Handle → ℕ → List ℕ → Type 0
Describes addresses h slot ring =
    (le_at 8 (slot_at slot) ring ≡ address_plus (get_or addresses h.id 0) h.offset)
    × (le_at 4 (slot_at slot + 8) ring ≡ command_of h.length)
    × (le_at 4 (slot_at slot + 12) ring ≡ payload_of h.length)

-- the address of a described slot is read back
described-address : (slot address len : ℕ) (ring : List ℕ) → slot_at slot + SLOT-BYTES ≤ length ring → address < 2 ^ 64
    → le_at 8 (slot_at slot) (described slot address len ring) ≡ address
unfolding described
described-address slot address len ring room small =
    read-other 8 (slot_at slot) 4 (slot_at slot + 12) _ _ (omega arith)
    ∙ read-other 8 (slot_at slot) 4 (slot_at slot + 8) _ _ (omega arith)
    ∙ read_same 8 (slot_at slot) address ring (omega arith) small

module _ (q : ℕ) (addresses : List ℕ) (lists : Handles) where
  -- a slot that the next n packets don't come to keeps its words
  send-other : (n : ℕ) (w : Sending) (slot width at : ℕ) → w.tx < SLOTS → slot < SLOTS → n ≤ waiting slot w.tx
      → slot_at slot ≤ at → at + width ≤ slot_at slot + SLOT-BYTES → le_at width at (send_rule q addresses lists n w).ring ≡ le_at width at w.ring
  unfolding send_rule packet_sent
  send-other zero w slot width at t s far from to = omega arith
  send-other (suc n) w slot width at t s far from to =
      send-other n (packet_sent q addresses (handle_at lists w.count) w) slot width at (omega arith) s (omega arith) from to
      ∙ described-other w.tx _ _ w.ring slot width at (λ e. omega arith) from to

  -- each of n packets has its descriptor
  pub send-describes : (n : ℕ) (w : Sending) (i : ℕ) → w.tx < SLOTS → length w.ring ≡ RING-BYTES → n < SLOTS → i < n
      → (handle_at lists (w.count + i)).length < 2 ^ 18
      → Describes addresses (handle_at lists (w.count + i)) ((w.tx + i) % SLOTS) (send_rule q addresses lists n w).ring
  unfolding send_rule packet_sent
  send-describes zero w i t whole few below short = absurd (omega arith)
  send-describes (suc n) w zero t whole few below short =
      let here : (w.tx + 0) % SLOTS ≡ w.tx = omega arith in
      let first : w.count + 0 ≡ w.count = omega arith in
      let small = rw first at short in
      let room : slot_at w.tx + SLOT-BYTES ≤ length w.ring = omega arith in
      rw (here, first) (
        kept 8 _ (omega arith) (omega arith) ∙ described-address w.tx _ _ w.ring room (omega arith),
        kept 4 _ (omega arith) (omega arith) ∙ described-command w.tx _ _ w.ring room small,
        kept 4 _ (omega arith) (omega arith) ∙ described-payload w.tx _ _ w.ring room small,
      )
    where
      after : Sending
      after = packet_sent q addresses (handle_at lists w.count) w

      kept : (width at : ℕ) → slot_at w.tx ≤ at → at + width ≤ slot_at w.tx + SLOT-BYTES
          → le_at width at (send_rule q addresses lists n after).ring ≡ le_at width at after.ring
      kept width at = send-other n after w.tx width at (omega arith) t (omega arith)
  send-describes (suc n) w (suc i) t whole few below short =
      let slot : ((w.tx + 1) % SLOTS + i) % SLOTS ≡ (w.tx + suc i) % SLOTS = omega arith in
      let place : w.count + 1 + i ≡ w.count + suc i = omega arith in
      rw (slot, place) at
      (send-describes n (packet_sent q addresses (handle_at lists w.count) w) i (omega arith) (length-described _ _ _ _ ∙ whole) (omega arith) (omega arith) (rw place short))
