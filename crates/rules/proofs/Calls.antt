-- Each call of the account keeps a sound account sound: a refusal leaves it as it was, and a call that is done has passed the tests that
-- its rule's laws ask for.
use Prim.Native.Nat.{ℕ, ◌-◌, ◌≤◌, ◌<◌, min}
use mathlib.Core.Path.{◌≡◌}
use mathlib.Core.Bool.{Bool, true, false, not}
use mathlib.Core.List.{List}
use lib.ListN.{length, get_or}
use lib.Dec.{ltb, leb}
use native.Mathlib.Omega.{arith}
use borrow.Author.Tests.{ltb-true, leb-true, not-true}
use Rattle.limits.specs.Limits.{SLOTS, HEADROOM}
use Rattle.laws.specs.Test.{pick}
use Rattle.laws.proofs.Test.{both_left, both_right}
use Rattle.pool.specs.declared.Handle.{Handle}
use Rattle.pool.specs.Hands.{HAND-OUT}
use Rattle.rules.specs.declared.Account.{Account}
use Rattle.rules.specs.Verdict.{Done}
use Rattle.rules.specs.Answers.{Kept, Taken}
use Rattle.rules.specs.Handles.{Handles, handle_at, has_room}
use Rattle.rules.specs.Account.{waiting}
use Rattle.rules.specs.Sound.{in_range, is_good, Good, sound, Sound, Full}
use Rattle.rules.specs.Refusals.{rings_fit, memory_fits, packet_fits, size_given, fresh_verdict, take_verdict, batch_of, batch_verdict, handle_verdict, clone_verdict, start_verdict, receive_verdict, sendable, handles_verdict, send_verdict}
use Rattle.rules.specs.Packets.{Batched, Cloned, fresh_call, take_call, take_many, batch_rule, batch_call, taking_of, release_call, clone_call}
use Rattle.rules.specs.Receive.{AfterStart, AfterReceive, start_call, receiving, receive_call}
use Rattle.rules.specs.Send.{Cleaning, cleaning, cleaned, Sending, sending, room_after, sent_after, AfterSend, send_call}
use Rattle.rules.proofs.Lists.{queued}
use Rattle.rules.proofs.Sound.{in-range-means, good-means}
use Rattle.rules.proofs.Verdicts.{unless-done, verdict-holds, handles-done, sendable-good, sendable-new}
use Rattle.rules.proofs.Packets.{opened-full, opened-sound, taken-full, taken-sound, released-full, released-sound, taking_from, many-sound}
use Rattle.rules.proofs.Start.{started-full, started-sound}
use Rattle.rules.proofs.Receive.{receiving_from, receive-sound}
use Rattle.rules.proofs.Queue.{steady-start, queued-full, queued-sound}
use Rattle.rules.proofs.Send.{Sendable, clean-keeps, send-keeps}

-- an account with its arrays whole, and sound
abbrev pub Whole : Account → Type 0
Whole a = Full a × Sound a

-- ---- what a call that is done has passed

pub fresh-done : (entries size receives sends : ℕ) → fresh_verdict entries size receives sends ≡ Done → in_range entries (size_given size) receives sends ≡ true
unfolding fresh_verdict
fresh-done entries size receives sends e = (unless-done _ _ _ e).0

module _ (a : Account) where
  pub take_done : (len : ℕ) → take_verdict a len ≡ Done → (sound a ≡ true) × (packet_fits a len ≡ true) × (ltb 0 a.free.depth ≡ true)
  unfolding take_verdict
  take_done len e =
      let p = unless-done _ _ _ e in
      let p1 = unless-done _ _ _ p.1 in
      (p.0, p1.0, (unless-done _ _ _ p1.1).0)

  pub batch-done : (n : ℕ) (lists : Handles) → batch_verdict a n lists ≡ Done → (sound a ≡ true) × (has_room (min (batch_of n) a.entries) lists ≡ true)
  unfolding batch_verdict
  batch-done n lists e = let p = unless-done _ _ _ e in (p.0, (unless-done _ _ _ p.1).0)

  module _ (h : Handle) where
    pub handle-done : handle_verdict a h ≡ Done → (sound a ≡ true) × (is_good a h ≡ true)
    unfolding handle_verdict
    handle-done e = let p = unless-done _ _ _ e in (p.0, (unless-done _ _ _ p.1).0)

    pub clone-done : (bytes : ℕ) → clone_verdict a h bytes ≡ Done
        → (sound a ≡ true) × (memory_fits a bytes ≡ true) × (is_good a h ≡ true) × (packet_fits a h.length ≡ true) × (ltb 0 a.free.depth ≡ true)
    unfolding clone_verdict
    clone-done bytes e =
        let p = unless-done _ _ _ e in
        let p1 = unless-done _ _ _ p.1 in
        let p2 = unless-done _ _ _ p1.1 in
        let p3 = unless-done _ _ _ p2.1 in
        (p.0, p1.0, p2.0, p3.0, (unless-done _ _ _ p3.1).0)

  module _ (q : ℕ) (ring addresses : List ℕ) where
    pub start-done : start_verdict a q ring addresses ≡ Done
        → (sound a ≡ true) × (rings_fit a.entries ring addresses ≡ true) × (ltb q a.receives ≡ true) × (not a.started ≡ true) × (leb SLOTS a.free.depth ≡ true)
    unfolding start_verdict
    start-done e =
        let p = unless-done _ _ _ e in
        let p1 = unless-done _ _ _ p.1 in
        let p2 = unless-done _ _ _ p1.1 in
        let p3 = unless-done _ _ _ p2.1 in
        (p.0, p1.0, p2.0, p3.0, (unless-done _ _ _ p3.1).0)

    pub receive-done : (n : ℕ) (lists : Handles) → receive_verdict a q ring addresses n lists ≡ Done
        → (sound a ≡ true) × (rings_fit a.entries ring addresses ≡ true) × (has_room (min n SLOTS) lists ≡ true) × (ltb q a.receives ≡ true) × (a.started ≡ true)
    unfolding receive_verdict
    receive-done n lists e =
        let p = unless-done _ _ _ e in
        let p1 = unless-done _ _ _ p.1 in
        let p2 = unless-done _ _ _ p1.1 in
        (p.0, both_left (rings_fit a.entries ring addresses) _ p1.0, both_right (rings_fit a.entries ring addresses) _ p1.0, p2.0, (unless-done _ _ _ p2.1).0)

    pub send-done : (lists : Handles) → send_verdict a q ring addresses lists ≡ Done
        → (sound a ≡ true) × (rings_fit a.entries ring addresses ≡ true) × (has_room (length lists.ids) lists ≡ true) × (ltb q a.sends ≡ true)
        × (handles_verdict a lists 0 (length lists.ids) ≡ Done)
    unfolding send_verdict
    send-done lists e =
        let p = unless-done _ _ _ e in
        let p1 = unless-done _ _ _ p.1 in
        let p2 = unless-done _ _ _ p1.1 in
        (p.0, both_left (rings_fit a.entries ring addresses) _ p1.0, both_right (rings_fit a.entries ring addresses) _ p1.0, p2.0, p2.1)

-- ---- fresh

-- a fresh account that is done is sound
pub fresh-whole : (pool entries size receives sends : ℕ) → fresh_verdict entries size receives sends ≡ Done
    → Whole (fresh_call pool entries size receives sends).account
unfolding fresh_call
fresh-whole pool entries size receives sends e =
    rw e (
      opened-full pool entries (size_given size) receives sends,
      opened-sound pool entries (size_given size) receives sends (in-range-means entries (size_given size) receives sends (fresh-done entries size receives sends e)),
    )

-- ---- packets

module _ {a : Account} (full : Full a) (s : Sound a) where
  pub take-keeps : (len : ℕ) → Whole (take_call a len).account
  unfolding take_call
  take-keeps len =
      verdict-holds (λ (r : Taken). Whole r.account) (take_verdict a len) _ _
      (λ e. (taken-full full s, taken-sound full s (ltb-true 0 a.free.depth (take_done a len e).2)))
      (λ why e. (full, s))

  pub clone-keeps : (h : Handle) (memory : List ℕ) → Whole (clone_call a h memory).answer.account
  unfolding clone_call
  clone-keeps h memory =
      verdict-holds (λ (r : Cloned). Whole r.answer.account) (clone_verdict a h (length memory)) _ _
      (λ e. (taken-full full s, taken-sound full s (ltb-true 0 a.free.depth (clone-done a h (length memory) e).4)))
      (λ why e. (full, s))

  pub release-keeps : (h : Handle) → Whole (release_call a h).account
  unfolding release_call
  release-keeps h =
      verdict-holds (λ (r : Kept). Whole r.account) (handle_verdict a h) _ _
      (λ e. let good = good-means a h (handle-done a h e).1 in (released-full full s h.id, released-sound full s h.id good.known good.out))
      (λ why e. (full, s))

  pub batch-keeps : (n len : ℕ) (lists : Handles) → Whole (batch_call a n len lists).answer.account
  unfolding batch_call batch_rule
  batch-keeps n len lists =
      verdict-holds (λ (r : Batched). Whole r.answer.account) (batch_verdict a n lists) _ _
      (λ e. by_size (leb len (a.size - HEADROOM)))
      (λ why e. (full, s))
    where
      by_size : (b : Bool) → Whole (taking_from a (pick b (take_many a.pool len (batch_of n) (taking_of a lists)) (taking_of a lists)))
      by_size true = many-sound a a.pool len (batch_of n) (taking_of a lists) full s
      by_size false = (full, s)

  -- ---- rings

  pub start-keeps : (q : ℕ) (ring addresses : List ℕ) → Whole (start_call a q ring addresses).answer.account
  unfolding start_call
  start-keeps q ring addresses =
      verdict-holds (λ (r : AfterStart). Whole r.answer.account) (start_verdict a q ring addresses) _ _
      (λ e.
      let d = start-done a q ring addresses e in
      let off = not-true a.started d.3 in
      let enough = leb-true SLOTS a.free.depth d.4 in
      (started-full full s off ring addresses enough, started-sound full s off ring addresses enough (omega (arith, ltb-true q a.receives d.2))))
      (λ why e. (full, s))

  pub receive-keeps : (q : ℕ) (ring addresses : List ℕ) (n : ℕ) (lists : Handles) → Whole (receive_call a q ring addresses n lists).answer.account
  unfolding receive_call
  receive-keeps q ring addresses n lists =
      verdict-holds (λ (r : AfterReceive). Whole r.answer.account) (receive_verdict a q ring addresses n lists) _ _
      (λ e.
      let on = (receive-done a q ring addresses n lists e).4 in
      receive-sound a a.pool a.size addresses n (receiving a ring lists) (started-full-as on) (started-as on))
      (λ why e. (full, s))
    where
      started-full-as : a.started ≡ true → Full (receiving_from a (receiving a ring lists))
      started-full-as on = record { stack = full.stack; hands = full.hands; slots = full.slots; sent = full.sent; clean = full.clean; tx = full.tx }

      started-as : a.started ≡ true → Sound (receiving_from a (receiving a ring lists))
      started-as on = rw on at s

  -- the tests of a send give what sending n of its handles asks
  pub sendable-all : (lists : Handles) (n : ℕ) (q : ℕ) (queue : q < a.sends) (hands : List ℕ)
      → handles_verdict a lists 0 (length lists.ids) ≡ Done → n ≤ length lists.ids
      → ((id : ℕ) → id < a.entries → get_or a.hands id 0 ≡ HAND-OUT → get_or hands id 0 ≡ HAND-OUT)
      → Sendable full s q queue hands lists 0 n
  sendable-all lists n q queue hands e few still =
      record {
        known = λ i from to. (good i (omega arith)).known;
        out = λ i from to. still _ (good i (omega arith)).known (good i (omega arith)).out;
        new = λ i j before to. sendable-new a lists i (fine i (omega arith)) (omega arith) j before;
      }
    where
      fine : (i : ℕ) → i < length lists.ids → sendable a lists i ≡ true
      fine i below = handles-done a lists 0 (length lists.ids) e i (omega arith) (omega arith)

      good : (i : ℕ) → i < length lists.ids → Good a (handle_at lists i)
      good i below = sendable-good a lists i (fine i below)

  pub send-keeps-account : (q : ℕ) (ring addresses : List ℕ) (lists : Handles) → Whole (send_call a q ring addresses lists).answer.account
  unfolding send_call
  send-keeps-account q ring addresses lists =
      verdict-holds (λ (r : AfterSend). Whole r.answer.account) (send_verdict a q ring addresses lists) _ _
      (λ e. sent-whole (send-done a q ring addresses lists e))
      (λ why e. (full, s))
    where
      c : Cleaning
      c = cleaned a q ring

      w : Sending
      w = sent_after a q ring addresses lists c

      sent-whole : (sound a ≡ true) × (rings_fit a.entries ring addresses ≡ true) × (has_room (length lists.ids) lists ≡ true) × (ltb q a.sends ≡ true)
          × (handles_verdict a lists 0 (length lists.ids) ≡ Done)
          → Whole (queued a c.free w.hands w.sent q c.clean w.tx)
      sent-whole d =
          let queue = ltb-true q a.sends d.3 in
          let clean = clean-keeps full s q queue a.sent (get_or a.tx q 0) ring (waiting (get_or a.tx q 0) (get_or a.clean q 0)) (cleaning a q)
          (steady-start full s q queue) (s.queues q queue).whole-batches in
          let y = send-keeps full s q queue addresses lists c.free c.clean (min (length lists.ids) (room_after a q c)) (sending a q ring c)
          clean.0.steady (omega arith) (omega arith) (sendable-all lists _ q queue c.hands d.4 (omega arith) (λ id below out. clean.0.still-out id out)) in
          (queued-full full s q queue y.0, queued-sound full s q queue y.0 clean.1)
