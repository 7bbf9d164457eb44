-- The ledger and the account agree. Each call moves ids between the account's lists and the application, as its answer says and no
-- otherwise; so over a history every buffer stands once: in one of the account's lists, or with the application, given more often than
-- given back.
use Prim.Native.Nat.{ℕ, zero, suc, ◌+◌, ◌-◌, ◌<◌, min}
use mathlib.Core.Path.{◌≡◌, refl, sym, ap, subst, ◌∙◌}
use mathlib.Core.Bool.{Bool, true, false}
use mathlib.Core.List.{List}
use lib.ListN.{length, get_or, take, get_or-replicate}
use lib.Seq.{set-get_or}
use lib.Dec.{eqb, ltb, leb}
use native.Mathlib.Nat.{zero-add}
use native.Mathlib.Omega.{arith}
use borrow.Author.Tests.{eqb-true, ltb-true, leb-true, le-leb, not-true}
use Rattle.limits.specs.Limits.{ENTRIES, SENDS, SLOTS, RING-BYTES, HEADROOM}
use Rattle.laws.specs.Test.{pick}
use Rattle.laws.specs.Occurs.{ind, occurs, sum_to}
use Rattle.laws.proofs.Occurs.{take-up_from, occurs-up_from}
use Rattle.laws.proofs.Test.{both_left}
use Rattle.pool.specs.declared.Handle.{Handle}
use Rattle.rules.specs.declared.Account.{Account}
use Rattle.rules.specs.Answers.{Kept, Taken}
use Rattle.rules.specs.Verdict.{Done}
use Rattle.rules.specs.Handles.{Handles, has_room}
use Rattle.rules.specs.Account.{waiting, around, send_list, held, opened}
use Rattle.rules.specs.Sound.{InRange, sound, Sound, Full}
use Rattle.rules.specs.Refusals.{rings_fit, size_given, fresh_verdict, take_verdict, batch_of, batch_verdict, handle_verdict, clone_verdict, start_verdict, receive_verdict, handles_verdict, send_verdict}
use Rattle.rules.specs.Packets.{Batched, Cloned, fresh_call, take_call, take_many, batch_rule, taking_of, batch_call, release_call, clone_call}
use Rattle.rules.specs.Receive.{AfterStart, AfterReceive, start_call, receiving, receive_rule, receive_call}
use Rattle.rules.specs.Send.{Cleaning, cleaning, cleaned, Sending, sending, sent_after, room_after, AfterSend, send_call}
use Rattle.rules.proofs.Lists.{queued}
use Rattle.rules.proofs.Sound.{in-range-means, good-means}
use Rattle.rules.proofs.Verdicts.{verdict-holds, room-means}
use Rattle.rules.proofs.Packets.{taken-held, released-held, taking_from, many-held}
use Rattle.rules.proofs.Start.{started-held}
use Rattle.rules.proofs.Receive.{receiving_from, receive-held}
use Rattle.rules.proofs.Queue.{steady-start}
use Rattle.rules.proofs.Send.{clean-keeps, send-keeps, send-count}
use Rattle.rules.proofs.Calls.{Whole, fresh-done, take_done, batch-done, handle-done, clone-done, start-done, receive-done, send-done, sendable-all}
use Rattle.promises.specs.History.{Step, History}
use Rattle.promises.specs.History as h
use Rattle.promises.specs.Ledger.{once_if_done, gave, gave_back, given, returned, buffers}
use Rattle.promises.proofs.Always.{fresh-passed, always-whole}

-- ---- each call

-- a started account as a receive begins with it
started-same : (a : Account) (ring : List ℕ) (lists : Handles) (x : ℕ) → a.started ≡ true → held x (receiving_from a (receiving a ring lists)) ≡ held x a
unfolding held
started-same a ring lists x on = rw on

module _ {a : Account} (full : Full a) (s : Sound a) (x : ℕ) where
  pub take-balance : (len : ℕ) → held x (take_call a len).account + once_if_done (take_call a len).verdict (take_call a len).handle.id x ≡ held x a
  unfolding take_call
  take-balance len =
      verdict-holds (λ (r : Taken). held x r.account + once_if_done r.verdict r.handle.id x ≡ held x a) (take_verdict a len) _ _
      (λ e. taken-held full s x (ltb-true 0 a.free.depth (take_done a len e).2))
      (λ why e. omega arith)

  pub clone-balance : (h : Handle) (memory : List ℕ)
      → held x (clone_call a h memory).answer.account + once_if_done (clone_call a h memory).answer.verdict (clone_call a h memory).answer.handle.id x ≡ held x a
  unfolding clone_call
  clone-balance h memory =
      verdict-holds (λ (r : Cloned). held x r.answer.account + once_if_done r.answer.verdict r.answer.handle.id x ≡ held x a) (clone_verdict a h (length memory)) _ _
      (λ e. taken-held full s x (ltb-true 0 a.free.depth (clone-done a h (length memory) e).4))
      (λ why e. omega arith)

  pub release-balance : (h : Handle) → held x (release_call a h).account ≡ held x a + once_if_done (release_call a h).verdict h.id x
  unfolding release_call
  release-balance h =
      verdict-holds (λ (r : Kept). held x r.account ≡ held x a + once_if_done r.verdict h.id x) (handle_verdict a h) _ _
      (λ e. let good = good-means a h (handle-done a h e).1 in released-held full s h.id x good.known good.out)
      (λ why e. omega arith)

  pub batch-balance : (n len : ℕ) (lists : Handles)
      → held x (batch_call a n len lists).answer.account + occurs x (take (batch_call a n len lists).answer.count (batch_call a n len lists).lists.ids) ≡ held x a
  unfolding batch_call batch_rule
  batch-balance n len lists =
      verdict-holds (λ (r : Batched). held x r.answer.account + occurs x (take r.answer.count r.lists.ids) ≡ held x a) (batch_verdict a n lists) _ _
      (λ e. by_size (leb len (a.size - HEADROOM)) (batch-done a n lists e).1)
      (λ why e. omega arith)
    where
      by_size : (b : Bool) → has_room (min (batch_of n) a.entries) lists ≡ true
          → held x (taking_from a (pick b (take_many a.pool len (batch_of n) (taking_of a lists)) (taking_of a lists)))
          + occurs x (take (pick b (take_many a.pool len (batch_of n) (taking_of a lists)) (taking_of a lists)).count (pick b (take_many a.pool len (batch_of n) (taking_of a lists)) (taking_of a lists)).lists.ids)
          ≡ held x a
      by_size true e =
          let room = room-means (min (batch_of n) a.entries) lists e in
          many-held a a.pool len (batch_of n) (taking_of a lists) x full s
          (record {
            pools = omega (arith, room.pools, s.free-count);
            ids = omega (arith, room.ids, s.free-count);
            offsets = omega (arith, room.offsets, s.free-count);
            lengths = omega (arith, room.lengths, s.free-count);
          })
          ∙ omega arith
      by_size false e = omega arith

  pub start-balance : (q : ℕ) (ring addresses : List ℕ) → held x (start_call a q ring addresses).answer.account ≡ held x a
  unfolding start_call
  start-balance q ring addresses =
      verdict-holds (λ (r : AfterStart). held x r.answer.account ≡ held x a) (start_verdict a q ring addresses) _ _
      (λ e. let d = start-done a q ring addresses e in started-held full s (not-true a.started d.3) ring addresses (leb-true SLOTS a.free.depth d.4) x)
      (λ why e. refl)

  pub receive-balance : (q : ℕ) (ring addresses : List ℕ) (n : ℕ) (lists : Handles)
      → held x (receive_call a q ring addresses n lists).answer.account
      + occurs x (take (receive_call a q ring addresses n lists).answer.count (receive_call a q ring addresses n lists).lists.ids) ≡ held x a
  unfolding receive_call
  receive-balance q ring addresses n lists =
      verdict-holds (λ (r : AfterReceive). held x r.answer.account + occurs x (take r.answer.count r.lists.ids) ≡ held x a)
      (receive_verdict a q ring addresses n lists) _ _
      (λ e. ran (receive-done a q ring addresses n lists e))
      (λ why e. omega arith)
    where
      same-account : a.started ≡ true → held x (receiving_from a (receiving a ring lists)) ≡ held x a
      same-account on = started-same a ring lists x on

      started-sound-as : a.started ≡ true → Sound (receiving_from a (receiving a ring lists))
      started-sound-as on = rw on at s

      ran : (sound a ≡ true) × (rings_fit a.entries ring addresses ≡ true) × (has_room (min n SLOTS) lists ≡ true) × (ltb q a.receives ≡ true) × (a.started ≡ true)
          → held x (receiving_from a (receive_rule a.pool a.size addresses n (receiving a ring lists)).work)
          + occurs x (take (receive_rule a.pool a.size addresses n (receiving a ring lists)).work.count (receive_rule a.pool a.size addresses n (receiving a ring lists)).work.lists.ids)
          ≡ held x a
      ran d =
          let room = room-means (min n SLOTS) lists d.2 in
          receive-held a a.pool a.size addresses n (receiving a ring lists) x
          (record { stack = full.stack; hands = full.hands; slots = full.slots; sent = full.sent; clean = full.clean; tx = full.tx })
          (started-sound-as d.4)
          (record {
            place = s.rx-below;
            whole = eqb-true (length ring) RING-BYTES (both_left (eqb (length ring) RING-BYTES) _ d.1);
            room = record {
              pools = omega (arith, room.pools);
              ids = omega (arith, room.ids);
              offsets = omega (arith, room.offsets);
              lengths = omega (arith, room.lengths);
            };
            not-over = omega arith;
            cleared = λ j l. absurd (omega arith);
          })
          ∙ omega (arith, same-account d.4)

  pub send-balance : (q : ℕ) (ring addresses : List ℕ) (lists : Handles)
      → held x (send_call a q ring addresses lists).answer.account ≡ held x a + occurs x (take (send_call a q ring addresses lists).answer.count lists.ids)
  unfolding send_call
  send-balance q ring addresses lists =
      verdict-holds (λ (r : AfterSend). held x r.answer.account ≡ held x a + occurs x (take r.answer.count lists.ids)) (send_verdict a q ring addresses lists) _ _
      (λ e. ran (send-done a q ring addresses lists e))
      (λ why e. omega arith)
    where
      c : Cleaning
      c = cleaned a q ring

      w : Sending
      w = sent_after a q ring addresses lists c

      n : ℕ
      n = min (length lists.ids) (room_after a q c)

      ran : (sound a ≡ true) × (rings_fit a.entries ring addresses ≡ true) × (has_room (length lists.ids) lists ≡ true) × (ltb q a.sends ≡ true)
          × (handles_verdict a lists 0 (length lists.ids) ≡ Done)
          → held x (queued a c.free w.hands w.sent q c.clean w.tx) ≡ held x a + occurs x (take w.count lists.ids)
      ran d =
          let queue = ltb-true q a.sends d.3 in
          let clean = clean-keeps full s q queue a.sent (get_or a.tx q 0) ring (waiting (get_or a.tx q 0) (get_or a.clean q 0)) (cleaning a q)
          (steady-start full s q queue) (s.queues q queue).whole-batches in
          let y = send-keeps full s q queue addresses lists c.free c.clean n (sending a q ring c)
          clean.0.steady (omega arith) (omega arith) (sendable-all full s lists _ q queue c.hands d.4 (omega arith) (λ id below out. clean.0.still-out id out)) in
          let counted : w.count ≡ 0 + n = send-count q addresses lists n (sending a q ring c) in
          let begun : held x (queued a a.free a.hands a.sent q (get_or a.clean q 0) (get_or a.tx q 0)) ≡ held x a = rw (set-get_or a.clean q 0, set-get_or a.tx q 0) in
          rw counted (omega (arith, y.1 x, clean.0.same-held x, begun))

-- ---- each step, and a history

step-balance : {a b : Account} (x : ℕ) → Whole a → (t : Step a b) → held x b + gave x t ≡ held x a + gave_back x t
unfolding gave gave_back
step-balance x w (h.counts r e) = refl
step-balance {a} x w (h.take len r e) =
    subst (λ (o : Taken). held x o.account + once_if_done o.verdict o.handle.id x ≡ held x a + 0) (sym e) (take-balance w.0 w.1 x len ∙ omega arith)
step-balance {a} x w (h.batch n len lists left r e) =
    subst (λ (o : Batched). held x o.answer.account + occurs x (take o.answer.count o.lists.ids) ≡ held x a + 0) (sym e)
    (batch-balance w.0 w.1 x n len lists ∙ omega arith)
step-balance {a} x w (h.release handle r e) =
    subst (λ (o : Kept). held x o.account + 0 ≡ held x a + once_if_done o.verdict handle.id x) (sym e) (omega (arith, release-balance w.0 w.1 x handle))
step-balance x w (h.truncate handle len r e) = refl
step-balance {a} x w (h.clone handle memory left r e) =
    subst (λ (o : Cloned). held x o.answer.account + once_if_done o.answer.verdict o.answer.handle.id x ≡ held x a + 0) (sym e)
    (clone-balance w.0 w.1 x handle memory ∙ omega arith)
step-balance x w (h.view handle memory part e) = refl
step-balance x w (h.headroom handle asked memory part e) = refl
step-balance {a} x w (h.start q ring addresses left r e) =
    subst (λ (o : AfterStart). held x o.answer.account + 0 ≡ held x a + 0) (sym e) (omega (arith, start-balance w.0 w.1 x q ring addresses))
step-balance {a} x w (h.receive q ring addresses n lists left filled r e) =
    subst (λ (o : AfterReceive). held x o.answer.account + occurs x (take o.answer.count o.lists.ids) ≡ held x a + 0) (sym e)
    (receive-balance w.0 w.1 x q ring addresses n lists ∙ omega arith)
step-balance {a} x w (h.send q ring addresses lists left r e) =
    subst (λ (o : AfterSend). held x o.answer.account + 0 ≡ held x a + occurs x (take o.answer.count lists.ids)) (sym e)
    (omega (arith, send-balance w.0 w.1 x q ring addresses lists))

-- a sum of nothing
no-sum : (n : ℕ) (f : ℕ → ℕ) → ((q : ℕ) → q < n → f q ≡ 0) → sum_to n f ≡ 0
unfolding sum_to
no-sum zero f none = refl
no-sum (suc n) f none = rw (no-sum n f (λ q l. none q (omega arith)), none n (omega arith))

module _ (pool entries size receives sends x : ℕ) (numbers : InRange entries size receives sends) where
  none-sent : (q : ℕ) → q < sends → occurs x (send_list (opened pool entries size receives sends) q) ≡ 0
  unfolding opened around
  none-sent q below = rw (get_or-replicate {A = ℕ} SENDS q 0 0 (omega (arith, numbers.few-sends)))

  -- every buffer of a fresh account is free
  fresh-held : held x (opened pool entries size receives sends) ≡ ind (ltb x entries)
  unfolding held opened
  fresh-held =
      rw (
        take-up_from 0 entries ENTRIES numbers.few-entries,
        occurs-up_from x 0 entries,
        le-leb 0 x (omega arith),
        zero-add,
        no-sum sends (λ q. occurs x (send_list (opened pool entries size receives sends) q)) none-sent,
      )
      (omega arith)

pub fresh-opened : (pool entries size receives sends : ℕ) → fresh_verdict entries size receives sends ≡ Done
    → (fresh_call pool entries size receives sends).account ≡ opened pool entries (size_given size) receives sends
unfolding fresh_call
fresh-opened pool entries size receives sends e = rw e

-- over every history: what the account's lists have of an id, and what answers gave of it, is once for a buffer of the pool and what came back
pub balance : {a : Account} (t : History a) (x : ℕ) → held x a + given x t ≡ ind (ltb x (buffers t)) + returned x t
unfolding given returned buffers
balance (h.fresh pool entries size receives sends r e done) x =
    let passed = fresh-passed pool entries size receives sends (rw e at done) in
    let numbers = in-range-means entries (size_given size) receives sends (fresh-done entries size receives sends passed) in
    rw (ap (λ (k : Kept). k.account) e ∙ fresh-opened pool entries size receives sends passed, fresh-held pool entries (size_given size) receives sends x numbers)
balance (h.call before t) x = omega (arith, balance before x, step-balance x (always-whole before) t)
