-- Cleaning and a send, as runs of an id given back and of an id sent: a whole batch, batch after batch, and packet after packet. Where ids
-- stand is kept through each, and no id is lost or made. Cleaning ends because every batch given back makes the queue shorter.
use Prim.Native.Nat.{ℕ, zero, suc, ◌+◌, ◌%◌, ◌≤◌, ◌<◌}
use mathlib.Core.Path.{◌≡◌, refl, sym, ◌∙◌}
use mathlib.Core.Bool.{Bool, true, false}
use mathlib.Core.List.{List}
use lib.ListN.{length, get_or, take}
use lib.Seq.{get_or-set_other}
use lib.Dec.{eqb, leb}
use native.Mathlib.Omega.{arith}
use borrow.Author.Tests.{lt-leb, leb-true}
use Rattle.limits.specs.Limits.{SLOTS, BATCH}
use Rattle.laws.specs.Occurs.{ind, occurs}
use Rattle.laws.proofs.Test.{both_left}
use Rattle.laws.proofs.Occurs.{occurs-more}
use Rattle.pool.specs.declared.FreeStack.{FreeStack}
use Rattle.pool.specs.Hands.{HAND-OUT, HAND-SEND}
use Rattle.rules.specs.declared.Account.{Account}
use Rattle.rules.specs.Handles.{Handles, handle_at}
use Rattle.rules.specs.Account.{waiting, held}
use Rattle.rules.specs.Sound.{Sound, Full}
use Rattle.rules.specs.Send.{Cleaning, given_back, give_back, cleanable, clean_rule, Sending, packet_sent, send_rule}
use Rattle.rules.proofs.Lists.{queued}
use Rattle.rules.proofs.Queue.{Steady, given-steady, given-held, given_out, sent-steady, sent-held}

-- ---- the indices

-- n ids given back move the clean index by n
pub give-clean : (sent : List ℕ) (q n : ℕ) (w : Cleaning) → w.clean < SLOTS → (give_back sent q n w).clean ≡ (w.clean + n) % SLOTS
unfolding give_back given_back
give-clean sent q zero w below = omega arith
give-clean sent q (suc n) w below = give-clean sent q n (given_back sent q w) (omega arith) ∙ omega arith

-- n packets sent are counted, and move the tx index by n
pub send-count : (q : ℕ) (addresses : List ℕ) (lists : Handles) (n : ℕ) (w : Sending) → (send_rule q addresses lists n w).count ≡ w.count + n
unfolding send_rule packet_sent
send-count q addresses lists zero w = omega arith
send-count q addresses lists (suc n) w = send-count q addresses lists n (packet_sent q addresses (handle_at lists w.count) w) ∙ omega arith

pub send-tx : (q : ℕ) (addresses : List ℕ) (lists : Handles) (n : ℕ) (w : Sending) → w.tx < SLOTS → (send_rule q addresses lists n w).tx ≡ (w.tx + n) % SLOTS
unfolding send_rule packet_sent
send-tx q addresses lists zero w below = omega arith
send-tx q addresses lists (suc n) w below =
    send-tx q addresses lists n (packet_sent q addresses (handle_at lists w.count) w) (omega arith) ∙ omega arith

-- ---- cleaning, a batch at a time

module _ (batch : ℕ) (sent : List ℕ) (q tx : ℕ) (ring : List ℕ) where
  pub clean-none : (w : Cleaning) → clean_rule batch sent q tx ring zero w ≡ w
  unfolding clean_rule
  clean-none w = refl

  pub clean-stops : (turns : ℕ) (w : Cleaning) → cleanable batch tx ring w.clean ≡ false → clean_rule batch sent q tx ring (suc turns) w ≡ w
  unfolding clean_rule
  clean-stops turns w e = rw (e, clean_rule)

  pub clean-more : (turns : ℕ) (w : Cleaning) → cleanable batch tx ring w.clean ≡ true
      → clean_rule batch sent q tx ring (suc turns) w ≡ clean_rule batch sent q tx ring turns (give_back sent q batch w)
  unfolding clean_rule
  clean-more turns w e = rw (e, clean_rule)

  -- what each batch keeps holds of what cleaning leaves
  module _ (P : Cleaning → Type 0) (keeps : (w : Cleaning) → cleanable batch tx ring w.clean ≡ true → P w → P (give_back sent q batch w)) where
    pub clean-holds : (turns : ℕ) (w : Cleaning) → P w → P (clean_rule batch sent q tx ring turns w)
    clean-holds zero w p = rw (clean-none w) p
    clean-holds (suc turns) w p = by-case (cleanable batch tx ring w.clean) refl (λ v. clean-holds turns v)
      where
        by-case : (b : Bool) → cleanable batch tx ring w.clean ≡ b → ((v : Cleaning) → P v → P (clean_rule batch sent q tx ring turns v))
            → P (clean_rule batch sent q tx ring (suc turns) w)
        by-case true e again = rw (clean-more turns w e) (again (give_back sent q batch w) (keeps w e p))
        by-case false e again = rw (clean-stops turns w e) p

  -- a whole batch is pending
  pub batch-waits : (clean : ℕ) → cleanable batch tx ring clean ≡ true → batch ≤ waiting tx clean
  batch-waits clean e = leb-true batch (waiting tx clean) (both_left (leb batch (waiting tx clean)) _ e)

  -- with as many turns as there are slots pending, cleaning goes on until no batch can be cleaned
  pub clean-ends : (turns : ℕ) (w : Cleaning) → 0 < batch → tx < SLOTS → w.clean < SLOTS → waiting tx w.clean ≤ turns
      → cleanable batch tx ring (clean_rule batch sent q tx ring turns w).clean ≡ false
  clean-ends zero w some t c enough = rw (clean-none w, lt-leb batch (waiting tx w.clean) (omega arith))
  clean-ends (suc turns) w some t c enough = by-case (cleanable batch tx ring w.clean) refl (λ v. clean-ends turns v some t)
    where
      by-case : (b : Bool) → cleanable batch tx ring w.clean ≡ b
          → ((v : Cleaning) → v.clean < SLOTS → waiting tx v.clean ≤ turns → cleanable batch tx ring (clean_rule batch sent q tx ring turns v).clean ≡ false)
          → cleanable batch tx ring (clean_rule batch sent q tx ring (suc turns) w).clean ≡ false
      by-case true e again =
          let moved = give-clean sent q batch w c in
          rw (clean-more turns w e)
          (again (give_back sent q batch w) (rw moved (omega arith)) (rw moved (omega (arith, batch-waits w.clean e))))
      by-case false e again = rw (clean-stops turns w e) e

-- ---- where ids stand

module _ {a : Account} (full : Full a) (s : Sound a) (q : ℕ) (queue : q < a.sends) where
  -- the account at a turn of a cleaning, and at a turn of a send
  abbrev pub cleaning_from : List ℕ → ℕ → Cleaning → Account
  cleaning_from sent tx w = queued a w.free w.hands sent q w.clean tx

  abbrev pub sending_from : FreeStack → ℕ → Sending → Account
  sending_from free clean w = queued a free w.hands w.sent q clean w.tx

  abbrev pub Cleans : List ℕ → ℕ → Cleaning → Type 0
  Cleans sent tx w = Steady full s q queue w.free w.hands sent w.clean tx

  abbrev pub Sends : FreeStack → ℕ → Sending → Type 0
  Sends free clean w = Steady full s q queue free w.hands w.sent clean w.tx

  -- what giving back keeps: where ids stand, how often each does, and what the application has
  pub record Gave (sent : List ℕ) (tx : ℕ) (w after : Cleaning) : Type 0 where
    pub steady : Cleans sent tx after
    pub same-held : (x : ℕ) → held x (cleaning_from sent tx after) ≡ held x (cleaning_from sent tx w)
    pub still-out : (x : ℕ) → get_or w.hands x 0 ≡ HAND-OUT → get_or after.hands x 0 ≡ HAND-OUT

  gave_then : {sent : List ℕ} {tx : ℕ} {u v w : Cleaning} → Gave sent tx u v → Gave sent tx v w → Gave sent tx u w
  gave_then f g =
      record {
        steady = g.steady;
        same-held = λ x. g.same-held x ∙ f.same-held x;
        still-out = λ x out. g.still-out x (f.still-out x out);
      }

  gave-none : {sent : List ℕ} {tx : ℕ} {w : Cleaning} → Cleans sent tx w → Gave sent tx w w
  gave-none y = record { steady = y; same-held = λ x. refl; still-out = λ x out. out }

  -- one given back
  one-given : (sent : List ℕ) (tx : ℕ) (w : Cleaning) → Cleans sent tx w → 0 < waiting tx w.clean → Gave sent tx w (given_back sent q w)
  unfolding given_back
  one-given sent tx w y some =
      record {
        steady = given-steady full s q queue y some;
        same-held = given-held full s q queue y some;
        still-out = given_out full s q queue y some;
      }

  -- n given back
  pub give-keeps : (sent : List ℕ) (tx n : ℕ) (w : Cleaning) → Cleans sent tx w → n ≤ waiting tx w.clean → Gave sent tx w (give_back sent q n w)
  unfolding give_back given_back
  give-keeps sent tx zero w y enough = gave-none y
  give-keeps sent tx (suc n) w y enough =
      let first = one-given sent tx w y (omega arith) in
      gave_then first (give-keeps sent tx n (given_back sent q w) first.steady (omega (arith, y.clean-below, y.tx-below)))

  -- a whole cleaning
  pub clean-keeps : (sent : List ℕ) (tx : ℕ) (ring : List ℕ) (turns : ℕ) (w : Cleaning) → Cleans sent tx w → w.clean % BATCH ≡ 0
      → Gave sent tx w (clean_rule BATCH sent q tx ring turns w) × ((clean_rule BATCH sent q tx ring turns w).clean % BATCH ≡ 0)
  clean-keeps sent tx ring turns w y batches =
      clean-holds BATCH sent q tx ring (λ v. Gave sent tx w v × (v.clean % BATCH ≡ 0))
      (λ v e p. (
        gave_then p.0 (give-keeps sent tx BATCH v p.0.steady (batch-waits BATCH sent q tx ring v.clean e)),
        rw (give-clean sent q BATCH v p.0.steady.clean-below) (omega (arith, p.1)),
      ))
      turns w (gave-none y, batches)

  -- n handles of a list, from a place on, are with the application, and no two are of one id
  pub record Sendable (hands : List ℕ) (lists : Handles) (from n : ℕ) : Type 0 where
    pub known : (i : ℕ) → from ≤ i → i < from + n → (handle_at lists i).id < a.entries
    pub out : (i : ℕ) → from ≤ i → i < from + n → get_or hands (handle_at lists i).id 0 ≡ HAND-OUT
    pub new : (i j : ℕ) → j < i → i < from + n → (handle_at lists j).id ≡ (handle_at lists i).id → ⊥

  -- one sent
  module _ (addresses : List ℕ) (lists : Handles) (free : FreeStack) (clean : ℕ) (w : Sending) where
    after : Sending
    after = packet_sent q addresses (handle_at lists w.count) w

    one-sent : Sends free clean w → suc (waiting w.tx clean) < SLOTS → (handle_at lists w.count).id < a.entries
        → get_or w.hands (handle_at lists w.count).id 0 ≡ HAND-OUT
        → Sends free clean after × ((x : ℕ) → held x (sending_from free clean after) ≡ held x (sending_from free clean w) + ind (eqb x (handle_at lists w.count).id))
    unfolding packet_sent after
    one-sent y room known out =
        (sent-steady full s q queue y room (handle_at lists w.count).id known out, sent-held full s q queue y room (handle_at lists w.count).id known out)

    module _ (n : ℕ) where
      next-room : clean < SLOTS → w.tx < SLOTS → waiting w.tx clean + suc n < SLOTS → waiting after.tx clean + n < SLOTS
      unfolding packet_sent after
      next-room c t room = omega arith

      next-listed : w.count + suc n ≤ length lists.ids → after.count + n ≤ length lists.ids
      unfolding packet_sent after
      next-listed listed = omega arith

      -- the others are still with the application
      next-good : Sendable w.hands lists w.count (suc n) → Sendable after.hands lists after.count n
      unfolding packet_sent after
      next-good good =
          record {
            known = λ i from to. good.known i (omega arith) (omega arith);
            out = λ i from to.
                get_or-set_other w.hands (handle_at lists w.count).id (handle_at lists i).id (HAND-SEND + q) 0
                (λ e. good.new i w.count (omega arith) (omega arith) (sym e))
                ∙ good.out i (omega arith) (omega arith);
            new = λ i j before to. good.new i j before (omega arith);
          }

      counted : (x : ℕ) → w.count + suc n ≤ length lists.ids
          → held x (sending_from free clean after) ≡ held x (sending_from free clean w) + ind (eqb x (handle_at lists w.count).id)
          → held x (sending_from free clean (send_rule q addresses lists n after)) + occurs x (take after.count lists.ids)
          ≡ held x (sending_from free clean after) + occurs x (take (after.count + n) lists.ids)
          → held x (sending_from free clean (send_rule q addresses lists n after)) + occurs x (take w.count lists.ids)
          ≡ held x (sending_from free clean w) + occurs x (take (w.count + suc n) lists.ids)
      unfolding packet_sent after
      counted x listed first rest =
          let e : w.count + 1 + n ≡ w.count + suc n = omega arith in
          omega (arith, rw e at rest, first, occurs-more x lists.ids w.count (omega arith))

  -- n packets sent
  pub send-keeps : (addresses : List ℕ) (lists : Handles) (free : FreeStack) (clean n : ℕ) (w : Sending)
      → Sends free clean w → waiting w.tx clean + n < SLOTS → w.count + n ≤ length lists.ids → Sendable w.hands lists w.count n
      → Sends free clean (send_rule q addresses lists n w)
      × ((x : ℕ) → held x (sending_from free clean (send_rule q addresses lists n w)) + occurs x (take w.count lists.ids)
      ≡ held x (sending_from free clean w) + occurs x (take (w.count + n) lists.ids))
  unfolding send_rule after
  send-keeps addresses lists free clean zero w y room listed good = (y, λ x. let e : w.count + 0 ≡ w.count = omega arith in rw e)
  send-keeps addresses lists free clean (suc n) w y room listed good =
      let first = one-sent addresses lists free clean w y (omega arith) (good.known w.count (omega arith) (omega arith)) (good.out w.count (omega arith) (omega arith)) in
      let rest = send-keeps addresses lists free clean n (packet_sent q addresses (handle_at lists w.count) w) first.0 (next-room addresses lists free clean w n y.clean-below y.tx-below room) (next-listed addresses lists free clean w n listed) (next-good addresses lists free clean w n good) in
      (rest.0, λ x. counted addresses lists free clean w n x listed (first.1 x) (rest.1 x))
