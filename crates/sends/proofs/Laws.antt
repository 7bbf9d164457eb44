-- The loops of cleaning and of a send, a turn at a time. The cleaning's invariant, `Along`: what is left to do at the loop's head is what was to
-- do at the start, and all that is pending there can still be given back. Each way out of a turn is one law.
use Prim.Native.Nat.{ℕ, zero, suc, ◌+◌, ◌-◌, ◌%◌, ◌≤◌, ◌<◌}
use mathlib.Core.Path.{◌≡◌, refl, sym, ◌∙◌}
use mathlib.Core.Bool.{true, false}
use mathlib.Core.List.{List}
use lib.ListN.{get_or, set}
use lib.Dec.{leb}
use native.Mathlib.Omega.{arith}
use borrow.Author.Tests.{le-leb, lt-leb}
use Rattle.limits.specs.Limits.{SLOTS}
use Rattle.laws.proofs.Test.{both_true, both_false}
use Rattle.words.specs.Slots.{sent_at}
use Rattle.rules.specs.Handles.{Handles, handle_at}
use Rattle.pool.specs.Hands.{HAND-FREE}
use Rattle.rules.specs.Account.{waiting, next_slot, send_place}
use Rattle.rules.specs.Send.{Cleaning, given_back, give_back, batch_last, cleanable, clean_rule, Sending, packet_sent, send_rule}
use Rattle.rules.proofs.Send.{give-clean, clean-none, clean-stops, clean-more}
use Rattle.sends.specs.Lent.{cleaning_as, Givable, Cleanable, sending_as}

-- ---- ids given back

module _ (sent : List ℕ) (q n i : ℕ) (w : Cleaning) where
  -- one of those that are left
  pub give-step : i < n → give_back sent q (n - i) w ≡ give_back sent q (n - (i + 1)) (given_back sent q w)
  unfolding give_back
  give-step below = let e : n - i ≡ suc (n - (i + 1)) = omega arith in rw e

  pub give-none : n ≤ i → give_back sent q (n - i) w ≡ w
  unfolding give_back
  give-none past = let e : n - i ≡ 0 = omega arith in rw e

-- the work after i of n ids, by the numbers: the place on the stack and in the ring
module _ (sent : List ℕ) (q n clean depth i : ℕ) (stack hands : List ℕ) where
  abbrev given : ℕ → List ℕ → List ℕ → Cleaning
  given k l m = cleaning_as l (depth + k) m ((clean + k) % SLOTS)

  abbrev here : ℕ
  here = get_or sent (send_place q ((clean + i) % SLOTS)) 0

  pub give-turn : i < n
      → give_back sent q (n - (i + 1)) (given (i + 1) (set stack (depth + i) here) (set hands here HAND-FREE)) ≡ give_back sent q (n - i) (given i stack hands)
  unfolding given_back
  give-turn below =
      let slot : (clean + (i + 1)) % SLOTS ≡ ((clean + i) % SLOTS + 1) % SLOTS = omega arith in
      let deep : depth + (i + 1) ≡ depth + i + 1 = omega arith in
      rw (slot, deep) (sym (give-step sent q n i (given i stack hands) below))

-- n ids given back are n more on the stack
give-depth : (sent : List ℕ) (q n : ℕ) (w : Cleaning) → (give_back sent q n w).free.depth ≡ w.free.depth + n
unfolding give_back given_back
give-depth sent q zero w = omega arith
give-depth sent q (suc n) w = give-depth sent q n (given_back sent q w) ∙ omega arith

-- n of m ids that can be given back
givable-first : {m : ℕ} {sent : List ℕ} {q clean depth : ℕ} (n : ℕ) → n ≤ m → Givable m sent q clean depth → Givable n sent q clean depth
givable-first n few g =
    record { queue = g.queue; place = g.place; room = omega (arith, g.room); known = λ i h. g.known i (omega arith) }

-- n of m ids given back: the others can still be
givable-rest : {m : ℕ} {sent : List ℕ} {q clean depth : ℕ} (n : ℕ) → n ≤ m → Givable m sent q clean depth
    → Givable (m - n) sent q ((clean + n) % SLOTS) (depth + n)
givable-rest {m} {sent} {q} {clean} {depth} n few g =
    record {
      queue = g.queue;
      place = omega arith;
      room = omega (arith, g.room);
      known = λ i h. let e : ((clean + n) % SLOTS + i) % SLOTS ≡ (clean + (n + i)) % SLOTS = omega arith in rw e (g.known (n + i) (omega arith));
    }

-- ---- the loop of cleaning

-- at least as many turns are left as slots are pending, and with them the rest is done as at the start
pub record Along (batch : ℕ) (ring sent : List ℕ) (q tx : ℕ) (w₀ w : Cleaning) : Type 0 where
  pub turns : ℕ
  pub enough : waiting tx w.clean ≤ turns
  pub rule : clean_rule batch sent q tx ring turns w ≡ clean_rule batch sent q tx ring (waiting tx w₀.clean) w₀
  pub ready : Cleanable batch ring sent q tx w.clean w.free.depth

module _ (batch : ℕ) (ring sent : List ℕ) (q tx : ℕ) where
  pub along-start : (w : Cleaning) → Cleanable batch ring sent q tx w.clean w.free.depth → Along batch ring sent q tx w w
  along-start w ready = record { turns = waiting tx w.clean; enough = omega arith; rule = refl; ready = ready }

  stops-within : (turns : ℕ) (w : Cleaning) → cleanable batch tx ring w.clean ≡ false → clean_rule batch sent q tx ring turns w ≡ w
  stops-within zero w e = clean-none batch sent q tx ring w
  stops-within (suc turns) w e = clean-stops batch sent q tx ring turns w e

module _ {batch : ℕ} {ring sent : List ℕ} {q tx : ℕ} {w₀ w : Cleaning} (along : Along batch ring sent q tx w₀ w) where
  stopped : cleanable batch tx ring w.clean ≡ false → w ≡ clean_rule batch sent q tx ring (waiting tx w₀.clean) w₀
  stopped e = sym (stops-within batch ring sent q tx along.turns w e) ∙ along.rule

  -- no whole batch is pending
  pub along-few : waiting tx w.clean < batch → w ≡ clean_rule batch sent q tx ring (waiting tx w₀.clean) w₀
  along-few few = stopped (rw (lt-leb batch (waiting tx w.clean) few))

  -- the card has not sent the last of the batch
  pub along-unsent : sent_at (batch_last batch w.clean) ring ≡ false → w ≡ clean_rule batch sent q tx ring (waiting tx w₀.clean) w₀
  along-unsent unsent = stopped (rw unsent (both_false (leb batch (waiting tx w.clean))))

  module _ (waits : batch ≤ waiting tx w.clean) where
    pub along-givable : Givable batch sent q w.clean w.free.depth
    along-givable = givable-first batch waits along.ready.givable

    moved : (give_back sent q batch w).clean ≡ (w.clean + batch) % SLOTS
    moved = give-clean sent q batch w along.ready.givable.place

    fewer : waiting tx ((w.clean + batch) % SLOTS) ≡ waiting tx w.clean - batch
    fewer = omega (arith, waits, along.ready.index, along.ready.givable.place)

    pub along-less : waiting tx (give_back sent q batch w).clean < waiting tx w.clean
    along-less = rw moved (omega (arith, fewer, waits, along.ready.some))

    -- a whole batch was given back
    pub along-batch : sent_at (batch_last batch w.clean) ring ≡ true → Along batch ring sent q tx w₀ (give_back sent q batch w)
    along-batch done =
        let more = both_true (le-leb batch (waiting tx w.clean) waits) done in
        let one : along.turns ≡ suc (along.turns - 1) = omega (arith, along.enough, along.ready.some) in
        record {
          turns = along.turns - 1;
          enough = omega (arith, along-less, along.enough);
          rule = sym (clean-more batch sent q tx ring (along.turns - 1) w more) ∙ rw one at along.rule;
          ready = rw (moved, give-depth sent q batch w)
              (record {
                some = along.ready.some;
                small = along.ready.small;
                index = along.ready.index;
                whole = along.ready.whole;
                givable = rw fewer (givable-rest batch waits along.ready.givable);
              });
        }

-- ---- packets sent

module _ (q : ℕ) (addresses : List ℕ) (lists : Handles) (n : ℕ) (w : Sending) where
  -- one of those that are left
  pub send-step : w.count < n
      → send_rule q addresses lists (n - w.count) w
      ≡ send_rule q addresses lists (n - (w.count + 1)) (packet_sent q addresses (handle_at lists w.count) w)
  unfolding send_rule
  send-step below = let e : n - w.count ≡ suc (n - (w.count + 1)) = omega arith in rw e

  pub send-none : n ≤ w.count → send_rule q addresses lists (n - w.count) w ≡ w
  unfolding send_rule
  send-none past = let e : n - w.count ≡ 0 = omega arith in rw e

-- the work after one packet more, by the numbers
module _ (q n tx i : ℕ) (addresses : List ℕ) (lists : Handles) (hands sent ring hands₁ sent₁ ring₁ : List ℕ) where
  pub send-turn : i < n
      → sending_as hands₁ sent₁ (next_slot ((tx + i) % SLOTS)) ring₁ (i + 1)
      ≡ packet_sent q addresses (handle_at lists i) (sending_as hands sent ((tx + i) % SLOTS) ring i)
      → send_rule q addresses lists (n - (i + 1)) (sending_as hands₁ sent₁ ((tx + (i + 1)) % SLOTS) ring₁ (i + 1))
      ≡ send_rule q addresses lists (n - i) (sending_as hands sent ((tx + i) % SLOTS) ring i)
  send-turn below one =
      let slot : (tx + (i + 1)) % SLOTS ≡ next_slot ((tx + i) % SLOTS) = omega arith in
      rw (slot, one) (sym (send-step q addresses lists n (sending_as hands sent ((tx + i) % SLOTS) ring i) below))
