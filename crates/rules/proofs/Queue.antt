-- One send queue of a sound account, an id at a time. To give the oldest id back is a move from the queue onto the stack, to send one a move
-- from the application to the queue's end; each keeps where ids stand.
use Prim.Native.Nat.{ℕ, suc, ◌+◌, ◌*◌, ◌%◌, ◌<◌}
use mathlib.Core.Path.{◌≡◌, refl, sym, ap, ◌∙◌}
use mathlib.Core.List.{List, [], ◌∷◌}
use lib.ListN.{length, get_or, set, length-set}
use lib.Seq.{get_or-set_same, get_or-set_other, set-get_or}
use lib.Dec.{eqb}
use native.Mathlib.Decide.{ℕ_discrete}
use native.Mathlib.Omega.{arith}
use borrow.Author.Tests.{eq-eqb, ne_eqb}
use Rattle.limits.specs.Limits.{SENDS, SLOTS, BATCH}
use Rattle.laws.specs.Occurs.{ind, occurs, sum_to}
use Rattle.laws.proofs.Occurs.{occurs-append}
use Rattle.laws.proofs.Sum.{sum-grows}
use Rattle.pool.specs.declared.FreeStack.{FreeStack}
use Rattle.pool.specs.Stack.{pushed}
use Rattle.pool.specs.Hands.{HAND-FREE, HAND-OUT, HAND-SEND}
use Rattle.pool.proofs.Stack.{occurs-pushed}
use Rattle.rules.specs.declared.Account.{Account}
use Rattle.rules.specs.Account.{next_slot, waiting, send_place, around, send_list, list_of, held}
use Rattle.rules.specs.Sound.{Indices, Sound, Full}
use Rattle.rules.proofs.Standing.{moves, Standing, of-hand, room_for, push-keeps, pass-keeps}
use Rattle.rules.proofs.Lists.{list-free, list-send, around-sent, queued, queued-own, queued-other, queued-list}
use Rattle.rules.proofs.Sound.{count_of, standing, sound-of}

-- ---- one queue of a sound account

module _ {a : Account} (full : Full a) (s : Sound a) (q : ℕ) (queue : q < a.sends) where
  -- the account with another stack, other hands and another queue q stands right
  pub record Steady (free : FreeStack) (hands sent : List ℕ) (clean tx : ℕ) : Type 0 where
    pub stands : Standing a.entries free hands (count_of (queued a free hands sent q clean tx))
    pub clean-below : clean < SLOTS
    pub tx-below : tx < SLOTS
    pub sent-full : length sent ≡ SENDS * SLOTS
    pub others : (other slot : ℕ) → (other ≡ q → ⊥) → slot < SLOTS → get_or sent (send_place other slot) 0 ≡ get_or a.sent (send_place other slot) 0

  clean-indices : (other : ℕ) → other < a.sends → get_or a.clean other 0 < SLOTS
  clean-indices other below = (s.queues other below).clean-below

  in-queues : (q < length a.clean) × (q < length a.tx)
  in-queues = (omega (arith, s.numbers.few-sends, full.clean), omega (arith, s.numbers.few-sends, full.tx))

  -- the queue's list, where the account stands right
  own-list : (free : FreeStack) (hands sent : List ℕ) (clean tx : ℕ)
      → list_of (queued a free hands sent q clean tx) (HAND-SEND + q) ≡ around sent q clean (waiting tx clean)
  own-list free hands sent clean tx =
      list-send (queued a free hands sent q clean tx) q queue ∙ queued-own a free hands sent q clean tx in-queues.0 in-queues.1

  -- at the start nothing has changed
  pub steady-start : Steady a.free a.hands a.sent (get_or a.clean q 0) (get_or a.tx q 0)
  steady-start =
      record {
        stands = rw (set-get_or a.clean q 0, set-get_or a.tx q 0) (standing a full s);
        clean-below = (s.queues q queue).clean-below;
        tx-below = (s.queues q queue).tx-below;
        sent-full = full.sent;
        others = λ other slot ne l. refl;
      }

  pub queued-full : {free : FreeStack} {hands sent : List ℕ} {clean tx : ℕ} → Steady free hands sent clean tx → Full (queued a free hands sent q clean tx)
  queued-full y =
      record {
        stack = y.stands.stack;
        hands = y.stands.record-of-all;
        slots = full.slots;
        sent = y.sent-full;
        clean = simp length-set full.clean;
        tx = simp length-set full.tx;
      }

  pub queued-sound : {free : FreeStack} {hands sent : List ℕ} {clean tx : ℕ} → Steady free hands sent clean tx → clean % BATCH ≡ 0
      → Sound (queued a free hands sent q clean tx)
  queued-sound {free} {hands} {sent} {clean} {tx} y batches =
      sound-of (queued a free hands sent q clean tx) s.numbers s.rx-below (λ other below. by-case other below (ℕ_discrete other q)) s.started-on s.not-started y.stands
    where
      by-case : (other : ℕ) → other < a.sends → Dec (other ≡ q) → Indices (get_or (set a.clean q clean) other 0) (get_or (set a.tx q tx) other 0)
      by-case other below (yes e) =
          rw (e, get_or-set_same a.clean q clean 0 in-queues.0, get_or-set_same a.tx q tx 0 in-queues.1)
          (record { clean-below = y.clean-below; tx-below = y.tx-below; whole-batches = batches })
      by-case other below (no ne) =
          rw (get_or-set_other a.clean q other clean 0 ne, get_or-set_other a.tx q other tx 0 ne) (s.queues other below)

  -- ---- the oldest id is given back

  module _ {free : FreeStack} {hands sent : List ℕ} {clean tx : ℕ} (y : Steady free hands sent clean tx) (some : 0 < waiting tx clean) where
    id : ℕ
    id = get_or sent (send_place q clean) 0

    fewer-waiting : waiting tx clean ≡ suc (waiting tx (next_slot clean))
    fewer-waiting = omega (arith, y.clean-below, y.tx-below)

    -- the queue without its oldest
    split : (x : ℕ) → occurs x (around sent q clean (waiting tx clean)) ≡ ind (eqb x id) + occurs x (around sent q (next_slot clean) (waiting tx (next_slot clean)))
    unfolding around id
    split x = rw fewer-waiting

    id-of-hand : (id < a.entries) × (get_or hands id 0 ≡ HAND-SEND + q)
    id-of-hand =
        of-hand y.stands (HAND-SEND + q) id (λ e. omega arith)
        (rw (own-list free hands sent clean tx, split id, eq-eqb id id refl) (omega arith))

    given-standing : Standing a.entries (pushed free id) (set hands id HAND-FREE) (count_of (queued a (pushed free id) (set hands id HAND-FREE) sent q (next_slot clean) tx))
    given-standing =
        push-keeps y.stands id (HAND-SEND + q) (count_of after) id-of-hand.0 id-of-hand.1 (λ e. omega arith) (λ x. ap (occurs x) (list-free after))
        (λ h x other out. by-case h x other (ℕ_discrete h (HAND-SEND + q)))
      where
        after : Account
        after = queued a (pushed free id) (set hands id HAND-FREE) sent q (next_slot clean) tx

        by-case : (h x : ℕ) → (h ≡ HAND-FREE → ⊥) → Dec (h ≡ HAND-SEND + q)
            → count_of (queued a free hands sent q clean tx) h x ≡ count_of after h x + moves (HAND-SEND + q) id h x
        by-case h x other (yes e) =
            rw (e, own-list free hands sent clean tx, own-list (pushed free id) (set hands id HAND-FREE) sent (next_slot clean) tx, eq-eqb (HAND-SEND + q) (HAND-SEND + q) refl)
            (omega (arith, split x))
        by-case h x other (no ne) =
            rw (
              queued-list a free hands sent q clean tx y.others clean-indices h other ne,
              queued-list a (pushed free id) (set hands id HAND-FREE) sent q (next_slot clean) tx y.others clean-indices h other ne,
              ne_eqb (HAND-SEND + q) h (λ z. ne (sym z)),
            )
            (omega arith)

    pub given-steady : Steady (pushed free (get_or sent (send_place q clean) 0)) (set hands (get_or sent (send_place q clean) 0) HAND-FREE) sent (next_slot clean) tx
    unfolding id
    given-steady =
        record { stands = given-standing; clean-below = omega arith; tx-below = y.tx-below; sent-full = y.sent-full; others = y.others }

    -- an id that is with the application stays there
    pub given_out : (x : ℕ) → get_or hands x 0 ≡ HAND-OUT → get_or (set hands (get_or sent (send_place q clean) 0) HAND-FREE) x 0 ≡ HAND-OUT
    unfolding id
    given_out x out =
        get_or-set_other hands id x HAND-FREE 0 (λ e. omega (arith, rw e at out, id-of-hand.1)) ∙ out

    pub given-held : (x : ℕ) → held x (queued a (pushed free (get_or sent (send_place q clean) 0)) (set hands (get_or sent (send_place q clean) 0) HAND-FREE) sent q (next_slot clean) tx)
        ≡ held x (queued a free hands sent q clean tx)
    unfolding held id
    given-held x =
        omega (arith, occurs-pushed free x id (omega (arith, room_for y.stands id (HAND-SEND + q) id-of-hand.0 id-of-hand.1 (λ e. omega arith), y.stands.few, y.stands.stack)), queues)
      where
        after : Account
        after = queued a (pushed free id) (set hands id HAND-FREE) sent q (next_slot clean) tx

        queues : sum_to a.sends (λ k. occurs x (send_list (queued a free hands sent q clean tx) k)) ≡ sum_to a.sends (λ k. occurs x (send_list after k)) + ind (eqb x id)
        queues =
            sum-grows a.sends q (ind (eqb x id)) (λ k. occurs x (send_list after k)) (λ k. occurs x (send_list (queued a free hands sent q clean tx) k)) queue
            (rw (queued-own a free hands sent q clean tx in-queues.0 in-queues.1, queued-own a (pushed free id) (set hands id HAND-FREE) sent q (next_slot clean) tx in-queues.0 in-queues.1) (omega (arith, split x)))
            (λ k below ne. ap (occurs x) (queued-other a free hands sent q clean tx y.others clean-indices k below ne
            ∙ sym (queued-other a (pushed free id) (set hands id HAND-FREE) sent q (next_slot clean) tx y.others clean-indices k below ne)))

  -- ---- an id is sent

  module _ {free : FreeStack} {hands sent : List ℕ} {clean tx : ℕ} (y : Steady free hands sent clean tx) (room : suc (waiting tx clean) < SLOTS)
      (id : ℕ) (known : id < a.entries) (out : get_or hands id 0 ≡ HAND-OUT) where
    more-waiting : waiting (next_slot tx) clean ≡ suc (waiting tx clean)
    more-waiting = omega (arith, y.clean-below, y.tx-below)

    in-sent : send_place q tx < length sent
    in-sent = omega (arith, y.tx-below, y.sent-full, s.numbers.few-sends)

    -- the queue with one id more
    joined : (x : ℕ) → occurs x (around (set sent (send_place q tx) id) q clean (waiting (next_slot tx) clean)) ≡ occurs x (around sent q clean (waiting tx clean)) + ind (eqb x id)
    joined x =
        rw (more-waiting, around-sent sent q id clean tx y.clean-below y.tx-below in-sent, occurs-append x (around sent q clean (waiting tx clean)) (id ∷ []))
        (omega arith)

    still-others : (other slot : ℕ) → (other ≡ q → ⊥) → slot < SLOTS → get_or (set sent (send_place q tx) id) (send_place other slot) 0 ≡ get_or a.sent (send_place other slot) 0
    still-others other slot ne below =
        get_or-set_other sent (send_place q tx) (send_place other slot) id 0 (λ e. omega (arith, y.tx-below, ne)) ∙ y.others other slot ne below

    sent-standing : Standing a.entries free (set hands id (HAND-SEND + q)) (count_of (queued a free (set hands id (HAND-SEND + q)) (set sent (send_place q tx) id) q clean (next_slot tx)))
    sent-standing =
        pass-keeps y.stands id HAND-OUT (HAND-SEND + q) (count_of after) known out (λ e. omega arith) (λ e. omega arith)
        (λ x. ap (occurs x) (list-free after ∙ sym (list-free (queued a free hands sent q clean tx))))
        (λ h x other not-out. by-case h x other not-out (ℕ_discrete h (HAND-SEND + q)))
      where
        after : Account
        after = queued a free (set hands id (HAND-SEND + q)) (set sent (send_place q tx) id) q clean (next_slot tx)

        by-case : (h x : ℕ) → (h ≡ HAND-FREE → ⊥) → (h ≡ HAND-OUT → ⊥) → Dec (h ≡ HAND-SEND + q)
            → count_of after h x + moves HAND-OUT id h x ≡ count_of (queued a free hands sent q clean tx) h x + moves (HAND-SEND + q) id h x
        by-case h x other not-out (yes e) =
            rw (
              ne_eqb HAND-OUT h (λ z. not-out (sym z)),
              e,
              own-list free (set hands id (HAND-SEND + q)) (set sent (send_place q tx) id) clean (next_slot tx),
              own-list free hands sent clean tx,
              eq-eqb (HAND-SEND + q) (HAND-SEND + q) refl,
            )
            (omega (arith, joined x))
        by-case h x other not-out (no ne) =
            rw (
              queued-list a free hands sent q clean tx y.others clean-indices h other ne,
              queued-list a free (set hands id (HAND-SEND + q)) (set sent (send_place q tx) id) q clean (next_slot tx) still-others clean-indices h other ne,
              ne_eqb HAND-OUT h (λ z. not-out (sym z)),
              ne_eqb (HAND-SEND + q) h (λ z. ne (sym z)),
            )

    pub sent-steady : Steady free (set hands id (HAND-SEND + q)) (set sent (send_place q tx) id) clean (next_slot tx)
    sent-steady =
        record {
          stands = sent-standing;
          clean-below = y.clean-below;
          tx-below = omega arith;
          sent-full = simp length-set y.sent-full;
          others = still-others;
        }

    pub sent-held : (x : ℕ) → held x (queued a free (set hands id (HAND-SEND + q)) (set sent (send_place q tx) id) q clean (next_slot tx))
        ≡ held x (queued a free hands sent q clean tx) + ind (eqb x id)
    unfolding held
    sent-held x = omega (arith, queues)
      where
        after : Account
        after = queued a free (set hands id (HAND-SEND + q)) (set sent (send_place q tx) id) q clean (next_slot tx)

        queues : sum_to a.sends (λ k. occurs x (send_list after k)) ≡ sum_to a.sends (λ k. occurs x (send_list (queued a free hands sent q clean tx) k)) + ind (eqb x id)
        queues =
            sum-grows a.sends q (ind (eqb x id)) (λ k. occurs x (send_list (queued a free hands sent q clean tx) k)) (λ k. occurs x (send_list after k)) queue
            (rw (queued-own a free hands sent q clean tx in-queues.0 in-queues.1, queued-own a free (set hands id (HAND-SEND + q)) (set sent (send_place q tx) id) q clean (next_slot tx) in-queues.0 in-queues.1) (omega (arith, joined x)))
            (λ k below ne. ap (occurs x) (queued-other a free (set hands id (HAND-SEND + q)) (set sent (send_place q tx) id) q clean (next_slot tx) still-others clean-indices k below ne
            ∙ sym (queued-other a free hands sent q clean tx y.others clean-indices k below ne)))
