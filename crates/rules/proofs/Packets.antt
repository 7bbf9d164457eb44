-- Fresh is sound; one packet, a batch and a release keep an account sound, and no id is lost or made. Each is one move of an id on or off
-- the free stack, or a run of them; a batch goes through the one induction over `take_many`.
use Prim.Native.Nat.{ℕ, zero, suc, ◌+◌, ◌-◌, ◌≤◌, ◌<◌, min}
use mathlib.Core.Path.{◌≡◌, refl, sym, ap, ◌∙◌}
use mathlib.Core.List.{List, []}
use lib.ListN.{length, get_or, set, take, length-set, length-replicate, get_or-replicate, replicate}
use lib.Dec.{eqb, ltb}
use native.Mathlib.Decide.{ℕ_discrete, dec_lt}
use native.Mathlib.Nat.{zero-add}
use native.Mathlib.Omega.{arith}
use borrow.Author.Tests.{eq-eqb, ne_eqb, le-leb, lt-ltb, le-ltb}
use Rattle.limits.specs.Limits.{ENTRIES, SENDS, SLOTS}
use Rattle.laws.specs.Occurs.{ind, occurs}
use Rattle.laws.proofs.Test.{both-same, false-not-true}
use Rattle.laws.proofs.Occurs.{occurs-stored, length-up_from, take-up_from, occurs-up_from}
use Rattle.pool.specs.declared.FreeStack.{FreeStack}
use Rattle.pool.specs.Stack.{top, popped, pushed}
use Rattle.pool.specs.Hands.{HAND-FREE, HAND-RECEIVE, HAND-OUT, HAND-SEND}
use Rattle.pool.proofs.Stack.{occurs-popped, occurs-pushed}
use Rattle.rules.specs.declared.Account.{Account}
use Rattle.rules.specs.Handles.{Room}
use Rattle.rules.specs.Account.{hand_of, around, send_list, list_of, held, opened, with_pool}
use Rattle.rules.specs.Sound.{InRange, Indices, Sound, Full}
use Rattle.rules.specs.Packets.{taken, Taking, one_more, take_many, released}
use Rattle.rules.proofs.Standing.{in_hand, Standing, pop-keeps, push-keeps, room_for}
use Rattle.rules.proofs.Lists.{list-free, list-receive, list-send, list-beyond, each-hand, pool-list}
use Rattle.rules.proofs.Sound.{count_of, standing, sound-of}

-- ---- a change of the free stack and the hands

module _ {a : Account} (full : Full a) (s : Sound a) (free : FreeStack) (hands : List ℕ) where
  -- what stays of soundness, if the ids stand right again
  pub pool-sound : Standing a.entries free hands (count_of (with_pool a free hands)) → Sound (with_pool a free hands)
  pool-sound stands =
      sound-of (with_pool a free hands) s.numbers s.rx-below s.queues s.started-on s.not-started stands

  pub pool-full : length free.ids ≡ ENTRIES → length hands ≡ ENTRIES → Full (with_pool a free hands)
  pool-full stack all =
      record { stack = stack; hands = all; slots = full.slots; sent = full.sent; clean = full.clean; tx = full.tx }

-- ---- fresh

module _ (pool entries size receives sends : ℕ) where
  pub opened-full : Full (opened pool entries size receives sends)
  unfolding opened
  opened-full =
      record {
        stack = length-up_from 0 ENTRIES;
        hands = length-replicate {A = ℕ} ENTRIES HAND-FREE;
        slots = length-replicate {A = ℕ} SLOTS 0;
        sent = length-replicate {A = ℕ} _ 0;
        clean = length-replicate {A = ℕ} SENDS 0;
        tx = length-replicate {A = ℕ} SENDS 0;
      }

  module _ (numbers : InRange entries size receives sends) where
    -- every id is free
    hand-free : (x : ℕ) → x < entries → hand_of (opened pool entries size receives sends) x ≡ HAND-FREE
    unfolding opened
    hand-free x below = get_or-replicate {A = ℕ} ENTRIES x HAND-FREE 0 (omega (arith, numbers.few-entries))

    -- and no queue has any
    queue-empty : (q : ℕ) → q < sends → send_list (opened pool entries size receives sends) q ≡ []
    unfolding opened around
    queue-empty q below =
        let index = get_or-replicate {A = ℕ} SENDS q 0 0 (omega (arith, numbers.few-sends)) in rw index

    -- the ids below the entries stand on the stack
    stack-full : (x : ℕ) → occurs x (list_of (opened pool entries size receives sends) HAND-FREE) ≡ ind (ltb x entries)
    unfolding opened
    stack-full x =
        rw (list-free, take-up_from 0 entries ENTRIES numbers.few-entries, occurs-up_from x 0 entries, le-leb 0 x (omega arith), zero-add)

    ring-empty : list_of (opened pool entries size receives sends) HAND-RECEIVE ≡ []
    unfolding opened
    ring-empty = rw list-receive

    opened-listed : (h x : ℕ) → (h ≡ HAND-OUT → ⊥)
        → count_of (opened pool entries size receives sends) h x ≡ in_hand entries (opened pool entries size receives sends).hands h x
    unfolding opened
    opened-listed h x = each-hand P sends free receive (λ out. absurd (out refl)) send beyond h
      where
        account : Account
        account = opened pool entries size receives sends

        P : ℕ → Type 0
        P k = (k ≡ HAND-OUT → ⊥) → count_of account k x ≡ in_hand entries account.hands k x

        -- no id is in another hand
        nobody : (k : ℕ) → (k ≡ HAND-FREE → ⊥) → list_of account k ≡ [] → count_of account k x ≡ in_hand entries account.hands k x
        nobody k other none = rw none (by-case (dec_lt x entries))
          where
            by-case : Dec (x < entries) → 0 ≡ in_hand entries account.hands k x
            by-case (yes below) = rw (lt-ltb x entries below, hand-free x below, ne_eqb HAND-FREE k (λ e. other (sym e)))
            by-case (no past) = rw (le-ltb x entries (omega arith))

        free : P HAND-FREE
        free out = rw (stack-full x) (by-case (dec_lt x entries))
          where
            by-case : Dec (x < entries) → ind (ltb x entries) ≡ in_hand entries account.hands HAND-FREE x
            by-case (yes below) = rw (hand-free x below, both-same)
            by-case (no past) = rw (le-ltb x entries (omega arith))

        receive : P HAND-RECEIVE
        receive out = nobody HAND-RECEIVE (λ e. omega arith) ring-empty

        send : (q : ℕ) → q < sends → P (HAND-SEND + q)
        send q below out = nobody (HAND-SEND + q) (λ e. omega arith) (list-send account q below ∙ queue-empty q below)

        beyond : (k : ℕ) → HAND-SEND + sends ≤ k → P k
        beyond k past out = nobody k (λ e. omega arith) (list-beyond account k past)

    pub opened-sound : Sound (opened pool entries size receives sends)
    unfolding opened
    opened-sound =
        sound-of (opened pool entries size receives sends) numbers (omega arith) queues (λ e. absurd (false-not-true e)) (λ e. refl)
        (record {
          few = numbers.few-entries;
          stack = opened-full.stack;
          record-of-all = opened-full.hands;
          deep = omega arith;
          on_stack = λ x. ap (occurs x) (list-free (opened pool entries size receives sends));
          placed = opened-listed;
        })
      where
        queues : (q : ℕ) → q < sends → Indices (get_or (replicate SENDS 0) q 0) (get_or (replicate SENDS 0) q 0)
        queues q below = rw (get_or-replicate {A = ℕ} SENDS q 0 0 (omega (arith, numbers.few-sends))) (omega arith)

-- ---- one packet, and a release

module _ {a : Account} (full : Full a) (s : Sound a) where
  stands : Standing a.entries a.free a.hands (count_of a)
  stands = standing a full s

  -- off the stack to the application, whose list is not the account's
  pub taken-sound : 0 < a.free.depth → Sound (taken a)
  unfolding taken
  taken-sound some =
      pool-sound full s (popped a.free) (set a.hands (top a.free) HAND-OUT)
      (pop-keeps stands HAND-OUT (count_of after) some (λ e. omega arith) (λ x. ap (occurs x) (list-free after))
      (λ h x other out. rw (pool-list a (popped a.free) (set a.hands (top a.free) HAND-OUT) h other, ne_eqb HAND-OUT h (λ e. out (sym e))) (omega arith)))
    where
      after : Account
      after = with_pool a (popped a.free) (set a.hands (top a.free) HAND-OUT)

  pub released-sound : (id : ℕ) → id < a.entries → hand_of a id ≡ HAND-OUT → Sound (released a id)
  unfolding released
  released-sound id below out =
      pool-sound full s (pushed a.free id) (set a.hands id HAND-FREE)
      (push-keeps stands id HAND-OUT (count_of after) below out (λ e. omega arith) (λ x. ap (occurs x) (list-free after))
      (λ h x other not-out. rw (pool-list a (pushed a.free id) (set a.hands id HAND-FREE) h other, ne_eqb HAND-OUT h (λ e. not-out (sym e))) (omega arith)))
    where
      after : Account
      after = with_pool a (pushed a.free id) (set a.hands id HAND-FREE)

  pub released-held : (id x : ℕ) → id < a.entries → hand_of a id ≡ HAND-OUT → held x (released a id) ≡ held x a + ind (eqb x id)
  unfolding held released
  released-held id x below out =
      omega (arith, occurs-pushed a.free x id (omega (arith, room_for stands id HAND-OUT below out (λ e. omega arith), s.numbers.few-entries, full.stack)))

  pub taken-held : (x : ℕ) → 0 < a.free.depth → held x (taken a) + ind (eqb x (top a.free)) ≡ held x a
  unfolding held taken
  taken-held x some =
      omega (arith, occurs-popped a.free x some (omega (arith, s.free-count, s.numbers.few-entries, full.stack)))

  pub taken-full : Full (taken a)
  unfolding taken
  taken-full = pool-full full s (popped a.free) _ full.stack (simp length-set full.hands)

  pub released-full : (id : ℕ) → Full (released a id)
  unfolding released
  released-full id = pool-full full s (pushed a.free id) _ (simp length-set full.stack) (simp length-set full.hands)

-- ---- a batch

pub many-none : (pool len : ℕ) (w : Taking) → take_many pool len zero w ≡ w
unfolding take_many
many-none pool len w = refl

module _ (pool len n : ℕ) (w : Taking) where
  pub many-empty : w.free.depth ≡ 0 → take_many pool len (suc n) w ≡ w
  unfolding take_many
  many-empty e = rw (eq-eqb w.free.depth 0 e, take_many)

  pub many_more : 0 < w.free.depth → take_many pool len (suc n) w ≡ take_many pool len n (one_more pool len w)
  unfolding take_many
  many_more some = rw (ne_eqb w.free.depth 0 (λ e. omega arith), take_many)

-- what each turn keeps, and an end turns into Q, holds of what a batch leaves
module _ (pool len : ℕ) (P : ℕ → Taking → Type 0) (Q : Taking → Type 0)
    (stops : (n : ℕ) (w : Taking) → P n w → Q w)
    (turns : (n : ℕ) (w : Taking) → 0 < w.free.depth → P (suc n) w → P n (one_more pool len w)) where
  pub many-holds : (n : ℕ) (w : Taking) → P n w → Q (take_many pool len n w)
  many-holds zero w p = rw (many-none pool len w) (stops zero w p)
  many-holds (suc n) w p = by-case (ℕ_discrete w.free.depth 0) (λ v. many-holds n v)
    where
      by-case : Dec (w.free.depth ≡ 0) → ((v : Taking) → P n v → Q (take_many pool len n v)) → Q (take_many pool len (suc n) w)
      by-case (yes e) again = rw (many-empty pool len n w e) (stops (suc n) w p)
      by-case (no ne) again =
          let some : 0 < w.free.depth = omega (arith, ne) in
          rw (many_more pool len n w some) (again (one_more pool len w) (turns n w some p))

-- no more can be taken than there are
pub many-min : (pool len n : ℕ) (w : Taking) → take_many pool len n w ≡ take_many pool len (min n w.free.depth) w
many-min pool len zero w = let e : min 0 w.free.depth ≡ 0 = omega arith in rw e
many-min pool len (suc n) w = by-case (ℕ_discrete w.free.depth 0) (many-min pool len n (one_more pool len w))
  where
    by-case : Dec (w.free.depth ≡ 0)
        → take_many pool len n (one_more pool len w) ≡ take_many pool len (min n (w.free.depth - 1)) (one_more pool len w)
        → take_many pool len (suc n) w ≡ take_many pool len (min (suc n) w.free.depth) w
    by-case (yes e) again = let z : min (suc n) w.free.depth ≡ 0 = omega arith in rw z (many-empty pool len n w e ∙ sym (many-none pool len w))
    by-case (no ne) again =
        let some : 0 < w.free.depth = omega (arith, ne) in
        let z : min (suc n) w.free.depth ≡ suc (min n (w.free.depth - 1)) = omega (arith, ne) in
        rw z (many_more pool len n w some ∙ again ∙ sym (many_more pool len (min n (w.free.depth - 1)) w some))

-- the account at a turn of a batch
abbrev pub taking_from : Account → Taking → Account
taking_from a w = with_pool a w.free w.hands

-- a turn of it is one packet
module _ (a : Account) (pool len : ℕ) (w : Taking) where
  one-full : Full (taking_from a w) → Sound (taking_from a w) → Full (taking_from a (one_more pool len w))
  unfolding taken
  one-full full s = taken-full full s

  one-sound : Full (taking_from a w) → Sound (taking_from a w) → 0 < w.free.depth → Sound (taking_from a (one_more pool len w))
  unfolding taken
  one-sound full s some = taken-sound full s some

  one-held : (x : ℕ) → Full (taking_from a w) → Sound (taking_from a w) → 0 < w.free.depth
      → held x (taking_from a (one_more pool len w)) + ind (eqb x (top w.free)) ≡ held x (taking_from a w)
  unfolding taken
  one-held x full s some = taken-held full s x some

-- a batch keeps an account sound
pub many-sound : (a : Account) (pool len n : ℕ) (w : Taking) → Full (taking_from a w) → Sound (taking_from a w)
    → Full (taking_from a (take_many pool len n w)) × Sound (taking_from a (take_many pool len n w))
many-sound a pool len n w full s =
    many-holds pool len (λ m v. Full (taking_from a v) × Sound (taking_from a v)) (λ v. Full (taking_from a v) × Sound (taking_from a v))
    (λ m v p. p)
    (λ m v some p. (one-full a pool len v p.0 p.1, one-sound a pool len v p.0 p.1 some))
    n w (full, s)

-- there is room for all that a batch can take
abbrev pub Ample : ℕ → Taking → Type 0
Ample n w = Room (w.count + min n w.free.depth) w.lists

pub ample-turn : (pool len n : ℕ) (w : Taking) → 0 < w.free.depth → Ample (suc n) w → Ample n (one_more pool len w)
ample-turn pool len n w some room =
    record {
      pools = simp length-set (omega (arith, room.pools));
      ids = simp length-set (omega (arith, room.ids));
      offsets = simp length-set (omega (arith, room.offsets));
      lengths = simp length-set (omega (arith, room.lengths));
    }

-- what the lists of the account and the handles given have of an id
abbrev pub taken_held : Account → ℕ → Taking → ℕ
taken_held a x w = held x (taking_from a w) + occurs x (take w.count w.lists.ids)

-- a batch loses no id and makes none: each that left the account is in the list
pub many-held : (a : Account) (pool len n : ℕ) (w : Taking) (x : ℕ) → Full (taking_from a w) → Sound (taking_from a w) → Ample n w
    → taken_held a x (take_many pool len n w) ≡ taken_held a x w
many-held a pool len n w x full s room =
    many-holds pool len
    (λ m v. (Full (taking_from a v) × Sound (taking_from a v)) × Ample m v × (taken_held a x v ≡ taken_held a x w))
    (λ v. taken_held a x v ≡ taken_held a x w)
    (λ m v p. p.2)
    (λ m v some p. turn m v some p.0.0 p.0.1 p.1 p.2)
    n w ((full, s), room, refl)
  where
    turn : (m : ℕ) (v : Taking) → 0 < v.free.depth → Full (taking_from a v) → Sound (taking_from a v) → Ample (suc m) v
        → taken_held a x v ≡ taken_held a x w
        → (Full (taking_from a (one_more pool len v)) × Sound (taking_from a (one_more pool len v))) × Ample m (one_more pool len v)
        × (taken_held a x (one_more pool len v) ≡ taken_held a x w)
    turn m v some f t r e = (
      (one-full a pool len v f t, one-sound a pool len v f t some),
      ample-turn pool len m v some r,
      omega (arith, e, one-held a pool len v x f t some, occurs-stored x v.lists.ids v.count (top v.free) (omega (arith, r.ids))),
    )
