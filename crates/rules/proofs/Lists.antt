-- The lists of an account's hands: which list a hand has, a queue's list round its ring, and which lists a change of the account leaves.
use Prim.Native.Nat.{ℕ, zero, suc, ◌+◌, ◌-◌, ◌%◌, ◌≤◌, ◌<◌}
use mathlib.Core.Path.{◌≡◌, refl, sym, ap, ◌∙◌}
use mathlib.Core.List.{List, [], ◌∷◌, ◌++◌}
use lib.ListN.{length, get_or, set}
use lib.Seq.{get_or-set_same, get_or-set_other}
use native.Mathlib.Decide.{dec_lt}
use native.Mathlib.Omega.{arith}
use borrow.Author.Tests.{ne_eqb, lt-ltb, le-ltb}
use Rattle.limits.specs.Limits.{SLOTS}
use Rattle.pool.specs.declared.FreeStack.{FreeStack}
use Rattle.pool.specs.Hands.{HAND-FREE, HAND-RECEIVE, HAND-OUT, HAND-SEND}
use Rattle.rules.specs.declared.Account.{Account}
use Rattle.rules.specs.Account.{free_list, receive_list, next_slot, waiting, send_place, around, send_list, list_of, with_pool, with_receive, with_send}

-- ---- which list a hand has

module _ (a : Account) where
  pub list-free : list_of a HAND-FREE ≡ free_list a
  unfolding list_of
  list-free = refl

  pub list-receive : list_of a HAND-RECEIVE ≡ receive_list a
  unfolding list_of
  list-receive = refl

  pub list-out : list_of a HAND-OUT ≡ []
  unfolding list_of
  list-out = refl

  pub list-send : (q : ℕ) → q < a.sends → list_of a (HAND-SEND + q) ≡ send_list a q
  unfolding list_of
  list-send q below =
      let own : HAND-SEND + q - HAND-SEND ≡ q = omega arith in
      rw (
        ne_eqb (HAND-SEND + q) HAND-FREE (λ e. omega arith),
        ne_eqb (HAND-SEND + q) HAND-RECEIVE (λ e. omega arith),
        le-ltb (HAND-SEND + q) HAND-SEND (omega arith),
        own,
        lt-ltb q a.sends below,
      )

  pub list-beyond : (h : ℕ) → HAND-SEND + a.sends ≤ h → list_of a h ≡ []
  unfolding list_of
  list-beyond h beyond =
      rw (
        ne_eqb h HAND-FREE (λ e. omega arith),
        ne_eqb h HAND-RECEIVE (λ e. omega arith),
        le-ltb h HAND-SEND (omega arith),
        le-ltb (h - HAND-SEND) a.sends (omega arith),
      )

-- what holds of each hand holds of every number
module _ (P : ℕ → Type 0) (sends : ℕ) (free : P HAND-FREE) (receive : P HAND-RECEIVE) (out : P HAND-OUT)
    (send : (q : ℕ) → q < sends → P (HAND-SEND + q)) (beyond : (h : ℕ) → HAND-SEND + sends ≤ h → P h) where
  pub each-hand : (h : ℕ) → P h
  each-hand zero = free
  each-hand (suc zero) = receive
  each-hand (suc (suc zero)) = out
  each-hand (suc (suc (suc q))) = by-case (dec_lt q sends)
    where
      by-case : Dec (q < sends) → P (suc (suc (suc q)))
      by-case (yes below) = let e : HAND-SEND + q ≡ suc (suc (suc q)) = omega arith in rw e at (send q below)
      by-case (no past) = beyond (suc (suc (suc q))) (omega arith)

-- ---- what a change leaves

module _ (a : Account) (free : FreeStack) (hands : List ℕ) (h : ℕ) (other : h ≡ HAND-FREE → ⊥) where
  pub pool-list : list_of (with_pool a free hands) h ≡ list_of a h
  unfolding list_of
  pool-list = rw (ne_eqb h HAND-FREE other)

  pub receive-list : (rx : ℕ) (slots : List ℕ) → (h ≡ HAND-RECEIVE → ⊥) → list_of (with_receive a free hands rx slots) h ≡ list_of a h
  unfolding list_of
  receive-list rx slots not-receive = rw (ne_eqb h HAND-FREE other, ne_eqb h HAND-RECEIVE not-receive)

-- ---- a queue's list

-- a list round the ring depends on its queue's places alone
pub around-same : (s t : List ℕ) (q : ℕ) → ((slot : ℕ) → slot < SLOTS → get_or s (send_place q slot) 0 ≡ get_or t (send_place q slot) 0)
    → (slot n : ℕ) → slot < SLOTS → around s q slot n ≡ around t q slot n
unfolding around
around-same s t q same slot zero h = refl
around-same s t q same slot (suc n) h = rw (same slot h, around-same s t q same (next_slot slot) n (omega arith))

-- one id more is the one at the slot after the last
around-end : (s : List ℕ) (q slot n : ℕ) → slot < SLOTS
    → around s q slot (suc n) ≡ around s q slot n ++ (get_or s (send_place q ((slot + n) % SLOTS)) 0 ∷ [])
unfolding around
around-end s q slot zero h = let e : (slot + 0) % SLOTS ≡ slot = omega arith in rw e
around-end s q slot (suc n) h =
    let e : (next_slot slot + n) % SLOTS ≡ (slot + suc n) % SLOTS = omega arith in
    ap (λ l. get_or s (send_place q slot) 0 ∷ l) (rw e at (around-end s q (next_slot slot) n (omega arith)))

-- a store at a slot further on leaves what stands before it
around-kept : (s : List ℕ) (q x other slot n : ℕ) → slot < SLOTS → other < SLOTS → n ≤ waiting other slot
    → around (set s (send_place q other) x) q slot n ≡ around s q slot n
unfolding around
around-kept s q x other slot zero h o far = refl
around-kept s q x other slot (suc n) h o far =
    rw (
      get_or-set_other s (send_place q other) (send_place q slot) x 0 (λ e. omega arith),
      around-kept s q x other (next_slot slot) n (omega arith) o (omega arith),
    )

-- a store at the tx index is one id more, at the end
pub around-sent : (s : List ℕ) (q x clean tx : ℕ) → clean < SLOTS → tx < SLOTS → send_place q tx < length s
    → around (set s (send_place q tx) x) q clean (suc (waiting tx clean)) ≡ around s q clean (waiting tx clean) ++ (x ∷ [])
around-sent s q x clean tx c t room =
    let e : (clean + waiting tx clean) % SLOTS ≡ tx = omega arith in
    around-end (set s (send_place q tx) x) q clean (waiting tx clean) c
    ∙ rw (e, around-kept s q x tx clean (waiting tx clean) c t (omega arith), get_or-set_same s (send_place q tx) x 0 room)

-- ---- an account whose send queue q has changed

abbrev pub queued : Account → FreeStack → List ℕ → List ℕ → ℕ → ℕ → ℕ → Account
queued a free hands sent q clean tx = with_send a free hands sent (set a.clean q clean) (set a.tx q tx)

module _ (a : Account) (free : FreeStack) (hands sent : List ℕ) (q clean tx : ℕ) where
  pub queued-own : q < length a.clean → q < length a.tx
      → send_list (queued a free hands sent q clean tx) q ≡ around sent q clean (waiting tx clean)
  queued-own c t = rw (get_or-set_same a.clean q clean 0 c, get_or-set_same a.tx q tx 0 t)

  module _ (same : (other slot : ℕ) → (other ≡ q → ⊥) → slot < SLOTS → get_or sent (send_place other slot) 0 ≡ get_or a.sent (send_place other slot) 0)
      (indices : (other : ℕ) → other < a.sends → get_or a.clean other 0 < SLOTS) where
    pub queued-other : (other : ℕ) → other < a.sends → (other ≡ q → ⊥) → send_list (queued a free hands sent q clean tx) other ≡ send_list a other
    queued-other other below ne =
        rw (get_or-set_other a.clean q other clean 0 ne, get_or-set_other a.tx q other tx 0 ne)
        (around-same sent a.sent other (λ slot l. same other slot ne l) (get_or a.clean other 0) _ (indices other below))

    -- every list but the stack's and the queue's own
    pub queued-list : (h : ℕ) → (h ≡ HAND-FREE → ⊥) → (h ≡ HAND-SEND + q → ⊥) → list_of (queued a free hands sent q clean tx) h ≡ list_of a h
    queued-list =
        each-hand (λ h. (h ≡ HAND-FREE → ⊥) → (h ≡ HAND-SEND + q → ⊥) → list_of changed h ≡ list_of a h) a.sends
        (λ nf ns. absurd (nf refl))
        (λ nf ns. list-receive changed ∙ sym (list-receive a))
        (λ nf ns. list-out changed ∙ sym (list-out a))
        (λ other below nf ns. list-send changed other below ∙ queued-other other below (λ e. ns (ap (λ k. HAND-SEND + k) e)) ∙ sym (list-send a other below))
        (λ h beyond nf ns. list-beyond changed h beyond ∙ sym (list-beyond a h beyond))
      where
        changed : Account
        changed = queued a free hands sent q clean tx

-- the id at a place of a queue's list
pub around-at : (s : List ℕ) (q slot n i : ℕ) → slot < SLOTS → i < n → get_or (around s q slot n) i 0 ≡ get_or s (send_place q ((slot + i) % SLOTS)) 0
unfolding around
around-at s q slot zero i h l = absurd (omega arith)
around-at s q slot (suc n) zero h l = let e : (slot + 0) % SLOTS ≡ slot = omega arith in rw e
around-at s q slot (suc n) (suc i) h l =
    let e : (next_slot slot + i) % SLOTS ≡ (slot + suc i) % SLOTS = omega arith in
    rw e at (around-at s q (next_slot slot) n i (omega arith) (omega arith))

pub length-around : (s : List ℕ) (q slot n : ℕ) → length (around s q slot n) ≡ n
unfolding around
length-around s q slot zero = refl
length-around s q slot (suc n) = ap suc (length-around s q (next_slot slot) n)
