-- What a sound account says of its numbers, for code that has tested it: bounds of its size, its entries and its stack, and which ids are known.
use Prim.Native.Nat.{ℕ, ◌+◌, ◌*◌, ◌%◌, ◌^◌, ◌≤◌, ◌<◌}
use mathlib.Core.Path.{◌≡◌}
use mathlib.Core.Bool.{true}
use mathlib.Core.List.{List, ◌++◌}
use lib.ListN.{length, get_or, length-append, get_or-eq_default}
use lib.Seq.{get_or-take, length-take-le}
use lib.Dec.{eqb}
use lib.Pow.{pow_mono}
use native.Mathlib.Nat.{mul-le-mul_left, mul-le-mul}
use native.Mathlib.Decide.{ℕ_discrete, dec_lt}
use native.Mathlib.Omega.{arith}
use borrow.Author.Tests.{ne_eqb, lt-ltb, le-ltb}
use Rattle.limits.specs.Limits.{ENTRIES, SMALLEST-SIZE, SIZE-DOUBLINGS, SLOTS}
use Rattle.laws.specs.Occurs.{ind, occurs}
use Rattle.laws.proofs.Occurs.{ind-le, occurs-append, occurs-at}
use Rattle.laws.proofs.Sum.{few}
use Rattle.pool.specs.Stack.{top}
use Rattle.pool.specs.Hands.{HAND-FREE, HAND-RECEIVE, HAND-OUT, HAND-SEND}
use Rattle.rules.specs.declared.Account.{Account}
use Rattle.rules.specs.Account.{hand_of, free_list, pending, send_place, send_list, list_of}
use Rattle.rules.specs.Sound.{sound, Full}
use Rattle.rules.proofs.Standing.{in_hand, Standing, top-of-hand, room_for}
use Rattle.rules.proofs.Lists.{list-free, list-receive, list-send, around-at, length-around}
use Rattle.rules.proofs.Sound.{sound-means, count_of, standing}

-- the largest entry
abbrev pub LARGEST-SIZE : ℕ
LARGEST-SIZE = SMALLEST-SIZE * 2 ^ SIZE-DOUBLINGS

pub record Bounds (a : Account) : Type 0 where
  pub size-least : SMALLEST-SIZE ≤ a.size
  pub size-most : a.size ≤ LARGEST-SIZE
  pub some-entries : 0 < a.entries
  pub entries-most : a.entries ≤ ENTRIES
  pub depth-most : a.free.depth ≤ a.entries
  pub memory-most : a.entries * a.size ≤ ENTRIES * LARGEST-SIZE

-- what stands at a place of a list whose elements are below m, or is read past its end
place-below : (l : List ℕ) (i m : ℕ) → 0 < m → ((x : ℕ) → m ≤ x → occurs x l ≡ 0) → get_or l i 0 < m
place-below l i m some none = by-case (dec_lt i (length l)) (dec_lt (get_or l i 0) m)
  where
    by-case : Dec (i < length l) → Dec (get_or l i 0 < m) → get_or l i 0 < m
    by-case _ (yes below) = below
    by-case (yes here) (no above) = absurd (omega (arith, occurs-at l i here, none (get_or l i 0) (omega arith)))
    by-case (no past) (no above) = rw (get_or-eq_default l 0 {n = i} (omega arith)) some

module _ (a : Account) (e : sound a ≡ true) where
  pub bounds : Bounds a
  bounds =
      let n = (sound-means a e).numbers in
      let most : a.size ≤ LARGEST-SIZE = rw n.power (mul-le-mul_left SMALLEST-SIZE (pow_mono n.few-doublings)) in
      record {
        size-least = rw n.power (mul-le-mul_left {m = 1} SMALLEST-SIZE (pow_mono {i = 0} {j = n.doublings} (omega arith)));
        size-most = most;
        some-entries = n.some-entries;
        entries-most = n.few-entries;
        depth-most = (sound-means a e).free-count;
        memory-most = mul-le-mul n.few-entries most;
      }

  -- what stands at a place of a hand's list is an id of the account, and so is what is read past its end
  listed-known : (hand i : ℕ) → get_or (list_of a hand) i 0 < a.entries
  listed-known hand i = place-below (list_of a hand) i a.entries (sound-means a e).numbers.some-entries (λ x past. (sound-means a e).ids-below x hand past)

  pub stack-known : (i : ℕ) → i < a.free.depth → get_or a.free.ids i 0 < a.entries
  stack-known i l = rw (list-free a, get_or-take a.free.depth a.free.ids i 0 l) at (listed-known HAND-FREE i)

  pub slots-known : a.started ≡ true → (i : ℕ) → get_or a.slots i 0 < a.entries
  slots-known on i = rw (list-receive a, on) at (listed-known HAND-RECEIVE i)

  pub sent-known : (q : ℕ) → q < a.sends → (i : ℕ) → i < pending a q → get_or a.sent (send_place q ((get_or a.clean q 0 + i) % SLOTS)) 0 < a.entries
  sent-known q queue i l =
      let place = ((sound-means a e).queues q queue).clean-below in
      rw (list-send a q queue, around-at a.sent q (get_or a.clean q 0) (pending a q) i place l) at (listed-known (HAND-SEND + q) i)

  module _ (full : Full a) where
    -- the top of the stack is an id of the account, and free
    pub top-known : 0 < a.free.depth → (top a.free < a.entries) × (hand_of a (top a.free) ≡ HAND-FREE)
    top-known some = top-of-hand (standing a full (sound-means a e)) some

    -- an id that is out leaves a place on the stack
    pub room_back : (id : ℕ) → id < a.entries → hand_of a id ≡ HAND-OUT → a.free.depth < a.entries
    room_back id known out = room_for (standing a full (sound-means a e)) id HAND-OUT known out (λ z. omega arith)

    -- what is pending leaves as many places on the stack
    pub room-for-pending : (q : ℕ) → q < a.sends → a.free.depth + pending a q ≤ a.entries
    room-for-pending q queue =
        rw (length-append (free_list a) (send_list a q), size, length-around a.sent q (get_or a.clean q 0) (pending a q)) at
        (few a.entries (free_list a ++ send_list a q) outside once)
      where
        s : Standing a.entries a.free a.hands (count_of a)
        s = standing a full (sound-means a e)

        size : length (free_list a) ≡ a.free.depth
        size = length-take-le a.free.depth a.free.ids (omega (arith, bounds, full.stack))

        times : (x : ℕ) → occurs x (free_list a ++ send_list a q) ≡ in_hand a.entries a.hands HAND-FREE x + in_hand a.entries a.hands (HAND-SEND + q) x
        times x =
            let free : occurs x (free_list a) ≡ in_hand a.entries a.hands HAND-FREE x = rw (list-free a) at (s.placed HAND-FREE x (λ z. omega arith)) in
            let sent : occurs x (send_list a q) ≡ in_hand a.entries a.hands (HAND-SEND + q) x = rw (list-send a q queue) at (s.placed (HAND-SEND + q) x (λ z. omega arith)) in
            rw (occurs-append x (free_list a) (send_list a q), free, sent)

        outside : (x : ℕ) → a.entries ≤ x → occurs x (free_list a ++ send_list a q) ≡ 0
        outside x past = rw (times x, le-ltb x a.entries past)

        once : (x : ℕ) → x < a.entries → occurs x (free_list a ++ send_list a q) ≤ 1
        once x below = rw (times x, lt-ltb x a.entries below) (by-case (ℕ_discrete (hand_of a x) HAND-FREE))
          where
            by-case : Dec (hand_of a x ≡ HAND-FREE) → ind (eqb (hand_of a x) HAND-FREE) + ind (eqb (hand_of a x) (HAND-SEND + q)) ≤ 1
            by-case (yes z) = rw (z, ne_eqb HAND-FREE (HAND-SEND + q) (λ y. omega arith)) (omega arith)
            by-case (no z) = rw (ne_eqb (hand_of a x) HAND-FREE z) (omega (arith, ind-le (eqb (hand_of a x) (HAND-SEND + q))))
