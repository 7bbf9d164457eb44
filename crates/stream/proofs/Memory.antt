-- Handles one after the other: the first of a list are remembered, and the last handles of a send's ids are gathered. Lists that keep their lengths
-- keep their room.
use Prim.Native.Nat.{ℕ, zero, suc, ◌+◌, ◌-◌, ◌≤◌, ◌<◌}
use mathlib.Core.Path.{◌≡◌, ap}
use mathlib.Core.List.{List, [], ◌∷◌, ◌++◌, map}
use lib.ListN.{length, get_or, set, take, length-set}
use lib.Seq.{set_out, take-suc-set}
use native.Mathlib.Numerals.{add-one}
use native.Mathlib.Omega.{arith}
use Rattle.limits.specs.Limits.{ENTRIES}
use Rattle.laws.specs.Occurs.{up_from}
use Rattle.rules.specs.Handles.{Handles, handles, put_handle, Room}
use Rattle.tally.specs.Tally.{POOL, Memory, last_handle, remembered}
use Rattle.stream.specs.Bench.{id_at, send_lists, remember_all}

-- ---- room

-- lists that are as long as others have room for as many handles
pub room-kept : {n k : ℕ} {l j : Handles} → Room n l → k ≤ n
    → length j.pools ≡ length l.pools → length j.ids ≡ length l.ids
    → length j.offsets ≡ length l.offsets → length j.lengths ≡ length l.lengths → Room k j
room-kept room less pools ids offsets lengths =
    record { pools = omega (arith, room.pools); ids = omega (arith, room.ids); offsets = omega (arith, room.offsets); lengths = omega (arith, room.lengths) }

-- ---- remembering

-- a memory of every id, from which what is left of a list is remembered as the whole was to be
pub record Remembering (ids froms sizes : List ℕ) (count : ℕ) (start now : Memory) (i : ℕ) : Type 0 where
  pub passed : i ≤ count
  pub offsets : length now.offsets ≡ ENTRIES
  pub lengths : length now.lengths ≡ ENTRIES
  pub left : remember_all ids froms sizes i (count - i) now ≡ remember_all ids froms sizes 0 count start

module _ {ids froms sizes : List ℕ} {count : ℕ} {start now : Memory} {i : ℕ} (m : Remembering ids froms sizes count start now i) where
  pub remember-one : i < count → Remembering ids froms sizes count start (remembered (get_or ids i 0) (get_or froms i 0) (get_or sizes i 0) now) (i + 1)
  unfolding remember_all
  remember-one below =
      let more : count - i ≡ suc (count - (i + 1)) = omega arith in
      record { passed = omega arith; offsets = simp length-set m.offsets; lengths = simp length-set m.lengths; left = rw more at m.left }

  -- an id beyond the lists changes nothing
  pub remember-none : i < count → ENTRIES ≤ get_or ids i 0 → Remembering ids froms sizes count start now (i + 1)
  remember-none below out =
      rw (set_out now.offsets (get_or ids i 0) _ (omega (arith, m.offsets)), set_out now.lengths (get_or ids i 0) _ (omega (arith, m.lengths))) at
      (remember-one below)

  pub remember-end : count ≤ i → now ≡ remember_all ids froms sizes 0 count start
  unfolding remember_all
  remember-end end = let done : count - i ≡ 0 = omega (arith, m.passed) in rw done at m.left

-- ---- gathering

-- one more of what f makes of the numbers from a first one up
one_more : (f : ℕ → ℕ) (first n : ℕ) → map f (up_from first (suc n)) ≡ map f (up_from first n) ++ (f (first + n) ∷ [])
unfolding up_from
one_more f first zero = let e : first ≡ first + 0 = omega arith in ap (λ k. f k ∷ []) e
one_more f first (suc n) =
    let e : first + 1 + n ≡ first + suc n = omega arith in ap (λ l. f first ∷ l) (rw e at (one_more f (first + 1) n))

-- the first i of a list are what f makes of 0 to i; stored behind them, one more is
stored : (f : ℕ → ℕ) (l : List ℕ) (i : ℕ) → i < length l → take i l ≡ map f (up_from 0 i) → take (i + 1) (set l i (f i)) ≡ map f (up_from 0 (i + 1))
stored f l i h e = let z : 0 + i ≡ i = omega arith in rw (add-one, take-suc-set l i (f i), e, one_more f 0 i, z)

-- the first handles of the lists
abbrev pub firsts : ℕ → Handles → Handles
firsts n l = handles (take n l.pools) (take n l.ids) (take n l.offsets) (take n l.lengths)

pub gather-one : (b : List ℕ) (m : Memory) (l : Handles) (i : ℕ) → Room (i + 1) l → firsts i l ≡ send_lists b i m
    → firsts (i + 1) (put_handle l i (last_handle m (id_at b i))) ≡ send_lists b (i + 1) m
unfolding send_lists
gather-one b m l i room e =
    rw (
      stored (λ k. POOL) l.pools i (omega (arith, room.pools)) (ap (λ (h : Handles). h.pools) e),
      stored (λ k. id_at b k) l.ids i (omega (arith, room.ids)) (ap (λ (h : Handles). h.ids) e),
      stored (λ k. (last_handle m (id_at b k)).offset) l.offsets i (omega (arith, room.offsets)) (ap (λ (h : Handles). h.offsets) e),
      stored (λ k. (last_handle m (id_at b k)).length) l.lengths i (omega (arith, room.lengths)) (ap (λ (h : Handles). h.lengths) e),
    )
