-- What the lists of handles held before a receive does not matter: it answers the same, leaves the same ring, and puts the same handles at
-- the places that it counts.
use Prim.Native.Nat.{ℕ, zero, suc, ◌+◌, ◌≤◌, min}
use mathlib.Core.Path.{◌≡◌, refl, sym, ap, ◌∙◌}
use mathlib.Core.Bool.{true}
use mathlib.Core.List.{List, [], ◌∷◌, ◌++◌}
use lib.ListN.{length, length-replicate}
use lib.Dec.{leb}
use lib.Seq.{take-suc-set, get_or-take}
use native.Mathlib.Numerals.{add-one}
use native.Mathlib.Omega.{arith}
use borrow.Author.Tests.{le-leb}
use Rattle.limits.specs.Limits.{SLOTS}
use Rattle.laws.proofs.Test.{both_true}
use Rattle.pool.specs.declared.Handle.{Handle}
use Rattle.rules.specs.declared.Account.{Account}
use Rattle.rules.specs.Verdict.{Verdict}
use Rattle.rules.specs.Verdict.{Done, Refused}
use Rattle.rules.specs.Found.{Found}
use Rattle.rules.specs.Found.{Nothing, Frame}
use Rattle.rules.specs.Handles.{Handles, handles, put_handle, has_room, Room}
use Rattle.rules.specs.Sound.{sound, Full}
use Rattle.rules.specs.Refusals.{receive_verdict}
use Rattle.rules.specs.Receive.{Receiving, old_id, frame_of, received, next, Stopping, receive_rule, receiving, AfterReceive, received_as, receive_end, receive_call}
use Rattle.rules.proofs.Receive.{rule-asked, rule-stopped, rule-frame, Ready, room-here, ready-turn}
use Rattle.tally.specs.Tally.{Memory}
use Rattle.stream.specs.Bench.{remember_all, receive_from, no_handles, receive_answer}
use Rattle.stream.proofs.Memory.{firsts}
use Rattle.stream.proofs.Keeps.{ready-first}

-- ---- room

-- lists with room for a whole ring have it for any receive
room-test : (n : ℕ) {l : Handles} → Room SLOTS l → has_room (min n SLOTS) l ≡ true
unfolding has_room
room-test n {l} room =
    both_true (fits l.pools room.pools)
    (both_true (fits l.ids room.ids) (both_true (fits l.offsets room.offsets) (fits l.lengths room.lengths)))
  where
    fits : (list : List ℕ) → SLOTS ≤ length list → leb (min n SLOTS) (length list) ≡ true
    fits list enough = le-leb (min n SLOTS) (length list) (omega arith)

-- the lists that hold nothing have that room
no-handles-room : Room SLOTS no_handles
unfolding no_handles
no-handles-room =
    let size = length-replicate {A = ℕ} SLOTS 0 in
    record { pools = omega (arith, size); ids = omega (arith, size); offsets = omega (arith, size); lengths = omega (arith, size) }

-- ---- the rule, with other lists

-- a receive at work on other lists
abbrev on_lists : Receiving → Handles → Receiving
on_lists w k =
    record { free = w.free; hands = w.hands; slots = w.slots; rx = w.rx; ring = w.ring; lists = k; count = w.count }

-- where a receive stopped, of its lists the handles that it put
abbrev put : Stopping → Stopping
put o = record { stop = o.stop; work = on_lists o.work (firsts o.work.count o.work.lists) }

-- handles with one more behind them
abbrev behind : Handle → Handles → Handles
behind h l = handles (l.pools ++ (h.pool ∷ [])) (l.ids ++ (h.id ∷ [])) (l.offsets ++ (h.offset ∷ [])) (l.lengths ++ (h.length ∷ []))

-- a handle that is put behind the first ones of a list
put-behind : (l : Handles) (i : ℕ) (h : Handle) → Room (i + 1) l → firsts (i + 1) (put_handle l i h) ≡ behind h (firsts i l)
put-behind l i h room =
    rw (
      add-one,
      take-suc-set l.pools i h.pool (omega (arith, room.pools)),
      take-suc-set l.ids i h.id (omega (arith, room.ids)),
      take-suc-set l.offsets i h.offset (omega (arith, room.offsets)),
      take-suc-set l.lengths i h.length (omega (arith, room.lengths)),
    )

module _ (pool size : ℕ) (addresses : List ℕ) where
  -- lists with the same handles so far have the same after a turn
  turn-alike : (len : ℕ) (w : Receiving) (k : Handles) → Room (w.count + 1) w.lists → Room (w.count + 1) k
      → firsts w.count w.lists ≡ firsts w.count k
      → firsts (received pool addresses len w).count (received pool addresses len w).lists
      ≡ firsts (received pool addresses len w).count (received pool addresses len (on_lists w k)).lists
  unfolding received
  turn-alike len w k room other e =
      let frame = frame_of pool (old_id w) len in
      put-behind w.lists w.count frame room ∙ ap (behind frame) e ∙ sym (put-behind k w.count frame other)

  -- and after all turns
  rule-alike : (n : ℕ) (w : Receiving) (k : Handles) → Ready n w → Ready n (on_lists w k) → firsts w.count w.lists ≡ firsts w.count k
      → put (receive_rule pool size addresses n w) ≡ put (receive_rule pool size addresses n (on_lists w k))
  unfolding received
  rule-alike zero w k ready other e = rw (rule-asked pool size addresses zero w, rule-asked pool size addresses zero (on_lists w k), e)
  rule-alike (suc n) w k ready other e = by-case (λ v l. rule-alike n v l) (next size w) refl
    where
      by-case : ((v : Receiving) (l : Handles) → Ready n v → Ready n (on_lists v l) → firsts v.count v.lists ≡ firsts v.count l
          → put (receive_rule pool size addresses n v) ≡ put (receive_rule pool size addresses n (on_lists v l)))
          → (f : Found) → next size w ≡ f
          → put (receive_rule pool size addresses (suc n) w) ≡ put (receive_rule pool size addresses (suc n) (on_lists w k))
      by-case again (Nothing reason) f =
          rw (rule-stopped pool size addresses n w reason f, rule-stopped pool size addresses n (on_lists w k) reason f, e)
      by-case again (Frame len) f =
          rw (rule-frame pool size addresses n w len f, rule-frame pool size addresses n (on_lists w k) len f)
          (again (received pool addresses len w) (received pool addresses len (on_lists w k)).lists
          (ready-turn pool size addresses ready f) (ready-turn pool size addresses other f)
          (turn-alike len w k (room-here pool size addresses ready f) (room-here pool size addresses other f) e))

-- ---- what is seen of a receive

-- what a receive leaves, of its lists the handles that it put
abbrev pub seen : AfterReceive → AfterReceive
seen r = received_as r.answer r.ring (firsts r.answer.count r.lists)

-- handles behind the first ones of a list are not remembered
remember-firsts : (l : Handles) (count i n : ℕ) (m : Memory) → i + n ≤ count
    → remember_all l.ids l.offsets l.lengths i n m ≡ remember_all (firsts count l).ids (firsts count l).offsets (firsts count l).lengths i n m
unfolding remember_all
remember-firsts l count i zero m few = refl
remember-firsts l count i (suc n) m few =
    rw (
      get_or-take count l.ids i 0 (omega arith),
      get_or-take count l.offsets i 0 (omega arith),
      get_or-take count l.lengths i 0 (omega arith),
    )
    (remember-firsts l count (i + 1) n _ (omega arith))

from-seen : (r : AfterReceive) (m : Memory) → receive_from r m ≡ receive_from (seen r) m
from-seen r m = rw (remember-firsts r.lists r.answer.count 0 r.answer.count m (omega arith))

-- receives of which the same is seen are answered alike
seen_same : (r s : AfterReceive) (m : Memory) → seen r ≡ seen s → receive_from r m ≡ receive_from s m
seen_same r s m same = from-seen r m ∙ ap (λ o. receive_from o m) same ∙ sym (from-seen s m)

-- ---- a receive does not depend on what the lists held

module _ {a : Account} (full : Full a) (e : sound a ≡ true) (n : ℕ) (rx addresses : List ℕ) {l k : Handles} (room : Room SLOTS l) (other : Room SLOTS k) where
  -- of the lists a verdict asks only for room
  verdict-same : receive_verdict a 0 rx addresses n l ≡ receive_verdict a 0 rx addresses n k
  unfolding receive_verdict
  verdict-same = rw (room-test n room, room-test n other)

  by-verdict : (v : Verdict) → receive_verdict a 0 rx addresses n l ≡ v → receive_verdict a 0 rx addresses n k ≡ v
      → seen (receive_call a 0 rx addresses n l) ≡ seen (receive_call a 0 rx addresses n k)
  unfolding receive_call
  by-verdict Done d f =
      rw (d, f)
      (ap (receive_end a)
      (rule-alike a.pool a.size addresses n (receiving a rx l) k (ready-first full e n rx addresses l d) (ready-first full e n rx addresses k f) refl))
  by-verdict (Refused why) d f = rw (d, f)

  pub receive-seen : seen (receive_call a 0 rx addresses n l) ≡ seen (receive_call a 0 rx addresses n k)
  receive-seen = by-verdict _ verdict-same refl

  pub receive-same : (m : Memory) → receive_from (receive_call a 0 rx addresses n l) m ≡ receive_from (receive_call a 0 rx addresses n k) m
  receive-same m = seen_same (receive_call a 0 rx addresses n l) (receive_call a 0 rx addresses n k) m receive-seen

-- so any lists with room serve as well as those that hold nothing
pub receive-any : {a : Account} → Full a → sound a ≡ true → (n : ℕ) (rx addresses : List ℕ) (m : Memory) {l : Handles} → Room SLOTS l
    → receive_answer a n rx addresses m ≡ receive_from (receive_call a 0 rx addresses n l) m
unfolding receive_answer
receive-any full e n rx addresses m room = receive-same full e n rx addresses no-handles-room room m
