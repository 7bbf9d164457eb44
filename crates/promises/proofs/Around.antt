-- A send queue's ring against the list of all that was ever sent on it, of which so many were given back: each id given back, each batch
-- that cleaning gives back and each packet sent keep the two in step.
use Prim.Native.Nat.{ℕ, zero, suc, ◌+◌, ◌-◌, ◌*◌, ◌%◌, ◌≤◌, ◌<◌}
use mathlib.Core.Path.{◌≡◌, refl, ap, ◌∙◌}
use mathlib.Core.Bool.{Bool, true, false}
use mathlib.Core.List.{List, [], ◌∷◌, ◌++◌, append-nil}
use lib.ListN.{length, get_or, set, take, drop, length-append, length-drop, length-set}
use lib.Seq.{get_or-set_other, drop-cons, append_snoc, drop-append-le, drop-drop}
use lib.Dec.{leb}
use native.Mathlib.Decide.{dec_le}
use native.Mathlib.Numerals.{add-one}
use native.Mathlib.Omega.{arith}
use borrow.Author.Tests.{le-leb, lt-leb, leb-true}
use Rattle.limits.specs.Limits.{SENDS, SLOTS, BATCH}
use Rattle.laws.specs.Test.{pick}
use Rattle.laws.proofs.Test.{both_left}
use Rattle.rules.specs.Handles.{Handles, handle_at}
use Rattle.rules.specs.Account.{next_slot, waiting, send_place, around}
use Rattle.rules.specs.Send.{Cleaning, given_back, give_back, cleanable, clean_rule, Sending, packet_sent, send_rule}
use Rattle.rules.proofs.Lists.{around-sent, length-around}
use Rattle.rules.proofs.Send.{clean-none, clean-stops, clean-more}
use Rattle.promises.specs.Queues.{may_return, back_after}

-- the slot after the clean index has one less waiting
fewer : (clean tx : ℕ) → clean < SLOTS → tx < SLOTS → 0 < waiting tx clean → waiting tx clean ≡ suc (waiting tx (next_slot clean))
fewer clean tx c t some = omega arith

-- the slot after the tx index has one more
more : (clean tx : ℕ) → clean < SLOTS → tx < SLOTS → suc (waiting tx clean) < SLOTS → waiting (next_slot tx) clean ≡ suc (waiting tx clean)
more clean tx c t room = omega arith

-- ring, clean index and tx index of a queue are those of a list of which so many were given back
pub record InStep (q : ℕ) (ids : List ℕ) (clean tx : ℕ) (all : List ℕ) (back : ℕ) : Type 0 where
  pub list : around ids q clean (waiting tx clean) ≡ drop back all
  pub sent : back ≤ length all
  pub tx-is : tx ≡ length all % SLOTS
  pub clean_is : clean ≡ back % SLOTS

module _ {q : ℕ} {ids : List ℕ} {clean tx : ℕ} {all : List ℕ} {back : ℕ} (s : InStep q ids clean tx all back) where
  -- what waits is what was sent and not given back
  pub left-waits : waiting tx clean ≡ length all - back
  left-waits = rw (length-around ids q clean (waiting tx clean), length-drop back all) at (ap length s.list)

  -- one given back
  one-back : back < length all → InStep q ids (next_slot clean) tx all (back + 1)
  unfolding around
  one-back some =
      record {
        list = ap (drop 1) (rw (fewer clean tx (omega (arith, s)) (omega (arith, s)) (omega (arith, left-waits))) at s.list) ∙ drop-drop 1 back all;
        sent = omega arith;
        tx-is = s.tx-is;
        clean_is = omega (arith, s);
      }

  -- one sent
  one_more : (id : ℕ) → suc (length all - back) < SLOTS → q < SENDS → length ids ≡ SENDS * SLOTS
      → InStep q (set ids (send_place q tx) id) clean (next_slot tx) (all ++ (id ∷ [])) back
  one_more id room queue full =
      let c : clean < SLOTS = omega (arith, s) in
      let t : tx < SLOTS = omega (arith, s) in
      let size : length (all ++ (id ∷ [])) ≡ length all + 1 = length-append all (id ∷ []) in
      record {
        list = rw (more clean tx c t (omega (arith, left-waits)), around-sent ids q id clean tx c t (omega arith), s.list, drop-append-le back all (id ∷ []) s.sent);
        sent = rw size (omega (arith, s));
        tx-is = rw size (omega (arith, s));
        clean_is = s.clean_is;
      }

  -- cleaning tests what the ledger tests
  same_test : (ring : List ℕ) → cleanable BATCH tx ring clean ≡ may_return (length all) ring back
  same_test ring =
      let last : (clean + (BATCH - 1)) % SLOTS ≡ (back + (BATCH - 1)) % SLOTS = omega (arith, s) in
      rw (last, left-waits, by-case (dec_le (back + BATCH) (length all)))
    where
      by-case : Dec (back + BATCH ≤ length all) → leb BATCH (length all - back) ≡ leb (back + BATCH) (length all)
      by-case (yes enough) = le-leb BATCH (length all - back) (omega arith) ∙ rw (le-leb (back + BATCH) (length all) enough)
      by-case (no few) = lt-leb BATCH (length all - back) (omega arith) ∙ rw (lt-leb (back + BATCH) (length all) (omega arith))

-- ---- cleaning

module _ (q : ℕ) (ids : List ℕ) (tx : ℕ) (all : List ℕ) where
  -- n given back
  many-back : (n : ℕ) (w : Cleaning) (back : ℕ) → InStep q ids w.clean tx all back → back + n ≤ length all
      → InStep q ids (give_back ids q n w).clean tx all (back + n)
  unfolding give_back given_back
  many-back zero w back s enough = let e : back + 0 ≡ back = omega arith in rw e s
  many-back (suc n) w back s enough =
      let e : back + 1 + n ≡ back + suc n = omega arith in
      rw e at (many-back n (given_back ids q w) (back + 1) (one-back s (omega arith)) (omega arith))

  -- a whole cleaning gives back as many as the ledger says
  pub clean_back : (ring : List ℕ) (turns : ℕ) (w : Cleaning) (back : ℕ) → InStep q ids w.clean tx all back
      → InStep q ids (clean_rule BATCH ids q tx ring turns w).clean tx all (back_after turns (length all) ring back)
  unfolding back_after
  clean_back ring zero w back s = rw (clean-none BATCH ids q tx ring w) s
  clean_back ring (suc turns) w back s = by-case (may_return (length all) ring back) refl (λ v. clean_back ring turns v (back + BATCH))
    where
      by-case : (b : Bool) → may_return (length all) ring back ≡ b
          → ((v : Cleaning) → InStep q ids v.clean tx all (back + BATCH) → InStep q ids (clean_rule BATCH ids q tx ring turns v).clean tx all (back_after turns (length all) ring (back + BATCH)))
          → InStep q ids (clean_rule BATCH ids q tx ring (suc turns) w).clean tx all (pick b (back_after turns (length all) ring (back + BATCH)) back)
      by-case true e again =
          rw (clean-more BATCH ids q tx ring turns w (same_test s ring ∙ e))
          (again (give_back ids q BATCH w) (many-back BATCH w back s (leb-true (back + BATCH) (length all) (both_left (leb (back + BATCH) (length all)) _ e))))
      by-case false e again = rw (clean-stops BATCH ids q tx ring turns w (same_test s ring ∙ e)) s

-- ---- sending

module _ (q : ℕ) (addresses : List ℕ) (lists : Handles) where
  -- n packets sent are so many more of the list
  pub many_more : (n clean : ℕ) (w : Sending) (all : List ℕ) (back : ℕ) → InStep q w.sent clean w.tx all back
      → length all - back + n < SLOTS → w.count + n ≤ length lists.ids → q < SENDS → length w.sent ≡ SENDS * SLOTS
      → InStep q (send_rule q addresses lists n w).sent clean (send_rule q addresses lists n w).tx (all ++ take n (drop w.count lists.ids)) back
  unfolding send_rule packet_sent
  many_more zero clean w all back s room listed queue full = rw append-nil s
  many_more (suc n) clean w all back s room listed queue full =
      rw (drop-cons lists.ids w.count 0 (omega arith), ← (append_snoc all (get_or lists.ids w.count 0) (take n (drop (suc w.count) lists.ids))), ← (add-one w.count))
      (many_more n clean (packet_sent q addresses (handle_at lists w.count) w) (all ++ (get_or lists.ids w.count 0 ∷ [])) back
      (one_more s (get_or lists.ids w.count 0) (omega arith) queue full)
      (rw (length-append all (get_or lists.ids w.count 0 ∷ [])) (omega (arith, s.sent)))
      (omega arith) queue (simp length-set full))

  -- they stand in their own queue's places, so those of another stay
  pub others-stay : (n : ℕ) (w : Sending) → w.tx < SLOTS → (other slot : ℕ) → (other ≡ q → ⊥) → slot < SLOTS
      → get_or (send_rule q addresses lists n w).sent (send_place other slot) 0 ≡ get_or w.sent (send_place other slot) 0
  unfolding send_rule packet_sent
  others-stay zero w t other slot ne l = refl
  others-stay (suc n) w t other slot ne l =
      others-stay n (packet_sent q addresses (handle_at lists w.count) w) (omega arith) other slot ne l
      ∙ get_or-set_other w.sent (send_place q w.tx) (send_place other slot) _ 0 (λ e. omega (arith, ne))
