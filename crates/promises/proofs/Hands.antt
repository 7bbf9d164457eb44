-- Demand 3 in a reader's words, over every history: each buffer is in exactly one hand; a started receive ring has exactly 512 and one that
-- has not started none; a send queue never has more than 511. An id's recorded hand is one number, so at most one list has it.
use Prim.Native.Nat.{ℕ, zero, suc, ◌+◌, ◌-◌, ◌≤◌, ◌<◌}
use mathlib.Core.Path.{◌≡◌, refl, ap, ◌∙◌}
use mathlib.Core.Bool.{Bool, true, false}
use lib.ListN.{length}
use lib.Dec.{eqb, ltb}
use native.Mathlib.Decide.{ℕ_discrete, dec_lt}
use native.Mathlib.Omega.{arith}
use borrow.Author.Tests.{eq-eqb, ne_eqb, lt-ltb, le-ltb}
use Rattle.limits.specs.Limits.{SLOTS}
use Rattle.laws.specs.Test.{pick}
use Rattle.laws.specs.Occurs.{ind, occurs, sum_to}
use Rattle.laws.proofs.Occurs.{ind-le}
use Rattle.laws.proofs.Sum.{sum_same}
use Rattle.pool.specs.Hands.{HAND-FREE, HAND-RECEIVE, HAND-SEND}
use Rattle.rules.specs.declared.Account.{Account}
use Rattle.rules.specs.Verdict.{Done}
use Rattle.rules.specs.Account.{hand_of, free_list, receive_list, pending, send_list, held, opened}
use Rattle.rules.specs.Sound.{Sound}
use Rattle.rules.specs.Refusals.{fresh_verdict}
use Rattle.rules.specs.Packets.{fresh_call}
use Rattle.rules.proofs.Lists.{list-free, list-receive, list-send, length-around}
use Rattle.promises.specs.History.{History}
use Rattle.promises.specs.History as h
use Rattle.promises.specs.Ledger.{given, returned, buffers}
use Rattle.promises.proofs.Always.{fresh-passed, always-whole}
use Rattle.promises.proofs.Balance.{balance}
use Rattle.promises.proofs.Quiet.{step-numbers}

-- of n hands from HAND-SEND on, a number is one at most, and that only if it is below their end
few-hands : (hand n : ℕ) → sum_to n (λ q. ind (eqb hand (HAND-SEND + q))) ≤ ind (ltb hand (HAND-SEND + n))
unfolding sum_to
few-hands hand zero = omega arith
few-hands hand (suc n) = by-case (ℕ_discrete hand (HAND-SEND + n)) (few-hands hand n)
  where
    by-case : Dec (hand ≡ HAND-SEND + n) → sum_to n (λ q. ind (eqb hand (HAND-SEND + q))) ≤ ind (ltb hand (HAND-SEND + n))
        → sum_to n (λ q. ind (eqb hand (HAND-SEND + q))) + ind (eqb hand (HAND-SEND + n)) ≤ ind (ltb hand (HAND-SEND + suc n))
    by-case (yes e) before =
        rw (eq-eqb hand (HAND-SEND + n) e, lt-ltb hand (HAND-SEND + suc n) (omega arith))
        (omega (arith, rw (le-ltb hand (HAND-SEND + n) (omega arith)) at before))
    by-case (no ne) before = rw (ne_eqb hand (HAND-SEND + n) ne) (later (dec_lt hand (HAND-SEND + n)) before)
      where
        later : Dec (hand < HAND-SEND + n) → sum_to n (λ q. ind (eqb hand (HAND-SEND + q))) ≤ ind (ltb hand (HAND-SEND + n))
            → sum_to n (λ q. ind (eqb hand (HAND-SEND + q))) + 0 ≤ ind (ltb hand (HAND-SEND + suc n))
        later (yes below) b = rw (lt-ltb hand (HAND-SEND + suc n) (omega arith)) (omega (arith, rw (lt-ltb hand (HAND-SEND + n) below) at b))
        later (no past) b = omega (arith, rw (le-ltb hand (HAND-SEND + n) (omega arith)) at b)

-- none of them where it is below them all
no-hands : (hand n : ℕ) → hand < HAND-SEND → sum_to n (λ q. ind (eqb hand (HAND-SEND + q))) ≡ 0
unfolding sum_to
no-hands hand zero below = refl
no-hands hand (suc n) below = rw (no-hands hand n below, ne_eqb hand (HAND-SEND + n) (λ e. omega arith))

module _ {a : Account} (s : Sound a) (x : ℕ) (below : x < a.entries) where
  -- what the lists have of a buffer, by its recorded hand
  held-by-hand : held x a ≡ ind (eqb (hand_of a x) HAND-FREE) + ind (eqb (hand_of a x) HAND-RECEIVE) + sum_to a.sends (λ q. ind (eqb (hand_of a x) (HAND-SEND + q)))
  unfolding held
  held-by-hand =
      let free : occurs x (free_list a) ≡ ind (eqb (hand_of a x) HAND-FREE) = rw (list-free a) at (s.placed x HAND-FREE below (λ e. omega arith)) in
      let receive : occurs x (receive_list a) ≡ ind (eqb (hand_of a x) HAND-RECEIVE) = rw (list-receive a) at (s.placed x HAND-RECEIVE below (λ e. omega arith)) in
      let sent : sum_to a.sends (λ q. occurs x (send_list a q)) ≡ sum_to a.sends (λ q. ind (eqb (hand_of a x) (HAND-SEND + q)))
      = sum_same a.sends _ _ (λ q l. rw (list-send a q l) at (s.placed x (HAND-SEND + q) below (λ e. omega arith))) in
      rw (free, receive, sent)

  -- so at most one list has it, once
  held-once : held x a ≤ 1
  held-once = rw held-by-hand (by-case (dec_lt (hand_of a x) HAND-SEND))
    where
      by-case : Dec (hand_of a x < HAND-SEND)
          → ind (eqb (hand_of a x) HAND-FREE) + ind (eqb (hand_of a x) HAND-RECEIVE) + sum_to a.sends (λ q. ind (eqb (hand_of a x) (HAND-SEND + q))) ≤ 1
      by-case (yes low) = rw (no-hands (hand_of a x) a.sends low) (by-free (ℕ_discrete (hand_of a x) HAND-FREE))
        where
          by-free : Dec (hand_of a x ≡ HAND-FREE) → ind (eqb (hand_of a x) HAND-FREE) + ind (eqb (hand_of a x) HAND-RECEIVE) + 0 ≤ 1
          by-free (yes e) = rw e (omega arith)
          by-free (no ne) = rw (ne_eqb (hand_of a x) HAND-FREE ne) (omega (arith, ind-le (eqb (hand_of a x) HAND-RECEIVE)))
      by-case (no high) =
          rw (ne_eqb (hand_of a x) HAND-FREE (λ e. omega arith), ne_eqb (hand_of a x) HAND-RECEIVE (λ e. omega arith))
          (omega (arith, few-hands (hand_of a x) a.sends, ind-le (ltb (hand_of a x) (HAND-SEND + a.sends))))

-- ---- over every history

fresh-entries : (pool entries size receives sends : ℕ) → fresh_verdict entries size receives sends ≡ Done → (fresh_call pool entries size receives sends).account.entries ≡ entries
unfolding fresh_call opened
fresh-entries pool entries size receives sends e = rw e

-- a history's account has as many entries as its fresh account was given
pub same_entries : {a : Account} (t : History a) → a.entries ≡ buffers t
unfolding buffers
same_entries (h.fresh pool entries size receives sends r e done) =
    rw e (fresh-entries pool entries size receives sends (fresh-passed pool entries size receives sends (rw e at done)))
same_entries (h.call before t) = ap (λ o. o.0) (step-numbers t) ∙ same_entries before

module _ {a : Account} (t : History a) where
  -- each buffer is in exactly one of four hands: once in the free stack, the receive ring or one send queue, or else with the application,
  -- which was given it once more than it gave it back
  pub one-hand : (x : ℕ) → x < buffers t → (held x a + (given x t - returned x t) ≡ 1) × (returned x t ≤ given x t)
  one-hand x below =
      let once = held-once (always-whole t).1 x (rw (same_entries t) below) in
      let both = rw (lt-ltb x (buffers t) below) at (balance t x) in
      (omega arith, omega arith)

  -- once started, the receive ring has exactly 512; before, none
  pub ring-full : length (receive_list a) ≡ pick a.started SLOTS 0
  ring-full = by-case a.started refl
    where
      by-case : (b : Bool) → a.started ≡ b → length (receive_list a) ≡ pick a.started SLOTS 0
      by-case true e = rw e (always-whole t).0.slots
      by-case false e = rw e

  -- a send queue never has over 511
  pub queue-most : (q : ℕ) → length (send_list a q) < SLOTS
  queue-most q = rw (length-around a.sent q _ (pending a q)) (omega arith)
