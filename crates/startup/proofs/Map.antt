-- The registers before a place: a test of each in turn, and that none need be looked at past the highest, which comes early.
-- Assumes nothing.
use Prim.Native.Nat.{ℕ, zero, suc, min, ◌+◌, ◌-◌, ◌≤◌, ◌<◌}
use mathlib.Core.Path.{◌≡◌, refl, sym, ap, ◌∙◌}
use mathlib.Core.Bool.{Bool, true, false, ◌&&◌}
use native.Mathlib.Decide.{dec_lt}
use native.Mathlib.Omega.{arith}
use borrow.Author.Tests.{leb-true, le-leb}
use lib.Dec.{leb, ltb}
use Rattle.std.specs.List.{list_all, range_with_len}
use Rattle.limits.specs.Limits.{QUEUES}
use Rattle.laws.specs.Test.{pick, both, every}
use Rattle.laws.proofs.Test.{both-same, every-at, every-all}
use Rattle.card.specs.Registers.{ROWS, address, HIGHEST}
use Rattle.card.proofs.Rule.{address-low}
use Rattle.parts.specs.Parts.{row_of}
use Rattle.parts.specs.declared.Template.{Template}
use Rattle.parts.specs.declared.Template.TheVariants.{Write, Read, Change, WaitClear, Pause, Link}
use Rattle.parts.specs.declared.Template.TheVariants as template
use Rattle.plan.specs.Sequence.{Ranged, filled}
use Rattle.plan.proofs.Laws.{masked, of-every}
use Rattle.plan.proofs.Highest.{HIGHEST-PLACE, at-highest}
use Rattle.plan.specs.declared.Setup.{Setup}
use Rattle.plan.specs.declared.Item.TheVariants.{End}
use Rattle.startup.specs.Machine.{in_map, reachable, item_at, all_passed}

-- ---- the test

both_both : (a b c : Bool) → both (both a b) c ≡ both a (both b c)
both_both true b c = refl
both_both false b c = refl

and_both : (a b : Bool) → (a && b) ≡ both a b
and_both true b = refl
and_both false b = refl

every_first : (test : ℕ → Bool) (n : ℕ) → every (suc n) test ≡ both (test 0) (every n (λ k. test (suc k)))
unfolding every
every_first test zero = sym (both-same (test 0))
every_first test (suc n) = rw (every_first test n) (both_both (test 0) (every n (λ k. test (suc k))) (test (suc n)))

-- a test of each number from a on is one of every number below n
every_listed : (test : ℕ → Bool) (n a : ℕ) (of : ℕ → Bool) → ((k : ℕ) → test (a + k) ≡ of k) → list_all test (range_with_len a n) ≡ every n of
unfolding every
every_listed test zero a of e = refl
every_listed test (suc n) a of e =
    let first : test a ≡ of 0 = ap test (omega arith) ∙ e 0 in
    let rest = every_listed test n (a + 1) (λ k. of (suc k)) (λ k. ap test (omega arith) ∙ e (suc k)) in
    rw (first, rest) (and_both (of 0) (every n (λ k. of (suc k))) ∙ sym (every_first of n))

module _ (s : Setup) where
  pub passed_listed : (n : ℕ) → list_all (λ k. reachable s.map (item_at s k)) (range_with_len 0 n) ≡ all_passed s n
  unfolding all_passed
  passed_listed n =
      every_listed (λ k. reachable s.map (item_at s k)) n 0 (λ k. reachable s.map (item_at s k))
      (λ k. ap (λ j. reachable s.map (item_at s j)) (omega arith))

  pub passed-at : (n k : ℕ) → k < n → all_passed s n ≡ true → reachable s.map (item_at s k) ≡ true
  unfolding all_passed
  passed-at n k = every-at (λ k. reachable s.map (item_at s k)) n k

  pub passed-all : (n : ℕ) → ((k : ℕ) → k < n → reachable s.map (item_at s k) ≡ true) → all_passed s n ≡ true
  unfolding all_passed
  passed-all n = every-all (λ k. reachable s.map (item_at s k)) n

-- ---- past the highest register

-- a register that is no higher than one in the map is in the map
in-map-low : (map low high : ℕ) → low ≤ high → in_map map high ≡ true → in_map map low ≡ true
unfolding in_map
in-map-low map low high h e = by_size (ltb map 4) e
  where
    by_size : (b : Bool) → pick b false (leb high (map - 4)) ≡ true → pick b false (leb low (map - 4)) ≡ true
    by_size true z = z
    by_size false z = le-leb low (map - 4) (omega (arith, h, leb-true high (map - 4) z))

module _ (s : Setup) (g : Ranged s) (top : in_map s.map HIGHEST ≡ true) where
  low : (queue : ℕ) (t : Template) → queue < QUEUES → row_of t < ROWS → in_map s.map (address (row_of t) queue) ≡ true
  low queue t q r = in-map-low s.map (address (row_of t) queue) HIGHEST (address-low (row_of t) queue r q) top

  filled-reached : (queue : ℕ) (t : Template) → queue < QUEUES → row_of t < ROWS → masked t ≡ true → reachable s.map (filled s queue t) ≡ true
  unfolding reachable
  filled-reached queue (Write row v) q r m = low queue (Write row v) q r
  filled-reached queue (Read row) q r m = low queue (Read row) q r
  filled-reached queue (Change row clear set) q r m = low queue (Change row clear set) q r
  filled-reached queue (template.WaitSet row mask) q r m = low queue (template.WaitSet row mask) q r
  filled-reached queue (WaitClear row mask) q r m = low queue (WaitClear row mask) q r
  filled-reached queue (Pause ms) q r m = refl
  filled-reached queue (Link row) q r m = low queue (Link row) q r

  end-reached : reachable s.map End ≡ true
  unfolding reachable
  end-reached = refl

  all-reached : (k : ℕ) → reachable s.map (item_at s k) ≡ true
  all-reached = of-every s g (λ i. reachable s.map i ≡ true) filled-reached end-reached

module _ (s : Setup) (g : Ranged s) where
  highest-reached : reachable s.map (item_at s HIGHEST-PLACE) ≡ true → in_map s.map HIGHEST ≡ true
  unfolding reachable
  highest-reached e = rw (at-highest s) at e

  -- past the highest register, all are in the map
  pub passed-rest : (n k : ℕ) → HIGHEST-PLACE < k → all_passed s k ≡ true → all_passed s n ≡ true
  passed-rest n k h e = passed-all s n (λ j l. all-reached s g (highest-reached (passed-at s k HIGHEST-PLACE h e)) j)

  -- so as many need be looked at as come up to it
  pub passed_few : (n : ℕ) → all_passed s (min n (HIGHEST-PLACE + 1)) ≡ all_passed s n
  passed_few n = by-case (dec_lt HIGHEST-PLACE n)
    where
      by-test : (b : Bool) → all_passed s (HIGHEST-PLACE + 1) ≡ b → HIGHEST-PLACE < n → all_passed s (HIGHEST-PLACE + 1) ≡ all_passed s n
      by-test true e h = e ∙ sym (passed-rest n (HIGHEST-PLACE + 1) (omega arith) e)
      by-test false e h = by_all (all_passed s n) refl
        where
          by_all : (b : Bool) → all_passed s n ≡ b → all_passed s (HIGHEST-PLACE + 1) ≡ all_passed s n
          by_all true f = passed-all s (HIGHEST-PLACE + 1) (λ k l. passed-at s n k (omega arith) f) ∙ sym f
          by_all false f = e ∙ sym f

      by-case : Dec (HIGHEST-PLACE < n) → all_passed s (min n (HIGHEST-PLACE + 1)) ≡ all_passed s n
      by-case (yes h) =
          let m : min n (HIGHEST-PLACE + 1) ≡ HIGHEST-PLACE + 1 = omega arith in
          rw m (by-test (all_passed s (HIGHEST-PLACE + 1)) refl h)
      by-case (no h) = ap (all_passed s) (omega arith)
