-- `tally::all_pending` meets its contract: the sum over the queues passed, each below a ring. Assumes nothing.
use Prim.Native.Nat.{ℕ, ◌+◌, ◌<◌}
use mathlib.Core.Path.{◌≡◌, refl, sym, ap, ◌∙◌}
use mathlib.Core.List.{List, [], ◌∷◌, ◌++◌}
use lib.ListN.{length, get_or, take, drop, length-drop}
use lib.Seq.{get_or-take, length-take-le}
use native.Mathlib.Numerals.{add-one}
use native.Mathlib.Omega.{arith}
use mathlib.Core.Logic.{inl, inr}
use borrow.Author.Rules.{rules}
use Rattle.std.proofs.lemmas.List.{length_push}
use Rattle.laws.specs.Occurs.{sum_to}
use Rattle.rules.proofs.Sound.{queues-mean}
use Rattle.tally.specs.Tally.{pending_of}
use Rattle.tally.proofs.Rest.{at-rest}
use Rattle.tally.proofs.all_pending.Goals as goal
use Rattle.tally.proofs.all_pending.Goals.{In-Some}

-- the queue that comes next is one of those passed, with its two indices
record Next (sends : ℕ) (clean tx : List ℕ) (n x y : ℕ) (r s : List ℕ) : Type 0 where
  below : n < sends
  tx-is : x ≡ get_or tx n 0
  clean-is : y ≡ get_or clean n 0
  tx-left : r ≡ drop (n + 1) (take sends tx)
  clean-left : s ≡ drop (n + 1) clean

next : (c : In-Some)
    → Next c.args.sends c.args.clean.now c.args.tx.now (length c.loop-tx.yielded) c.in-Some.field-0-0.now c.in-Some.field-0-1.now c.next.new.self.a.rest.now c.next.new.self.b.rest.now
next c =
    let inv = c.loop-tx.invariant in
    let s = c.in-Some.ensures.steps in
    let n = length c.loop-tx.yielded in
    let a = at-rest n (take c.args.sends c.args.tx.now) (sym inv.3 ∙ s.0) in
    let b = at-rest n c.args.clean.now (sym inv.4 ∙ s.1) in
    let below : n < c.args.sends = omega (arith, a.0, c.requires.0, c.told-tx, length-take-le c.args.sends c.args.tx.now (omega (arith, c.told-tx))) in
    record { below = below; tx-is = a.1 ∙ get_or-take c.args.sends c.args.tx.now n 0 below; clean-is = b.1; tx-left = a.2; clean-left = b.2 }

pub loop-tx-init : goal.loop-tx-init
unfolding pending_of sum_to
loop-tx-init c = search rules

pub pending-all-requires : goal.pending-all-requires
pending-all-requires c =
    let q = next c in
    let i = queues-mean _ _ _ c.requires.1 _ q.below in
    (rw q.tx-is i.tx-below, rw q.clean-is i.clean-below)

pub loop-tx-preserved : goal.loop-tx-preserved
unfolding pending_of sum_to
loop-tx-preserved c =
    let q = next (goal.at.loop-tx-preserved c).In-Some in
    let inv = c.loop-tx.invariant in
    let one-more : length (c.loop-tx.yielded ++ ((c.in-Some.field-0-0, c.in-Some.field-0-1) ∷ [])) ≡ length c.loop-tx.yielded + 1 = length_push c.loop-tx.yielded _ in
    rw one-more (
      inv.0,
      inv.1,
      omega (arith, q.below),
      q.tx-left,
      q.clean-left,
      rw (add-one, c.pending-all.ensures, inv.5, q.tx-is, q.clean-is) refl,
      omega (arith, c.pending-all.ensures, inv.6),
    )

pub returns : goal.returns
returns c =
    let inv = c.loop-tx.invariant in
    let long = length-take-le c.args.sends c.args.tx.now (omega (arith, c.requires.0, c.told-tx)) in
    let all : length c.loop-tx.yielded ≡ c.args.sends = elim c.in-None.ensures.steps [
      | inl w ↦ omega (arith, w.1.0, ap length inv.3, length-drop (length c.loop-tx.yielded) (take c.args.sends c.args.tx.now), long, inv.2)
      | inr w ↦ omega (arith, w.1.0, ap length inv.4, length-drop (length c.loop-tx.yielded) c.args.clean.now, c.told-clean, c.requires.0, inv.2)
    ] in
    (rw all at inv.5, rw all at inv.6)
