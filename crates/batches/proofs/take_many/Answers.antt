-- `batches::take_many` meets its contract: what is left to take from here is what was to take at the start, and each turn takes one. The lists keep
-- their lengths, so they keep their room. Assumes nothing.
use Prim.Native.Nat.{ℕ, suc, ◌+◌, ◌-◌, ◌<◌}
use mathlib.Core.Path.{◌≡◌, refl, sym, ap, ◌∙◌}
use lib.ListN.{length-set}
use native.Mathlib.Omega.{arith}
use Rattle.rules.specs.Verdict.{Done}
use Rattle.rules.specs.Handles.{handles}
use Rattle.rules.specs.Packets.{Taking, taken, one_more, take_many, batched}
use Rattle.rules.proofs.Packets.{many-none, many_more}
use Rattle.batches.proofs.take_many.Goals as goal

-- one turn of what is left
turn : (pool len most count : ℕ) (w all : Taking) → count < most → 0 < w.free.depth → take_many pool len (most - count) w ≡ all
    → take_many pool len (most - (count + 1)) (one_more pool len w) ≡ all
turn pool len most count w all more some e =
    let left : most - count ≡ suc (most - (count + 1)) = omega arith in
    sym (many_more pool len (most - (count + 1)) w some) ∙ rw left at e

pub loop-count-init : goal.loop-count-init
loop-count-init c =
    let e : c.args.most - 0 ≡ c.args.most = omega arith in
    (omega arith, omega arith, refl, refl, record { pools = refl; ids = refl; offsets = refl; lengths = refl }, rw e)

pub take_next-handle-requires : goal.take_next-handle-requires
take_next-handle-requires c =
    let inv = c.loop-count.invariant in
    (omega arith, omega (arith, c.requires.deep), rw inv.2 (c.requires.known (c.loop-count.account.free.depth - 1) (omega arith)))

pub put-requires : goal.put-requires
put-requires c = record { pools = omega arith; ids = omega arith; offsets = omega arith; lengths = omega arith }

pub loop-count-preserved : goal.loop-count-preserved
unfolding taken
loop-count-preserved c =
    let put = c.put.ensures in
    let inv = c.loop-count.invariant in
    let pool : c.loop-count.account.pool ≡ c.args.account.now.pool = ap (λ a. a.pool) inv.3 in
    rw (put, c.take_next-handle.ensures.handle, c.take_next-handle.ensures.leaves) (
      omega arith,
      omega arith,
      inv.2,
      rw inv.3 refl,
      record { pools = simp length-set inv.4.pools; ids = simp length-set inv.4.ids; offsets = simp length-set inv.4.offsets; lengths = simp length-set inv.4.lengths },
      rw pool (turn _ _ _ _ _ _ (omega arith) (omega arith) inv.5),
    )

pub returns : goal.returns
returns c =
    let most = c.args.most in
    let all : c.loop-count.count ≡ most = omega arith in
    let none : most - most ≡ 0 = omega arith in
    let left = rw (all, none) at c.loop-count.invariant.5 in
    rw (sym left, many-none)
    (ap (λ a. batched (record { verdict = Done; count = most; account = a }) (handles c.loop-count.pools c.loop-count.ids c.loop-count.offsets c.loop-count.lengths)) (sym c.loop-count.invariant.3))
