-- `memory::clone` meets its contract: refused as its verdict says, or the top is taken and the bytes are copied. Assumes nothing.
use mathlib.Core.Path.{◌≡◌, refl, sym}
use native.Mathlib.Omega.{arith}
use lib.ListN.{length}
use Rattle.std.proofs.lemmas.Result.{err_from_is_err_and}
use Rattle.limits.specs.Limits.{HEADROOM}
use Rattle.pool.specs.Stack.{top}
use Rattle.rules.specs.Packets.{place_of, clone_call}
use Rattle.memory.proofs.Laws.{Clonable, clone-inside}
use Rattle.memory.proofs.clone.Goals as goal
use Rattle.memory.proofs.clone.Goals.{After-place-to, In_ok-clone_verdict}

-- every test held
clonable : (c : In_ok-clone_verdict) → Clonable c.args.account.now c.args.handle (length c.args.memory.now)
clonable c = clone-inside _ _ _ (sym c.in_ok-clone_verdict.ensures)

pub place-from-requires : goal.place-from-requires
place-from-requires c = omega (arith, clonable (goal.at.place-from-requires c).In_ok-clone_verdict)

pub take_top-copied-requires : goal.take_top-copied-requires
take_top-copied-requires c =
    let held = clonable (goal.at.take_top-copied-requires c).In_ok-clone_verdict in
    (held.some, omega arith, omega arith)

pub place-to-requires : goal.place-to-requires
place-to-requires c = rw c.take_top-copied.ensures.handle (omega (arith, clonable (goal.at.place-to-requires c).In_ok-clone_verdict))

-- the clone's place
to_is : (c : After-place-to) → c.place-to.result ≡ place_of c.args.account.now.size (top c.args.account.now.free) HEADROOM
to_is c = rw c.take_top-copied.ensures.handle at c.place-to.ensures

pub copy-requires : goal.copy-requires
copy-requires c =
    let held = clonable (goal.at.copy-requires c).In_ok-clone_verdict in
    let to = to_is (goal.at.copy-requires c).After-place-to in
    (omega arith, omega arith)

pub returns-in_err-clone_verdict : goal.returns-in_err-clone_verdict
unfolding clone_call
returns-in_err-clone_verdict c = let p = err_from_is_err_and c.from_residual.result c.from_residual.ensures.1 in rw (p.1, p.2, sym c.in_err-clone_verdict.ensures)

pub returns : goal.returns
unfolding clone_call
returns c =
    rw (
      c.copy.ensures,
      c.place-from.ensures,
      c.take_top-copied.ensures.handle,
      c.take_top-copied.ensures.leaves,
      sym c.in_ok-clone_verdict.ensures,
      to_is (goal.at.returns c).After-place-to,
    ) refl
