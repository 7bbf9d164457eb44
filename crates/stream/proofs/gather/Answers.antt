-- `stream::gather` meets its contract: the handles so far are those of the ids so far. Assumes nothing.
use mathlib.Core.Path.{◌≡◌, refl}
use native.Mathlib.Omega.{arith}
use lib.ListN.{length-set}
use Rattle.laws.specs.Occurs.{up_from}
use Rattle.stream.specs.Bench.{send_lists}
use Rattle.stream.proofs.Memory.{gather-one}
use Rattle.stream.proofs.gather.Goals as goal

pub loop-i-init : goal.loop-i-init
unfolding send_lists up_from
loop-i-init c = (omega arith, refl, refl, refl, refl, refl)

pub loop-i-preserved : goal.loop-i-preserved
loop-i-preserved c = (
  omega arith,
  rw (c.last_handle-handle.ensures, c.read-id.ensures.value)
      (gather-one c.args.rest.now _ _ c.loop-i.i (record { pools = omega arith; ids = omega arith; offsets = omega arith; lengths = omega arith }) c.loop-i.invariant.1),
  simp length-set c.loop-i.invariant.2,
  simp length-set c.loop-i.invariant.3,
  simp length-set c.loop-i.invariant.4,
  simp length-set c.loop-i.invariant.5,
)

pub returns : goal.returns
returns c = let all : c.loop-i.i ≡ c.args.count = omega arith in rw all at c.loop-i.invariant.1
