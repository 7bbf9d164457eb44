-- `memory::copy` meets its contract: what the library's copy leaves is the part set at its place. Assumes nothing.
use mathlib.Core.Path.{◌≡◌}
use native.Mathlib.Nat.{add-sub_cancel_left}
use native.Mathlib.Omega.{arith}
use lib.ListN.{length, drop, length-drop}
use lib.Seq.{sets-eq, length-take-le}
use Rattle.rules.specs.Packets.{part}
use Rattle.memory.proofs.copy.Goals as goal

pub returns : goal.returns
returns c =
    let long : length (part c.args.from c.args.n c.args.memory.now) ≡ c.args.n = length-take-le c.args.n (drop c.args.from c.args.memory.now) (simp length-drop (omega arith)) in
    rw (c.copy_within.ensures.after, add-sub_cancel_left, sets-eq (part c.args.from c.args.n c.args.memory.now) c.args.memory.now c.args.to (omega arith), long)
