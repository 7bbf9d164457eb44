-- The loop of `tally::all_pending`: the sum over the queues passed, each below a ring, and what is left of both arrays.
use Prim.Native.Nat.{◌*◌, ◌≤◌}
use mathlib.Core.Path.{◌≡◌}
use lib.ListN.{length, take, drop}
use Rattle.limits.specs.Limits.{SLOTS}
use Rattle.tally.specs.Tally.{pending_of}
use Rattle.tally.proofs.all_pending.Given as goal

abbrev pub invariant-loop-tx : goal.invariant-loop-tx
invariant-loop-tx l =
    (goal.iterator-loop-tx).can_next l.tx-iterator
    × (goal.iterator-loop-tx).is_finite l.tx-iterator
    × (length l.yielded ≤ l.sends)
    × (l.tx-iterator.a.rest.now ≡ drop (length l.yielded) (take l.sends l.tx))
    × (l.tx-iterator.b.rest.now ≡ drop (length l.yielded) l.clean)
    × (l.all ≡ pending_of (length l.yielded) l.clean l.tx)
    × (l.all ≤ length l.yielded * SLOTS)
