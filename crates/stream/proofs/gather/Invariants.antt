-- `stream::gather` meets its contract: the handles so far are those of the ids so far. Assumes nothing.
use Prim.Native.Nat.{◌-◌, ◌≤◌}
use mathlib.Core.Path.{◌≡◌}
use lib.ListN.{length}
use Rattle.rules.specs.Handles.{handles}
use Rattle.tally.specs.Tally.{memory_as}
use Rattle.stream.specs.Bench.{send_lists}
use Rattle.stream.proofs.Memory.{firsts}
use Rattle.stream.proofs.gather.Given as goal

abbrev pub invariant-loop-i : goal.invariant-loop-i
invariant-loop-i l =
    (l.i ≤ l.count) × (firsts l.i (handles l.pools l.ids l.froms l.sizes) ≡ send_lists l.rest l.i (memory_as l.offsets l.lengths))
    × (length l.pools ≡ length l.initial.pools) × (length l.ids ≡ length l.initial.ids) × (length l.froms ≡ length l.initial.froms) × (length l.sizes ≡ length l.initial.sizes)

abbrev pub decreases-loop-i : goal.decreases-loop-i
decreases-loop-i l = l.count - l.i
