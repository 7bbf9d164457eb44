-- The loop of `batches::take_many`: what is left to take from here is what was to take at the start, and the lists keep their lengths.
use Prim.Native.Nat.{◌-◌, ◌≤◌}
use mathlib.Core.Path.{◌≡◌}
use lib.ListN.{length}
use Rattle.rules.specs.Handles.{Handles, handles}
use Rattle.rules.specs.Account.{with_pool}
use Rattle.rules.specs.Packets.{take_many, taking, taking_of}
use Rattle.batches.proofs.take_many.Given as goal

-- the lists are as long as they were
pub record Same (now before : Handles) : Type 0 where
  pub pools : length now.pools ≡ length before.pools
  pub ids : length now.ids ≡ length before.ids
  pub offsets : length now.offsets ≡ length before.offsets
  pub lengths : length now.lengths ≡ length before.lengths

abbrev pub invariant-loop-count : goal.invariant-loop-count
invariant-loop-count l =
    (l.count ≤ l.most) × (l.account.free.depth ≡ l.initial.account.free.depth - l.count) × (l.account.free.ids ≡ l.initial.account.free.ids)
    × (l.account ≡ with_pool l.initial.account l.account.free l.account.hands)
    × Same (handles l.pools l.ids l.offsets l.lengths) (handles l.initial.pools l.initial.ids l.initial.offsets l.initial.lengths)
    × (take_many l.initial.account.pool l.len (l.most - l.count) (taking l.account.free.ids l.account.free.depth l.account.hands (handles l.pools l.ids l.offsets l.lengths) l.count)
    ≡ take_many l.initial.account.pool l.len l.most (taking_of l.initial.account (handles l.initial.pools l.initial.ids l.initial.offsets l.initial.lengths)))
