-- `tally::counted` meets its contract: the lists have no more than there are entries. Assumes nothing.
use Prim.Native.Nat.{◌+◌, ◌≤◌}
use mathlib.Core.Path.{refl}
use native.Mathlib.Omega.{arith}
use Rattle.limits.specs.Limits.{ENTRIES}
use Rattle.laws.proofs.Test.{every-all}
use Rattle.rules.specs.Sound.{queues_placed, Full}
use Rattle.rules.proofs.Sound.{sound-means, means-indices}
use Rattle.tally.specs.Tally.{pending_of, receive_of, tally_of}
use Rattle.tally.proofs.Counts.{all-hands}
use borrow.Author.Rules.{rules}
use Rattle.tally.proofs.counted.Goals as goal
use Rattle.tally.proofs.counted.Goals.{After-all_pending-send}

pub all_pending-send-requires : goal.all_pending-send-requires
unfolding queues_placed
all_pending-send-requires c = let s = sound-means _ c.requires in (s.numbers.few-sends, every-all _ _ (λ q below. means-indices _ _ (s.queues q below)))

-- the account's arrays have their lengths
full : (c : After-all_pending-send) → Full c.args.account.now
full c = record { stack = search rules; hands = search rules; slots = search rules; sent = search rules; clean = search rules; tx = search rules }

-- what the lists have is no more than there is
enough : (c : After-all_pending-send)
    → (c.args.account.now.free.depth + receive_of c.args.account.now + pending_of c.args.account.now.sends c.args.account.now.clean c.args.account.now.tx ≤ c.args.account.now.entries)
    × (c.args.account.now.entries ≤ ENTRIES)
enough c = let s = sound-means _ c.requires in (omega (arith, all-hands _ (full c) s), s.numbers.few-entries)

pub overflow_add-result : goal.overflow_add-result
overflow_add-result c = omega (arith, c.all_pending-send.ensures.0, enough (goal.at.overflow_add-result c).After-all_pending-send)

pub overflow_add-result-2 : goal.overflow_add-result-2
overflow_add-result-2 c = omega (arith, c.all_pending-send.ensures.0, enough (goal.at.overflow_add-result-2 c).After-all_pending-send)

pub overflow_sub-result : goal.overflow_sub-result
overflow_sub-result c = omega (arith, c.all_pending-send.ensures.0, enough (goal.at.overflow_sub-result c).After-all_pending-send)

pub returns : goal.returns
unfolding tally_of
returns c = rw (c.ring_count-receive.ensures, c.all_pending-send.ensures.0) refl
