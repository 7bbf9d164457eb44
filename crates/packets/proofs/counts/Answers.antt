-- `packets::counts` meets its contract: each count is what its callee ensures, and a started ring has a buffer in each slot. Assumes nothing.
use mathlib.Core.Path.{◌≡◌}
use lib.ListN.{length}
use borrow.Author.Rules.{rules}
use Rattle.limits.specs.Limits.{SLOTS}
use Rattle.laws.proofs.Test.{every-all}
use Rattle.rules.specs.Sound.{queues_placed}
use Rattle.rules.specs.Refusals.{counts_verdict}
use Rattle.rules.specs.Packets.{counts_call}
use Rattle.rules.proofs.Sound.{sound-means, means-indices}
use Rattle.rules.proofs.Facts.{bounds}
use Rattle.packets.proofs.counts.Goals as goal
use Rattle.packets.proofs.counts.Goals.{Start, then-account, else-account}

slots-all : (c : Start) → length c.args.account.now.slots ≡ SLOTS
slots-all c = search rules

pub send_counts-requires : goal.send_counts-requires
unfolding queues_placed
send_counts-requires c = every-all _ _ (λ q below. means-indices _ _ ((sound-means _ c.requires).queues q below))

pub count_out-requires : goal.count_out-requires
count_out-requires c = (bounds _ c.requires).entries-most

pub returns : goal.returns
unfolding counts_call counts_verdict
returns c =
    elim c.if-account.branch [
      | then-account w ↦ rw (c.requires, w.if-account.true, w.result-is, slots-all (goal.at.returns c).Start, c.send_counts.ensures, c.count_out.ensures)
      | else-account w ↦ rw (c.requires, w.if-account.false, w.result-is, c.send_counts.ensures, c.count_out.ensures)
    ]
