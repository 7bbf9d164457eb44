-- `packets::open` meets its contract: the ids are those that `count_up` ensures. Assumes nothing.
use Rattle.rules.specs.Account.{opened}
use Rattle.packets.proofs.open.Goals as goal

pub returns : goal.returns
unfolding opened
returns c = rw c.count_up-ids.ensures
