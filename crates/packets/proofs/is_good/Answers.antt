-- `packets::is_good` meets its contract: the handle's test reads the account's own numbers. Assumes nothing.
use Rattle.pool.specs.Good.{good_in}
use Rattle.rules.specs.Sound.{is_good}
use Rattle.rules.proofs.Facts.{bounds}
use Rattle.packets.proofs.is_good.Goals as goal

pub is_good-requires : goal.is_good-requires
is_good-requires c = (bounds _ c.requires).entries-most

pub returns : goal.returns
unfolding is_good good_in
returns c = c.is_good.ensures
