-- `packets::take_top` meets its contract: what the pop gave goes into the handle, the stack and the record of hands. Assumes nothing.
use Rattle.rules.specs.Packets.{taken}
use Rattle.packets.proofs.take_top.Goals as goal

pub returns-clause-leaves : goal.returns-clause-leaves
unfolding taken
returns-clause-leaves c = rw c.pop-id.ensures
