-- `consume` meets its contract: what is read is gone from the front. Assumes nothing.
use Rattle.std.proofs.Common.{arith}
use Rattle.desk.proofs.Front.{behind}
use Rattle.desk.proofs.input.Input.consume.Goals as goal

pub returns : goal.returns
returns c = behind c.args.self.now.bytes c.args.self.now.from c.args.self.now.to c.args.count (omega arith)
