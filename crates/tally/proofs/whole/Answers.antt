-- `tally::whole` meets its contract: each array's type has its length. Assumes nothing.
use borrow.Author.Rules.{rules}
use Rattle.tally.proofs.whole.Goals as goal

pub returns : goal.returns
returns c = record { stack = search rules; hands = search rules; slots = search rules; sent = search rules; clean = search rules; tx = search rules }
