-- `words::write` meets its contract: the low bytes of the value stand where the word is put. Assumes nothing.
use Rattle.words.proofs.Bytes.{to_le_bytes-put_le}
use Rattle.words.proofs.write.Goals as goal

pub returns : goal.returns
returns c = rw (c.copy_from_slice.ensures.after, c.to_le_bytes.ensures) (to_le_bytes-put_le c.args.width c.args.at c.args.value c.args.s.now c.requires.1 c.requires.0)
