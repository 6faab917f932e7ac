-- One after another.
use Rattle.writing.proofs.Pours.{counted-all}
use Rattle.writing.proofs.ink.put_counted.Goals as goal

pub returns : goal.returns
returns c = counted-all c.args.buffer.now _ _ _ c.args.at c.args.text.now c.put_byte.ensures c.pour.ensures c.put_byte-2.ensures
