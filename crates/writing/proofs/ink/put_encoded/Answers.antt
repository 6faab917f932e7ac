-- One after another.
use Rattle.writing.proofs.Pours.{encoded-all}
use Rattle.writing.proofs.ink.put_encoded.Goals as goal

pub returns : goal.returns
returns c = encoded-all c.args.buffer.now _ _ _ c.args.at c.args.x c.args.text.now c.put_byte.ensures c.put_byte-2.ensures c.pour.ensures
