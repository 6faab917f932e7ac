-- One after another.
use Rattle.writing.proofs.Pours.{bare-all}
use Rattle.writing.proofs.ink.put_bare.Goals as goal

pub returns : goal.returns
returns c = bare-all c.args.buffer.now _ _ c.args.at c.args.size c.args.text.now c.pour.ensures c.fill.ensures
