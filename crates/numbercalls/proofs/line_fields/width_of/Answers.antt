use Rattle.numbercalls.proofs.Codes.{width}
use Rattle.numbercalls.proofs.line_fields.width_of.Goals as goal

pub returns : goal.returns
returns c = width c.args.line.now c.word.ensures c.number_of.ensures
