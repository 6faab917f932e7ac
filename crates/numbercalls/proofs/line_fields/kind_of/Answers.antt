-- The text holds the names in their order.
use Rattle.columns.specs.Parts.{parts_of}
use Rattle.numbercalls.proofs.Codes.{kind}
use Rattle.numbercalls.proofs.line_fields.kind_of.Goals as goal

pub returns : goal.returns
unfolding parts_of
returns c = kind c.args.line.now c.word.ensures c.place_or_number.ensures
