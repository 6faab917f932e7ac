-- There is one place more than there are spaces.
use Rattle.numbercalls.proofs.Codes.{no_place, a_place}
use Rattle.numbercalls.proofs.line_fields.place_of.Goals as goal

pub returns-then-marks-place : goal.returns-then-marks-place
returns-then-marks-place c = no_place c.args.name.now c.args.words.now c.place_in-place.ensures c.marks.ensures c.if-marks-place.true

pub returns : goal.returns
returns c = a_place c.args.name.now c.args.words.now c.place_in-place.ensures c.marks.ensures c.if-marks-place.false c.code.ensures
