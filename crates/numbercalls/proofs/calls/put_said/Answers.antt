-- The text holds the kinds at their codes.
use Rattle.columns.specs.Parts.{parts_of}
use Rattle.text.proofs.Putting.{then, same}
use Rattle.numbercalls.proofs.calls.put_said.Goals as goal

pub returns : goal.returns
unfolding parts_of
returns c = then (then (same c.word.ensures c.put_text.ensures) c.put_value.ensures) c.put_silence.ensures
