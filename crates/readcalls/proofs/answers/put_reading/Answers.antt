use Rattle.text.proofs.Putting.{then}
use Rattle.readcalls.specs.Lines.{reading_line}
use Rattle.readcalls.proofs.answers.put_reading.Goals as goal

pub returns : goal.returns
unfolding reading_line
returns c = then (then (then (then c.put_head.ensures c.put_raw.ensures) c.put_kind.ensures) c.put_content.ensures) c.put.ensures
