use Rattle.frame_lines.specs.Lines.{reading_line}
use Rattle.text.proofs.Putting.{then}
use Rattle.frame_lines.proofs.rows.put_reading.Goals as goal

pub returns : goal.returns
unfolding reading_line
returns c = then (then c.put_head.ensures c.put_raw.ensures) c.put.ensures
