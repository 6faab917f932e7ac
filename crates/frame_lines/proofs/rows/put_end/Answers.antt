use Rattle.frame_lines.specs.Lines.{end_line}
use Rattle.text.proofs.Putting.{then}
use Rattle.frame_lines.proofs.rows.put_end.Goals as goal

pub returns : goal.returns
unfolding end_line
returns c = then c.put.ensures (then c.put_number.ensures c.put-2.ensures)
