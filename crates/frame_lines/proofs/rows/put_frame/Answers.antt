use Rattle.frame_lines.specs.Lines.{frame_line}
use Rattle.text.proofs.Putting.{then}
use Rattle.frame_lines.proofs.rows.put_frame.Goals as goal

pub returns : goal.returns
unfolding frame_line
returns c = then c.put_text.ensures (then (then c.put_fixed_hex.ensures c.put_number.ensures) c.put.ensures)
