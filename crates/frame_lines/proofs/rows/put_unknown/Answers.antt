use Rattle.frame_lines.specs.Lines.{unknown_line}
use Rattle.text.proofs.Putting.{then}
use Rattle.frame_lines.proofs.rows.put_unknown.Goals as goal

pub returns : goal.returns
unfolding unknown_line
returns c = then c.put_text.ensures (then c.put_fixed_hex.ensures c.put.ensures)
