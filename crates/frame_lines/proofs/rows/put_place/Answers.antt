use Rattle.text.proofs.Putting.{then}
use Rattle.frame_lines.proofs.rows.put_place.Goals as goal

pub returns : goal.returns
returns c = then c.put_decimal.ensures (then c.put.ensures c.put_decimal-2.ensures)
