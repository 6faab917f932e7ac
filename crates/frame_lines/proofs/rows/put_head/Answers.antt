use Rattle.text.proofs.Putting.{then}
use Rattle.frame_lines.proofs.rows.put_head.Goals as goal

pub returns : goal.returns
returns c = then c.put.ensures (then (then (then (then c.put_number.ensures c.put_element.ensures) c.put_number-2.ensures) c.put_number-3.ensures) c.put_availability.ensures)
