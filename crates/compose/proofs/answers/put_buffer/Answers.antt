use Rattle.text.proofs.Putting.{then}
use Rattle.compose.proofs.answers.put_buffer.Goals as goal

pub returns : goal.returns
returns c = then c.put_text.ensures (then c.put_bytes.ensures c.put.ensures)
