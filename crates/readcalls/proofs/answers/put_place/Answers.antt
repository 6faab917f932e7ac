use Rattle.text.proofs.Putting.{then}
use Rattle.readcalls.proofs.answers.put_place.Goals as goal

pub returns : goal.returns
returns c = then c.put.ensures (then c.put_place.ensures c.put_encoding.ensures)
