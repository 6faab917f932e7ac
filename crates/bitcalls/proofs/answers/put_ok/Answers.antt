use Rattle.text.proofs.Putting.{then}
use Rattle.bitcalls.proofs.answers.put_ok.Goals as goal

pub returns : goal.returns
returns c = then c.put_text.ensures c.put_number.ensures
