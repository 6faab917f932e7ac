use Rattle.text.proofs.Putting.{then}
use Rattle.numbercalls.proofs.calls.put_ok.Goals as goal

pub returns : goal.returns
returns c = then c.put_text.ensures c.put_value.ensures
