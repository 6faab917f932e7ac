use Rattle.text.proofs.Putting.{then}
use Rattle.text.proofs.pages.Page.put_value.Goals as goal

pub returns : goal.returns
returns c = then c.put.ensures c.put_hex.ensures
