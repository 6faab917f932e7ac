use Rattle.text.proofs.Putting.{then}
use Rattle.compose.proofs.entries.put_record.Goals as goal

pub returns : goal.returns
returns c = then (then c.put_word.ensures c.put_word-2.ensures) c.put_word-3.ensures
