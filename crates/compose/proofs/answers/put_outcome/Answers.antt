-- By the answer of the encode.
use mathlib.Core.Path.{sym, ap}
use Rattle.text.proofs.Putting.{then, same}
use Rattle.compose.specs.Answers.{outcome_text}
use Rattle.compose.proofs.answers.put_outcome.Goals as goal

pub returns-in-Ok : goal.returns-in-Ok
returns-in-Ok c = same (sym (ap outcome_text c.in-Ok.is)) (then c.put.ensures c.put_number.ensures)
