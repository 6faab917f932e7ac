-- Case by case.
use mathlib.Core.Path.{sym, ap}
use Rattle.text.proofs.Putting.{then, same}
use Rattle.readcalls.specs.Lines.{encoding_text}
use Rattle.readcalls.proofs.answers.put_encoding.Goals as goal

pub returns-in-Some : goal.returns-in-Some
returns-in-Some c = same (sym (ap encoding_text c.in-Some.is)) (then c.put.ensures c.put_pairs.ensures)
