-- By the answer of the read.
use mathlib.Core.Path.{sym, ap, ◌∙◌}
use Rattle.text.proofs.Putting.{then, same}
use Rattle.bitcalls.specs.Text.{read_text}
use Rattle.bitcalls.proofs.reads.put_read.Goals as goal

pub returns-in-Ok : goal.returns-in-Ok
returns-in-Ok c = same (sym (ap read_text c.in-Ok.is) ∙ ap read_text c.read_width.ensures) (then c.put_ok.ensures c.put_value.ensures)
