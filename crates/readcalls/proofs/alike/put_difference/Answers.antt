-- Case by case.
use mathlib.Core.Path.{sym, ap}
use Rattle.text.proofs.Putting.{nothing, same}
use Rattle.readcalls.specs.Alike.{difference_text}
use Rattle.readcalls.proofs.alike.put_difference.Goals as goal

pub returns-then-same : goal.returns-then-same
returns-then-same c = same (sym (ap difference_text c.if-same.true)) (nothing c.args.page.now)
