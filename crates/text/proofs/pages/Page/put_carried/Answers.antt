use mathlib.Core.Path.{ap, sym}
use mathlib.Core.Bool.{Bool}
use Rattle.text.specs.Refusals.{carried_text}
use Rattle.text.proofs.Putting.{then, same}
use Rattle.text.proofs.pages.Page.put_carried.Goals as goal

pub returns-then-is_rule : goal.returns-then-is_rule
returns-then-is_rule c = same (sym (ap (λ (t : Bool). carried_text t c.args.value) c.if-is_rule.true)) (then c.put.ensures c.put-then-is_rule.ensures)
