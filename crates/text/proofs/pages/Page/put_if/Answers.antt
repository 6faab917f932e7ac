use mathlib.Core.Path.{ap, sym}
use mathlib.Core.List.{[]}
use mathlib.Core.Bool.{Bool}
use Rattle.bits.specs.Bits.{pick}
use Rattle.text.specs.Refusals.{carried_text}
use Rattle.text.proofs.Putting.{nothing, same}
use Rattle.text.proofs.pages.Page.put_if.Goals as goal

pub returns-else-is_there : goal.returns-else-is_there
returns-else-is_there c = same (sym (ap (λ (t : Bool). pick t (carried_text c.args.is_rule c.args.value) []) c.if-is_there.false)) (nothing c.args.self.now)
