-- By what the RAW is.
use mathlib.Core.Path.{sym, ◌∙◌}
use Rattle.text.proofs.Putting.{same}
use Rattle.numbercalls.proofs.Texts.{scaled}
use Rattle.numbercalls.proofs.calls.put_scale.Goals as goal

pub returns : goal.returns
returns c = same (scaled c.args.f c.args.digits.now (sym c.hex.ensures ∙ c.in-Some.is) c.samopute_scale-status.ensures) c.put_scale_answer.ensures
