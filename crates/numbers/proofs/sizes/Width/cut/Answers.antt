-- By the case of the cut.
use mathlib.Core.Path.{sym, ◌∙◌}
use Rattle.numbers.proofs.Limits.{cut_fits}
use Rattle.numbers.proofs.sizes.Width.cut.Goals as goal

pub returns-in-Some : goal.returns-in-Some
returns-in-Some c = c.nearly.ensures ∙ cut_fits c.args.self.bits c.args.self.signed c.args.y _ _ (sym c.truncated_bits.ensures ∙ c.in-Some.is)
