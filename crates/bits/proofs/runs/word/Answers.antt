-- The eight bytes, each at its place.
use mathlib.Core.Path.{◌∙◌}
use Rattle.bits.proofs.Words.{word-sum}
use Rattle.bits.proofs.runs.word.Goals as goal

pub returns : goal.returns
returns c = c.from_le_bytes.ensures ∙ word-sum c.args.s.now c.args.q (λ i. (c.type_inv.s i).fits)
