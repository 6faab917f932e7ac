-- Up to 32 they end in the lower half, and above it in the upper one.
use Rattle.std.proofs.Common.{◌∙◌, arith}
use Rattle.halves.proofs.Masks.{below, above}
use Rattle.halves.proofs.ones.Goals as goal

pub returns-then-n-le32 : goal.returns-then-n-le32
returns-then-n-le32 c = c.joined.ensures ∙ below c.args.n (omega arith) c.if-n-le32.true

pub returns-else-n-le32 : goal.returns-else-n-le32
returns-else-n-le32 c = c.joined-else-n-le32.ensures ∙ above c.args.n c.if-n-le32.false c.if-n-gt64.false
