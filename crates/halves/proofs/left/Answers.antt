-- By the count, each way out is a law of `proofs/Shifts.antt`.
use Rattle.std.proofs.Common.{◌∙◌}
use Rattle.halves.proofs.Shifts.{left_near, left_far, left-none}
use Rattle.halves.proofs.left.Goals as goal

pub returns-then-k-lt32 : goal.returns-then-k-lt32
returns-then-k-lt32 c = c.joined.ensures ∙ rw (c.upper-high.ensures, c.lower-low.ensures) (left_near c.args.v c.args.k c.if-k-lt32.true)

pub returns-then-k-lt64 : goal.returns-then-k-lt64
returns-then-k-lt64 c = c.joined-then-k-lt64.ensures ∙ rw c.lower-low.ensures (left_far c.args.v c.args.k c.if-k-lt32.false c.if-k-lt64.true)

pub returns : goal.returns
returns c = left-none c.args.v c.args.k c.if-k-lt64.false
