-- By the count, each way out is a law of `proofs/Shifts.antt`.
use Rattle.std.proofs.Common.{◌∙◌}
use Rattle.halves.proofs.Shifts.{right_near, right_far, right-none}
use Rattle.halves.proofs.right.Goals as goal

pub returns-then-k-lt32 : goal.returns-then-k-lt32
returns-then-k-lt32 c = c.joined.ensures ∙ rw (c.upper-high.ensures, c.lower-low.ensures) (right_near c.args.v c.args.k c.if-k-lt32.true)

pub returns-then-k-lt64 : goal.returns-then-k-lt64
returns-then-k-lt64 c = c.joined-then-k-lt64.ensures ∙ rw c.upper-high.ensures (right_far c.args.v c.args.k c.if-k-lt32.false)

pub returns : goal.returns
returns c = right-none c.args.v c.args.k c.ranges.v.fits c.if-k-lt64.false
