-- The branch is the definition's test, and 0.5 is read from its bits.
use mathlib.Core.Path.{sym, ap}
use mathlib.Core.Bool.{Bool, cond}
use lib.Ieee.{binary64, add, sub, of_bits}
use Rattle.rounding.specs.Truncation.{half, half_away_of}
use Rattle.rounding.proofs.truncation.half_away.Goals as goal

pub returns-then-q : goal.returns-then-q
unfolding of_bits half_away_of
returns-then-q c = sym (ap (λ (b : Bool). cond b (add binary64 c.args.q half) (sub binary64 c.args.q half)) c.if-q.true)

pub returns-else-q : goal.returns-else-q
unfolding of_bits half_away_of
returns-else-q c = sym (ap (λ (b : Bool). cond b (add binary64 c.args.q half) (sub binary64 c.args.q half)) c.if-q.false)
