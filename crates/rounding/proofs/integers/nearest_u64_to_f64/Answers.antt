-- By the law `rounds_left` of `proofs/WholeNumbers.antt` at this format.
use mathlib.Core.Path.{refl, sym, ap, ◌∙◌}
use Prim.Native.Nat.{ℕ}
use lib.IntN.{pos}
use lib.Ieee.{binary64, of_int}
use Rattle.rounding.proofs.Fields.{no_nan}
use Rattle.rounding.proofs.WholeNumbers.{of_zero, rounds_left}
use Rattle.rounding.proofs.integers.nearest_u64_to_f64.Goals as goal

pub returns-then-n-eq0 : goal.returns-then-n-eq0
returns-then-n-eq0 c = of_zero binary64 ∙ ap (λ (n : ℕ). of_int binary64 (pos n)) (sym c.if-n-eq0.true)

pub float_from_bits-result : goal.float_from_bits-result
float_from_bits-result c = no_nan binary64 _ (rounds_left binary64 11 _ refl c.if-n-eq0.false c.ranges.n.fits c.left.ensures c.closest_by-q.ensures).small

pub returns : goal.returns
returns c = (rounds_left binary64 11 _ refl c.if-n-eq0.false c.ranges.n.fits c.left.ensures c.closest_by-q.ensures).right
