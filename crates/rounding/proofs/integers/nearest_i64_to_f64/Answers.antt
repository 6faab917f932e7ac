-- The float nearest to the magnitude, negated below zero, by `proofs/Signs.antt`.
use mathlib.Core.Path.{◌≡◌, ap, ◌∙◌}
use Prim.Native.Nat.{ℕ}
use lib.IntN.{pos, nat_abs}
use lib.Ieee.{binary64, of_int}
use Rattle.rounding.proofs.Signs.{back, negated}
use Rattle.rounding.proofs.integers.nearest_i64_to_f64.Goals as goal

pub returns-else-n-ge0 : goal.returns-else-n-ge0
returns-else-n-ge0 c =
    let near : c.nearest_u64_to_f64-double.result ≡ of_int binary64 (pos (nat_abs (back c.args.n))) =
    c.nearest_u64_to_f64-double.ensures ∙ ap (λ (m : ℕ). of_int binary64 (pos m)) c.magnitude.ensures in
    negated binary64 c.args.n c.ranges.n c.nearest_u64_to_f64-double.result (near) c.if-n-ge0.false
