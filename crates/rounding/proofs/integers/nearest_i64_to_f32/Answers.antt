-- The float nearest to the magnitude, negated below zero, by `proofs/Signs.antt`.
use mathlib.Core.Path.{◌≡◌, ap, ◌∙◌}
use Prim.Native.Nat.{ℕ}
use lib.IntN.{pos, nat_abs}
use lib.Ieee.{binary32, of_int}
use Rattle.rounding.proofs.Signs.{back, negated}
use Rattle.rounding.proofs.integers.nearest_i64_to_f32.Goals as goal

pub returns-else-n-ge0 : goal.returns-else-n-ge0
returns-else-n-ge0 c =
    let near : c.nearest_u64_to_f32-single.result ≡ of_int binary32 (pos (nat_abs (back c.args.n))) =
    c.nearest_u64_to_f32-single.ensures ∙ ap (λ (m : ℕ). of_int binary32 (pos m)) c.magnitude.ensures in
    negated binary32 c.args.n c.ranges.n c.nearest_u64_to_f32-single.result (near) c.if-n-ge0.false
