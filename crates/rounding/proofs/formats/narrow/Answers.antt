-- The sign's bit and the pattern make the rounded value, by `proofs/FewerDigits.antt`, and a
-- NaN is made of 0 / 0.
use mathlib.Core.Path.{◌≡◌, refl, sym, ap, ◌∙◌, subst}
use Prim.Native.Nat.{ℕ, ◌+◌, ◌*◌, ◌/◌, ◌%◌, ◌^◌, ◌≤◌, ◌<◌}
use native.Mathlib.Omega.{arith}
use mathlib.Core.Bool.{true}
use lib.Ieee.{Float, nan, binary32, binary64, fits, of_bits, to_bits}
use lib.Ieee.Bits.{to_bits-lt}
use lib.Ieee.Compare.{differs_from_itself}
use denote.Floats.{passes}
use Rattle.rounding.specs.Narrowing.{narrow_of, pattern_of}
use Rattle.rounding.proofs.Fields.{field64, digits64, digits64-lt, is_number, no-nan-at}
use Rattle.rounding.proofs.Nans.{nan32}
use Rattle.rounding.proofs.FewerDigits.{any, pattern-le}
use Rattle.rounding.proofs.formats.narrow.Goals as goal

of_nan : nan ≡ narrow_of nan
unfolding narrow_of
of_nan = refl

-- how large the pattern and the bits are
least : (x : Float) {r : ℕ} → fits binary64 x ≡ true → r ≡ pattern_of (field64 x) (digits64 x) → (r ≤ 255 * 2 ^ 23) × (to_bits binary64 x < 2 ^ 64)
least x fit is = (subst (λ (r : ℕ). r ≤ 255 * 2 ^ 23) (sym is) (pattern-le (field64 x) (digits64 x) (digits64-lt x)), to_bits-lt binary64 x (passes _ fit))

under : (b r : ℕ) → r ≤ 255 * 2 ^ 23 → (b / 2 ^ 63 * 2 ^ 31 + r) % 2 ^ 31 ≤ 255 * 2 ^ 23
under b r h = omega arith

whole : (b r : ℕ) → b < 2 ^ 64 → r ≤ 255 * 2 ^ 23 → b / 2 ^ 63 * 2 ^ 31 + r < 2 ^ 32
whole b r h k = omega arith

pub returns-then-x : goal.returns-then-x
returns-then-x c = nan32 ∙ of_nan ∙ ap narrow_of (sym (differs_from_itself _ (passes _ c.if-x.true)))

pub float_to_bits-b : goal.float_to_bits-b
float_to_bits-b c = is_number c.args.x c.if-x.false

pub overflow_mul-result : goal.overflow_mul-result
overflow_mul-result c = record { fits = omega (arith, (least _ c.well_formed.0.1 c.pattern-r.ensures).1) }

pub overflow_add-result : goal.overflow_add-result
overflow_add-result c =
    let size = least _ c.well_formed.0.1 c.pattern-r.ensures in
    record { fits = omega (arith, whole _ _ size.1 size.0) }

pub overflow_cast-result : goal.overflow_cast-result
overflow_cast-result c =
    let size = least _ c.well_formed.0.1 c.pattern-r.ensures in
    record { fits = whole _ _ size.1 size.0 }

pub float_from_bits-result : goal.float_from_bits-result
float_from_bits-result c = no-nan-at binary32 _ (under _ _ (least _ c.well_formed.0.1 c.pattern-r.ensures).0)

pub returns : goal.returns
returns c =
    ap (λ (r : ℕ). of_bits binary32 (to_bits binary64 c.args.x / 2 ^ 63 * 2 ^ 31 + r)) c.pattern-r.ensures
    ∙ any _ (passes _ c.well_formed.0.1) (is_number _ c.if-x.false)
