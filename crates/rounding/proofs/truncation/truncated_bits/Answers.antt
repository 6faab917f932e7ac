-- Each way out is a shift of the digits that the exponent's field picks, by
-- `proofs/WholePart.antt`. A field above 1086 is an infinity's or that of 2 ^ 64 or more.
use mathlib.Core.Path.{◌≡◌, refl, sym, ap, ◌∙◌}
use Prim.Native.Nat.{ℕ, ◌≤◌, ◌<◌}
use native.Mathlib.Nat.{le_of_lt, le_trans, mod-eq_of_lt}
use native.Mathlib.Omega.{arith}
use mathlib.Core.Bool.{Bool, true, false, true≢false}
use lib.Dec.{T, lit≤}
use lib.Ieee.{Float, nan, inf, fin, binary64, fits, ne, to_bits}
use lib.Ieee.Compare.{differs_from_itself, nan_differs}
use lib.Ieee.Scale.{finite}
use denote.Floats.{passes}
use Rattle.std.specs.Prelude.{None}
use Rattle.rounding.specs.Truncation.{cut_to, truncated_of}
use Rattle.rounding.proofs.Fields.{field64, sign64, fields, is_number}
use Rattle.rounding.proofs.WholePart.{below_one, shift-right, shift-left, shifted-lt, beyond}
use Rattle.rounding.proofs.truncation.truncated_bits.Goals as goal

-- a field of up to 1086 is that of a finite value
infinite : (s : Bool) → field64 (inf s) ≡ 2047
unfolding to_bits
infinite true = refl
infinite false = refl

finite-by : (y : Float) → ne y y ≡ false → field64 y ≤ 1086 → T (finite y)
finite-by nan e h = absurd (true≢false (sym nan_differs ∙ e))
finite-by (inf s) e h = absurd (none (field64 (inf s)) (infinite s) h)
  where
    none : (x : ℕ) → x ≡ 2047 → x ≤ 1086 → ⊥
    none x p q = omega arith
finite-by (fin s m d) e h = tt

last : (y : Float) → T (fits binary64 y) → ne y y ≡ false → 1086 < field64 y → None ≡ truncated_of y
unfolding truncated_of
last nan f e h = absurd (true≢false (sym nan_differs ∙ e))
last (inf s) f e h = refl
last (fin s m d) f e h = beyond (fin s m d) (fields (fin s m d) f tt) h

of_nan : None ≡ truncated_of nan
unfolding truncated_of
of_nan = refl

pub returns-then-y : goal.returns-then-y
returns-then-y c = of_nan ∙ ap truncated_of (sym (differs_from_itself c.args.y (passes (ne c.args.y c.args.y) c.if-y.true)))

pub float_to_bits-b : goal.float_to_bits-b
float_to_bits-b c = is_number c.args.y c.if-y.false

pub returns-then-e-lt-AT_ONE : goal.returns-then-e-lt-AT_ONE
returns-then-e-lt-AT_ONE c =
    below_one c.args.y ((let held : T (fits binary64 c.args.y) =
    passes (fits binary64 c.args.y) c.well_formed.0.1 in
    fields c.args.y (held) (finite-by c.args.y c.if-y.false (le_trans (le_of_lt c.if-e-lt-AT_ONE.true) (lit≤ tt))))) c.if-e-lt-AT_ONE.true

pub returns-then-e-le-AT_WHOLE : goal.returns-then-e-le-AT_WHOLE
returns-then-e-le-AT_WHOLE c =
    ap (λ (x : ℕ). cut_to (sign64 c.args.y) x) c.right.ensures
    ∙ shift-right c.args.y ((let held : T (fits binary64 c.args.y) =
    passes (fits binary64 c.args.y) c.well_formed.0.1 in
    fields c.args.y (held) (finite-by c.args.y c.if-y.false (le_trans c.if-e-le-AT_WHOLE.true (lit≤ tt))))) c.if-e-lt-AT_ONE.false c.if-e-le-AT_WHOLE.true

pub returns-then-e-le-LAST_FITTING : goal.returns-then-e-le-LAST_FITTING
returns-then-e-le-LAST_FITTING c =
    let v = (let held : T (fits binary64 c.args.y) =
    passes (fits binary64 c.args.y) c.well_formed.0.1 in
    fields c.args.y (held) (finite-by c.args.y c.if-y.false c.if-e-le-LAST_FITTING.true)) in
    ap (λ (x : ℕ). cut_to (sign64 c.args.y) x) (c.left.ensures ∙ mod-eq_of_lt (shifted-lt c.args.y v c.if-e-le-LAST_FITTING.true)) ∙ shift-left c.args.y v c.if-e-le-AT_WHOLE.false c.if-e-le-LAST_FITTING.true

pub returns : goal.returns
returns c =
    let held : T (fits binary64 c.args.y) =
    passes (fits binary64 c.args.y) c.well_formed.0.1 in
    last c.args.y (held) c.if-y.false c.if-e-le-LAST_FITTING.false
