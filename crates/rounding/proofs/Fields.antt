-- What the bits of a value say of it, either format: that it is no NaN, its sign, and its size in units of the format's smallest
-- value. Then an `f64`'s fields, as the code takes them out of the bits. Assumes nothing.
use mathlib.Core.Path.{◌≡◌, sym, ap, ◌∙◌, subst}
use Prim.Native.Nat.{ℕ, zero, suc, ◌+◌, ◌-◌, ◌*◌, ◌/◌, ◌%◌, ◌^◌, ◌≤◌, ◌<◌}
use native.Mathlib.Nat.{le_trans, lt_irrefl, lt_of_lt_of_le, mod-le, mod-lt, not-le_of_lt}
use native.Mathlib.Omega.{arith}
use mathlib.Core.Bool.{Bool, true, false, not, cond, true≢false}
use lib.Dec.{T, leb, ltb, eqb, ltb→lt, not_T, lit≤}
use lib.Pow.{field, pow_pos}
use lib.Ieee.{Float, nan, inf, fin, Format, binary64, prec, low, hid, ones, top, odd, fits, ne, is_nan, nan_bits, of_fields, of_bits, to_bits}
use lib.Ieee.Bits.{of_bits-to_bits, nan_bits_above}
use lib.Ieee.Compare.{nan_differs}
use lib.Ieee.Exact.{HasValue, odd_sign}
use lib.Ieee.Scale.{finite}

-- ---- no NaN: a value that equals itself, and a pattern up to the infinity's
pub is_number : (x : Float) → ne x x ≡ false → T (not (is_nan x))
unfolding is_nan
is_number nan e = absurd (true≢false (sym nan_differs ∙ e))
is_number (inf s) e = tt
is_number (fin s m d) e = tt

pub no-nan-at : (f : Format) (b : ℕ) → b % top f ≤ ones f * hid f → T (not (nan_bits f b))
no-nan-at f b h =
    subst (λ (t : Bool). T (not t)) (sym (nan_bits_above f b))
    (not_T (ltb (ones f * hid f) (b % top f)) (λ (t : T (ltb (ones f * hid f) (b % top f))). not-le_of_lt (ltb→lt (ones f * hid f) (b % top f) t) h))

pub no_nan : (f : Format) (b : ℕ) → b ≤ ones f * hid f → T (not (nan_bits f b))
no_nan f b h = no-nan-at f b (le_trans (mod-le b (top f)) h)

-- ---- the digits t with the leading one, which a field of 0 has not, and how far they stand above the smallest value
abbrev pub lead : Format → ℕ → ℕ → ℕ
lead f zero t = t
lead f (suc x) t = hid f + t

abbrev pub place : ℕ → ℕ
place zero = 0
place (suc x) = x

-- ---- the value, from the fields
no_number : (b s : Bool) → T (finite (cond b (inf s) nan)) → ⊥
no_number true s h = h
no_number false s h = h

fields_value : (f : Format) (s : Bool) (x t : ℕ) → T (finite (of_fields f s x t)) → HasValue (of_fields f s x t) s (lead f x t * 2 ^ place x) (2 ^ low f)
unfolding of_fields
fields_value f s zero t h = odd_sign (prec f) s t 0 (low f)
fields_value f s (suc x) t h = go (eqb (suc x) (ones f)) h
  where
    by : Bool → Float
    by b = cond b (cond (eqb t 0) (inf s) nan) (odd (prec f) s (hid f + t) x (low f))

    go : (b : Bool) → T (finite (by b)) → HasValue (by b) s ((hid f + t) * 2 ^ x) (2 ^ low f)
    go true k = absurd (no_number (eqb t 0) s k)
    go false k = odd_sign (prec f) s (hid f + t) x (low f)

bits-value : (f : Format) (b : ℕ) → T (finite (of_bits f b))
    → HasValue (of_bits f b) (leb (top f) b) (lead f (b % top f / hid f) (b % hid f) * 2 ^ place (b % top f / hid f)) (2 ^ low f)
unfolding of_bits
bits-value f b h = fields_value f (leb (top f) b) (b % top f / hid f) (b % hid f) h

-- ---- an `f64`
abbrev pub field64 : Float → ℕ
field64 x = to_bits binary64 x / 2 ^ 52 % 2 ^ 11

abbrev pub digits64 : Float → ℕ
digits64 x = to_bits binary64 x % 2 ^ 52

abbrev pub sign64 : Float → Bool
sign64 x = leb (2 ^ 63) (to_bits binary64 x)

-- what the field E and the digits t stand for, in units of 2 ^ -1074
abbrev pub units64 : ℕ → ℕ → ℕ
units64 E t = lead binary64 E t * 2 ^ place E

abbrev pub Read64 : Float → Type 0
Read64 x = HasValue x (sign64 x) (units64 (field64 x) (digits64 x)) (2 ^ 1074)

pub fields : (x : Float) → T (fits binary64 x) → T (finite x) → Read64 x
fields x h n =
    let b = to_bits binary64 x in
    let e = of_bits-to_bits binary64 x h in
    subst (λ (y : ℕ). HasValue x (sign64 x) (units64 y (digits64 x)) (2 ^ 1074)) (field b 11 52)
    (subst (λ (w : Float). HasValue w (sign64 x) (units64 (b % 2 ^ 63 / 2 ^ 52) (digits64 x)) (2 ^ 1074)) e
    (bits-value binary64 b (subst (λ (w : Float). T (finite w)) (sym e) n)))

pub digits64-lt : (x : Float) → digits64 x < 2 ^ 52
digits64-lt x = mod-lt (to_bits binary64 x) (pow_pos 52)

pub digits_lt : (E t : ℕ) → t < 2 ^ 52 → lead binary64 E t < 2 ^ 53
digits_lt zero t h = lt_of_lt_of_le h (lit≤ tt)
digits_lt (suc k) t h = both t h
  where
    both : (t : ℕ) → t < 2 ^ 52 → 2 ^ 52 + t < 2 ^ 53
    both t u = omega arith

pub place-lt : (E k : ℕ) → 0 < k → E ≤ k → place E < k
place-lt zero k P h = P
place-lt (suc x) k P h = h

-- from a field of 1 up the leading digit is there
pub units-from-one : (E t : ℕ) → 0 < E → units64 E t ≡ (2 ^ 52 + t) * 2 ^ (E - 1)
units-from-one zero t P = absurd (lt_irrefl 0 P)
units-from-one (suc x) t P = ap (λ (k : ℕ). (2 ^ 52 + t) * 2 ^ k) (down x)
  where
    down : (x : ℕ) → x ≡ suc x - 1
    down x = omega arith
