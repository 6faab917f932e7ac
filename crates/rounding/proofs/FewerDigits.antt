-- An `f64` rounded to an `f32` by its fields, at every value. It is D * 2 ^ k units of 2 ^ -1074, and k says which it becomes: zero,
-- subnormal, normal or infinite. Each is a case of `proofs/Packing.antt`. Assumes nothing.
use mathlib.Core.Path.{◌≡◌, refl, sym, ap, ◌∙◌}
use Prim.Native.Nat.{ℕ, ◌+◌, ◌-◌, ◌*◌, ◌/◌, ◌^◌, ◌≤◌, ◌<◌}
use native.Mathlib.Nat.{le_trans, le_of_eq, le-add_right, lt_of_lt_of_le, mul_assoc, mul-le-mul_right}
use native.Mathlib.Omega.{arith}
use mathlib.Core.Bool.{Bool, true, false, not, cond}
use lib.Dec.{T, leb, ltb, lit≤}
use lib.Pow.{pow-add, pow_pos, pow_mono, shl_lt}
use lib.Ieee.{Float, nan, inf, fin, binary32, binary64, up, down, round, fits, is_nan, of_bits, to_bits}
use lib.Ieee.Fits.{down_pos}
use lib.Ieee.Exact.{HasValue}
use lib.Ieee.Bits.{to_bits-lt}
use lib.Ieee.Nearest.{closest}
use lib.Ieee.Scale.{round_same}
use borrow.Author.Tests.{lt-ltb, le-ltb, ltb-true, ltb-false, leb-true, leb-false}
use Rattle.rounding.specs.Narrowing.{narrow_of, pattern_of}
use Rattle.rounding.proofs.HalfEven.{closest-none, closest-le}
use Rattle.rounding.proofs.Packing.{Makes, by-bits-to-top, over, by-bits-small}
use Rattle.rounding.proofs.Fields.{lead, place, units64, field64, digits64, sign64, fields, digits64-lt, digits_lt, place-lt, units-from-one}

-- ---- the four ranges of the exponent's field, and what `pattern_of` is in each
pub data Range : ℕ → Type 0 where
  tiny : {E : ℕ} → E < 873 → Range E
  subnormal : {E : ℕ} → 873 ≤ E → E < 897 → Range E
  normal : {E : ℕ} → 897 ≤ E → E < 1151 → Range E
  huge : {E : ℕ} → 1151 ≤ E → Range E

range : (E : ℕ) → Range E
range E = go (ltb E 873) (ltb E 897) (ltb E 1151) refl refl refl
  where
    go : (a b c : Bool) → ltb E 873 ≡ a → ltb E 897 ≡ b → ltb E 1151 ≡ c → Range E
    go true b c e f g = tiny (ltb-true E 873 e)
    go false true c e f g = subnormal (ltb-false E 873 e) (ltb-true E 897 f)
    go false false true e f g = normal (ltb-false E 897 f) (ltb-true E 1151 g)
    go false false false e f g = huge (ltb-false E 1151 g)

module _ (E t : ℕ) where
  pub is-tiny : E < 873 → pattern_of E t ≡ 0
  unfolding pattern_of
  is-tiny h = simp (lt-ltb E 873 h)

  pub is_subnormal : 873 ≤ E → E < 897 → pattern_of E t ≡ closest (2 ^ 52 + t) (2 ^ (926 - E))
  unfolding pattern_of
  is_subnormal h g = simp (le-ltb E 873 h, lt-ltb E 897 g)

  pub is_normal : 897 ≤ E → E < 1151 → pattern_of E t ≡ (E - 897) * 2 ^ 23 + closest (2 ^ 52 + t) (2 ^ 29)
  unfolding pattern_of
  is_normal h g = simp (le-ltb E 873 (le_trans (lit≤ tt) h), le-ltb E 897 h, lt-ltb E 1151 g)

  pub is-huge : 1151 ≤ E → pattern_of E t ≡ 255 * 2 ^ 23
  unfolding pattern_of
  is-huge h = simp (le-ltb E 873 (le_trans (lit≤ tt) h), le-ltb E 897 (le_trans (lit≤ tt) h), le-ltb E 1151 h)

-- the pattern is the infinity's at most
pub pattern-le : (E t : ℕ) → t < 2 ^ 52 → pattern_of E t ≤ 255 * 2 ^ 23
pattern-le E t tl = go (range E)
  where
    hi : 2 ^ 52 + t < 2 ^ 53
    hi = digits_lt 1 t tl

    below-24 : (E q : ℕ) → E < 1151 → q ≤ 2 ^ 24 → (E - 897) * 2 ^ 23 + q ≤ 255 * 2 ^ 23
    below-24 E q h k = omega arith

    room : (E : ℕ) → E < 897 → 53 ≤ 23 + (926 - E)
    room E h = omega arith

    go : Range E → pattern_of E t ≤ 255 * 2 ^ 23
    go (tiny h) = le_trans (le_of_eq (is-tiny E t h)) (lit≤ tt)
    go (subnormal h g) =
        le_trans (le_of_eq (is_subnormal E t h g))
        (le_trans (closest-le (2 ^ 52 + t) 23 (926 - E) (lt_of_lt_of_le hi (le_trans (pow_mono (room E g)) (le_of_eq (pow-add 2 23 (926 - E)))))) (lit≤ tt))
    go (normal h g) = le_trans (le_of_eq (is_normal E t h g)) (below-24 E (closest (2 ^ 52 + t) (2 ^ 29)) g (closest-le (2 ^ 52 + t) 24 29 hi))
    go (huge h) = le_of_eq (is-huge E t h)

-- ---- D * 2 ^ k units, by how large k is: the sign's bit and r are the bits of the nearest `f32`
abbrev Packs : Bool → ℕ → ℕ → ℕ → Type 0
Packs s r D k = Makes binary32 s r (D * 2 ^ k) (2 ^ 1074)

gather : (D a b c n : ℕ) → a + b + c ≡ n → D * 2 ^ a * 2 ^ b * 2 ^ c ≡ D * 2 ^ n
gather D a b c n e =
    ap (λ (x : ℕ). x * 2 ^ c) (mul_assoc D (2 ^ a) (2 ^ b) ∙ ap (λ (x : ℕ). D * x) (sym (pow-add 2 a b)))
    ∙ mul_assoc D (2 ^ (a + b)) (2 ^ c)
    ∙ ap (λ (x : ℕ). D * x) (sym (pow-add 2 (a + b) c) ∙ ap (λ (x : ℕ). 2 ^ x) e)

module _ (s : Bool) (D k : ℕ) (hi : D < 2 ^ 53) where
  to-zero : k < 872 → Packs s 0 D k
  to-zero h =
      let m = D * 2 ^ k in
      let l : m < 2 ^ 924 = lt_of_lt_of_le (shl_lt 53 k hi) (pow_mono (room k h)) in
      ap (λ (r : ℕ). of_bits binary32 (cond s (2 ^ 31) 0 + r)) (sym (closest-none m (2 ^ 924) l))
      ∙ by-bits-small binary32 s m (2 ^ 1074) m 925 (pow_pos 1074) (mul_assoc m (2 ^ 149) (2 ^ 925)) (lt_of_lt_of_le l (lit≤ tt))
    where
      room : (k : ℕ) → k < 872 → 53 + k ≤ 924
      room k u = omega arith

  to-subnormal : (c : ℕ) → k + 149 + c ≡ 1074 → 30 ≤ c → Packs s (closest D (2 ^ c)) D k
  to-subnormal c e h =
      by-bits-small binary32 s (D * 2 ^ k) (2 ^ 1074) D c (pow_pos 1074) (gather D k 149 c 1074 e)
      (lt_of_lt_of_le hi (le_trans (pow_mono (room c h)) (le_of_eq (pow-add 2 23 c))))
    where
      room : (c : ℕ) → 30 ≤ c → 53 ≤ 23 + c
      room c u = omega arith

  to-normal : (x : ℕ) → 2 ^ 52 ≤ D → k + 149 + 29 ≡ x + 1074 → x + 24 ≤ 277 → Packs s (x * 2 ^ 23 + closest D (2 ^ 29)) D k
  to-normal x lo e room =
      let same = gather D k 149 29 (x + 1074) e ∙ ap (λ (y : ℕ). D * y) (pow-add 2 x 1074) ∙ sym (mul_assoc D (2 ^ x) (2 ^ 1074)) in
      by-bits-to-top binary32 s (D * 2 ^ k) (2 ^ 1074) D 29 x (record { above = pow_pos 1074; same = same; lo = lo; hi = hi }) room

  to-infinity : 2 ^ 52 ≤ D → 1150 ≤ k → Packs s (255 * 2 ^ 23) D k
  to-infinity lo h =
      over binary32 s (D * 2 ^ k) (2 ^ 1074) (pow_pos 1074)
      (le_trans (pow_mono (room k h))
      (le_trans (le_of_eq (pow-add 2 (52 + k) 149 ∙ ap (λ (x : ℕ). x * 2 ^ 149) (pow-add 2 52 k)))
      (mul-le-mul_right (2 ^ 149) (mul-le-mul_right (2 ^ k) lo))))
    where
      room : (k : ℕ) → 1150 ≤ k → 1351 ≤ 52 + k + 149
      room k u = omega arith

-- ---- by the fields
module _ (s : Bool) (E t : ℕ) (tl : t < 2 ^ 52) where
  lo : 2 ^ 52 ≤ 2 ^ 52 + t
  lo = le-add_right (2 ^ 52) t

  hi : 2 ^ 52 + t < 2 ^ 53
  hi = digits_lt 1 t tl

  -- from a field of 1 up, once the pattern is known to be r
  known : (r : ℕ) → pattern_of E t ≡ r → 0 < E → Packs s r (2 ^ 52 + t) (E - 1) → Makes binary32 s (pattern_of E t) (units64 E t) (2 ^ 1074)
  known r e P h = ap (λ (x : ℕ). of_bits binary32 (cond s (2 ^ 31) 0 + x)) e ∙ h ∙ ap (λ (x : ℕ). round binary32 s x (2 ^ 1074)) (sym (units-from-one E t P))

  by-range : Range E → Makes binary32 s (pattern_of E t) (units64 E t) (2 ^ 1074)
  by-range (tiny h) =
      ap (λ (x : ℕ). of_bits binary32 (cond s (2 ^ 31) 0 + x)) (is-tiny E t h)
      ∙ to-zero s (lead binary64 E t) (place E) (digits_lt E t tl) (place-lt E 872 (lit≤ tt) (below E h))
    where
      below : (E : ℕ) → E < 873 → E ≤ 872
      below E u = omega arith
  by-range (subnormal h g) =
      known (closest (2 ^ 52 + t) (2 ^ (926 - E))) (is_subnormal E t h g) (le_trans (lit≤ tt) h)
      (to-subnormal s (2 ^ 52 + t) (E - 1) hi (926 - E) (sum E h g) (many E g))
    where
      sum : (E : ℕ) → 873 ≤ E → E < 897 → E - 1 + 149 + (926 - E) ≡ 1074
      sum E u v = omega arith

      many : (E : ℕ) → E < 897 → 30 ≤ 926 - E
      many E u = omega arith
  by-range (normal h g) =
      known ((E - 897) * 2 ^ 23 + closest (2 ^ 52 + t) (2 ^ 29)) (is_normal E t h g) (le_trans (lit≤ tt) h)
      (to-normal s (2 ^ 52 + t) (E - 1) hi (E - 897) lo (sum E h) (most E g))
    where
      sum : (E : ℕ) → 897 ≤ E → E - 1 + 149 + 29 ≡ E - 897 + 1074
      sum E u = omega arith

      most : (E : ℕ) → E < 1151 → E - 897 + 24 ≤ 277
      most E u = omega arith
  by-range (huge h) = known (255 * 2 ^ 23) (is-huge E t h) (le_trans (lit≤ tt) h) (to-infinity s (2 ^ 52 + t) (E - 1) hi lo (less E h))
    where
      less : (E : ℕ) → 1151 ≤ E → 1150 ≤ E - 1
      less E u = omega arith

-- ---- the whole
-- a value of a / c, however it is written, is narrowed to a / c rounded
pub narrowed : (x : Float) (s : Bool) (a c : ℕ) → 0 < c → HasValue x s a c → round binary32 s a c ≡ narrow_of x
unfolding narrow_of
narrowed nan s a c P v = absurd v
narrowed (inf r) s a c P v = absurd v
narrowed (fin r m e) s a c P v =
    round_same binary32 s a c (m * up e) (down e) P (down_pos e) (sym v.1) ∙ ap (λ (b : Bool). round binary32 b (m * up e) (down e)) (sym v.0)

sign_bit : (b : ℕ) → b < 2 ^ 64 → b / 2 ^ 63 * 2 ^ 31 ≡ cond (leb (2 ^ 63) b) (2 ^ 31) 0
sign_bit b h = go (leb (2 ^ 63) b) refl
  where
    yes : (b : ℕ) → b < 2 ^ 64 → 2 ^ 63 ≤ b → b / 2 ^ 63 * 2 ^ 31 ≡ 2 ^ 31
    yes b u l = omega arith

    nought : (b : ℕ) → b < 2 ^ 63 → b / 2 ^ 63 * 2 ^ 31 ≡ 0
    nought b l = omega arith

    go : (t : Bool) → leb (2 ^ 63) b ≡ t → b / 2 ^ 63 * 2 ^ 31 ≡ cond t (2 ^ 31) 0
    go true e = yes b h (leb-true (2 ^ 63) b e)
    go false e = nought b (leb-false (2 ^ 63) b e)

pub any : (x : Float) → T (fits binary64 x) → T (not (is_nan x))
    → of_bits binary32 (to_bits binary64 x / 2 ^ 63 * 2 ^ 31 + pattern_of (field64 x) (digits64 x)) ≡ narrow_of x
unfolding is_nan to_bits pattern_of narrow_of of_bits
any nan h n = absurd n
any (inf true) h n = refl
any (inf false) h n = refl
any (fin s m e) h n =
    let x = fin s m e in
    let b = to_bits binary64 x in
    ap (λ (y : ℕ). of_bits binary32 (y + pattern_of (field64 x) (digits64 x))) (sign_bit b (to_bits-lt binary64 x h))
    ∙ by-range (sign64 x) (field64 x) (digits64 x) (digits64-lt x) (range (field64 x))
    ∙ narrowed x (sign64 x) (units64 (field64 x) (digits64 x)) (2 ^ 1074) (pow_pos 1074) (fields x h tt)
