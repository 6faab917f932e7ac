-- A float cut toward zero by its fields. A value of a / c is cut to a / c without its fraction; an `f64` is (2 ^ 52 + t) * 2 ^ (E - 1)
-- units of 2 ^ -1074, so that the quotient is a shift of its digits. Assumes nothing.
use mathlib.Core.Path.{◌≡◌, sym, ap, ◌∙◌}
use Prim.Native.Nat.{ℕ, ◌+◌, ◌-◌, ◌*◌, ◌/◌, ◌^◌, ◌≤◌, ◌<◌}
use native.Mathlib.Nat.{le_trans, le_of_eq, le-add_right, lt_of_lt_of_le, lt_of_le_of_lt, mul_assoc, mul-le-mul_right, div-eq_of_lt, mul-div_cancel, le-div_iff_mul-le, div-le_self}
use native.Mathlib.Omega.{arith}
use mathlib.Core.Bool.{Bool}
use lib.Dec.{ltb, lit≤}
use lib.Pow.{pow-add, pow_pos, pow_mono, shl_lt}
use lib.Ieee.{Float, nan, inf, fin, up, down}
use lib.Ieee.Fits.{down_pos}
use lib.Ieee.Exact.{HasValue}
use lib.Ieee.Nearest.{div_same}
use borrow.Author.Tests.{lt-ltb, le-ltb}
use Rattle.std.specs.Prelude.{None}
use Rattle.rounding.specs.Truncation.{cut_to, below64, truncated_of}
use Rattle.rounding.proofs.Fields.{place, field64, digits64, sign64, units64, Read64, digits64-lt, digits_lt, place-lt, units-from-one}

-- ---- a value of a / c
pub cut : (y : Float) (s : Bool) (a c : ℕ) → 0 < c → HasValue y s a c → below64 (ltb (a / c) (2 ^ 64)) (cut_to s (a / c)) ≡ truncated_of y
unfolding truncated_of
cut nan s a c P v = absurd v
cut (inf r) s a c P v = absurd v
cut (fin r m e) s a c P v =
    ap (λ (x : ℕ). below64 (ltb x (2 ^ 64)) (cut_to s x)) (sym (div_same (m * up e) (down e) a c (down_pos e) P v.1))
    ∙ ap (λ (b : Bool). below64 (ltb (m * up e / down e) (2 ^ 64)) (cut_to b (m * up e / down e))) (sym v.0)

-- ---- an `f64` by its fields
module _ (y : Float) (v : Read64 y) where
  abbrev quotient : ℕ
  quotient = units64 (field64 y) (digits64 y) / 2 ^ 1074

  as-quotient : below64 (ltb quotient (2 ^ 64)) (cut_to (sign64 y) quotient) ≡ truncated_of y
  as-quotient = cut y (sign64 y) (units64 (field64 y) (digits64 y)) (2 ^ 1074) (pow_pos 1074) v

  fits-as : (x : ℕ) → quotient ≡ x → x < 2 ^ 64 → cut_to (sign64 y) x ≡ truncated_of y
  fits-as x e h =
      ap (λ (b : Bool). below64 b (cut_to (sign64 y) x)) (sym (lt-ltb x (2 ^ 64) h))
      ∙ ap (λ (q : ℕ). below64 (ltb q (2 ^ 64)) (cut_to (sign64 y) q)) (sym e)
      ∙ as-quotient

  hi : 2 ^ 52 + digits64 y < 2 ^ 53
  hi = digits_lt 1 (digits64 y) (digits64-lt y)

  pub below_one : field64 y < 1023 → cut_to (sign64 y) 0 ≡ truncated_of y
  below_one h =
      let E = field64 y in
      let under = shl_lt 53 (place E) (digits_lt E (digits64 y) (digits64-lt y)) in
      fits-as 0 (div-eq_of_lt (lt_of_lt_of_le under (pow_mono (room (place E) (place-lt E 1022 (lit≤ tt) (less E h)))))) (lit≤ tt)
    where
      less : (E : ℕ) → E < 1023 → E ≤ 1022
      less E u = omega arith

      room : (k : ℕ) → k < 1022 → 53 + k ≤ 1074
      room k u = omega arith

  pub shift-right : 1023 ≤ field64 y → field64 y ≤ 1075 → cut_to (sign64 y) ((2 ^ 52 + digits64 y) / 2 ^ (1075 - field64 y)) ≡ truncated_of y
  shift-right h g =
      let E = field64 y in
      let D = 2 ^ 52 + digits64 y in
      let c = 1075 - E in
      let same : D * 2 ^ (E - 1) * 2 ^ c ≡ D * 2 ^ 1074 = mul_assoc D (2 ^ (E - 1)) (2 ^ c) ∙ ap (λ (x : ℕ). D * x) (sym (pow-add 2 (E - 1) c) ∙ ap (λ (x : ℕ). 2 ^ x) (sum E h g)) in
      fits-as (D / 2 ^ c)
      (ap (λ (a : ℕ). a / 2 ^ 1074) (units-from-one E (digits64 y) (le_trans (lit≤ tt) h)) ∙ div_same (D * 2 ^ (E - 1)) (2 ^ 1074) D (2 ^ c) (pow_pos 1074) (pow_pos c) same)
      (lt_of_le_of_lt (div-le_self D (2 ^ c)) (lt_of_lt_of_le hi (lit≤ tt)))
    where
      sum : (E : ℕ) → 1023 ≤ E → E ≤ 1075 → E - 1 + (1075 - E) ≡ 1074
      sum E u v = omega arith

  pub shifted-lt : field64 y ≤ 1086 → (2 ^ 52 + digits64 y) * 2 ^ (field64 y - 1075) < 2 ^ 64
  shifted-lt h = lt_of_lt_of_le (shl_lt 53 (field64 y - 1075) hi) (pow_mono (room (field64 y) h))
    where
      room : (E : ℕ) → E ≤ 1086 → 53 + (E - 1075) ≤ 64
      room E u = omega arith

  pub shift-left : 1075 < field64 y → field64 y ≤ 1086 → cut_to (sign64 y) ((2 ^ 52 + digits64 y) * 2 ^ (field64 y - 1075)) ≡ truncated_of y
  shift-left h g =
      let E = field64 y in
      let D = 2 ^ 52 + digits64 y in
      let c = E - 1075 in
      let same : D * 2 ^ (E - 1) ≡ D * 2 ^ c * 2 ^ 1074 = ap (λ (x : ℕ). D * x) (ap (λ (x : ℕ). 2 ^ x) (sum E h) ∙ pow-add 2 c 1074) ∙ sym (mul_assoc D (2 ^ c) (2 ^ 1074)) in
      fits-as (D * 2 ^ c)
      (ap (λ (a : ℕ). a / 2 ^ 1074) (units-from-one E (digits64 y) (le_trans (lit≤ tt) h) ∙ same) ∙ mul-div_cancel (D * 2 ^ c) (pow_pos 1074))
      (shifted-lt g)
    where
      sum : (E : ℕ) → 1075 < E → E - 1 ≡ E - 1075 + 1074
      sum E u = omega arith

  pub beyond : 1086 < field64 y → None ≡ truncated_of y
  beyond h = ap (λ (b : Bool). below64 b (cut_to (sign64 y) quotient)) (sym (le-ltb quotient (2 ^ 64) large)) ∙ as-quotient
    where
      room : (E : ℕ) → 1086 < E → 1138 ≤ 52 + (E - 1)
      room E u = omega arith

      large : 2 ^ 64 ≤ quotient
      large =
          let E = field64 y in
          let t = digits64 y in
          (le-div_iff_mul-le (pow_pos 1074)).1
          (le_trans (pow_mono (room E h))
          (le_trans (le_of_eq (pow-add 2 52 (E - 1)))
          (le_trans (mul-le-mul_right (2 ^ (E - 1)) (le-add_right (2 ^ 52) t)) (le_of_eq (sym (units-from-one E t (le_trans (lit≤ tt) h)))))))
