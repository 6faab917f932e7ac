-- A rounded fraction by its bit pattern, either format: the pattern without the sign is the number of dropped digits, times the
-- weight of the exponent's field, plus the kept number. A kept number of 2 ^ prec, where rounding carried into a new digit, needs no
-- case of its own: the sum carries into the exponent's field, up to the infinity's pattern. Assumes nothing.
use mathlib.Core.Path.{◌≡◌, refl, sym, ap, ◌∙◌, subst}
use mathlib.Core.Logic.{inl, inr}
use Prim.Native.Nat.{ℕ, suc, ◌+◌, ◌-◌, ◌*◌, ◌/◌, ◌%◌, ◌^◌, ◌≤◌, ◌<◌, compare}
use native.Mathlib.Nat.{le_trans, le_of_eq, le_antisymm, le_of_suc-le-suc, lt_of_lt_of_le, lt_of_le_of_lt, lt_of_not-le, not-le_of_lt, eq-or-lt_of_le, mul-one, mul_comm, mul_assoc, mul_left_comm, mul-le-mul_right, mul-lt-mul_of_pos_right, le_of_mul-le-mul_right, lt_of_mul-lt-mul_right, mul-pos, le-div_iff_mul-le, div-lt_iff_lt-mul, mul-div_cancel, pow-succ', add_assoc, suc-mul, add_comm, add-mul, div-div-eq-div-mul, div-one, zero-mul, add-zero}
use native.Mathlib.Omega.{arith}
use mathlib.Core.Bool.{Bool, true, false, cond}
use lib.Dec.{ltb}
use borrow.Author.Tests.{le-ltb, ltb-true, ltb-false}
use lib.Pow.{pow-add, pow_pos, pow_mono, pow-lt}
use lib.Ieee.{Float, nan, inf, fin, Format, prec, emax, low, down, size, odd, units, round, hid, ones, top, of_bits, to_bits}
use lib.Ieee.Digits.{size-lt, size-le, size_reaches}
use lib.Ieee.Fits.{reach as reaches, inf-fits, round_is, round-fits, down_pos, two, two-le_pos}
use lib.Ieee.Exact.{HasValue, units_val}
use lib.Ieee.Nearest.{closest, closest_same, div_same, nearest-ge}
use lib.Ieee.Bits.{of_bits-to_bits}
use Rattle.rounding.proofs.HalfEven.{closest-ge, closest-le}

-- ---- a number's digits
size-gt : (n j : ℕ) → 2 ^ j ≤ n → j < size n
size-gt n j h = lt_of_not-le (λ (g : size n ≤ j). not-le_of_lt (lt_of_lt_of_le (size-lt n) (pow_mono g)) h)

pub size_is : (n j : ℕ) → 2 ^ j ≤ n → n < 2 ^ suc j → size n ≡ suc j
size_is n j lo hi = le_antisymm (size-le n (suc j) hi) (size-gt n j lo)

-- ---- the bits of a value, by its size n in units of the format's smallest value
to_bits-of : (f : Format) (s : Bool) (v : Float) (n : ℕ) → HasValue v s n (2 ^ low f)
    → to_bits f v ≡ cond s (top f) 0 + (size n - prec f) * hid f + n / 2 ^ (size n - prec f)
unfolding to_bits
to_bits-of f s nan n h = absurd h
to_bits-of f s (inf t) n h = absurd h
to_bits-of f s (fin t m e) n h =
    ap (λ (x : ℕ). cond t (top f) 0 + (size x - prec f) * hid f + x / 2 ^ (size x - prec f)) (ap (λ (x : ℕ). x / down e) h.1 ∙ mul-div_cancel n (down_pos e))
    ∙ ap (λ (b : Bool). cond b (top f) 0 + (size n - prec f) * hid f + n / 2 ^ (size n - prec f)) h.0

-- ---- q * 2 ^ x units, for a q from 2 ^ (p - 1) up to 2 ^ p
field-of : (p x z : ℕ) → 0 < p → z ≡ suc (p - 1 + x) → z - p ≡ x
field-of p x z P e = omega arith

field-up : (p x z : ℕ) → 0 < p → z ≡ suc (p + x) → z - p ≡ suc x
field-up p x z P e = omega arith

one_more : (p x : ℕ) → 0 < p → p + x ≡ suc (p - 1 + x)
one_more p x P = omega arith

pub twice : (p : ℕ) → 0 < p → 2 ^ p ≡ 2 * 2 ^ (p - 1)
twice p P = ap (λ (x : ℕ). 2 ^ x) (pred p P) ∙ pow-succ' 2 (p - 1)
  where
    pred : (p : ℕ) → 0 < p → p ≡ suc (p - 1)
    pred p h = omega arith

carried : (a h w : ℕ) → w ≡ 2 * h → a + h + h ≡ a + w
carried a h w e = omega arith

packed : (p q x : ℕ) → 0 < p → 2 ^ (p - 1) ≤ q → q ≤ 2 ^ p → (size (q * 2 ^ x) - p) * 2 ^ (p - 1) + q * 2 ^ x / 2 ^ (size (q * 2 ^ x) - p) ≡ x * 2 ^ (p - 1) + q
packed p q x P lo hi = elim (eq-or-lt_of_le hi) [
  | inl e ↦
      let h = 2 ^ (p - 1) in
      let n = q * 2 ^ x in
      let same : n ≡ 2 ^ (p + x) = ap (λ (y : ℕ). y * 2 ^ x) e ∙ sym (pow-add 2 p x) in
      let z : size n ≡ suc (p + x) = size_is n (p + x) (le_of_eq (sym same)) (subst (λ (y : ℕ). y < 2 ^ suc (p + x)) (sym same) (pow-lt (le_of_eq refl))) in
      let half : n ≡ h * 2 ^ suc x =
      ap (λ (y : ℕ). y * 2 ^ x) (e ∙ twice p P) ∙ mul_assoc 2 h (2 ^ x) ∙ mul_left_comm 2 h (2 ^ x) ∙ ap (λ (y : ℕ). h * y) (sym (pow-succ' 2 x)) in
      ap (λ (y : ℕ). y * h + n / 2 ^ y) (field-up p x (size n) P z)
      ∙ ap (λ (y : ℕ). suc x * h + y) (ap (λ (y : ℕ). y / 2 ^ suc x) half ∙ mul-div_cancel h (pow_pos (suc x)))
      ∙ ap (λ (y : ℕ). y + h) (suc-mul x h)
      ∙ carried (x * h) h (2 ^ p) (twice p P)
      ∙ ap (λ (y : ℕ). x * h + y) (sym e)
  | inr l ↦
      let h = 2 ^ (p - 1) in
      let n = q * 2 ^ x in
      let a : 2 ^ (p - 1 + x) ≤ n = le_trans (le_of_eq (pow-add 2 (p - 1) x)) (mul-le-mul_right (2 ^ x) lo) in
      let b : n < 2 ^ suc (p - 1 + x) =
      lt_of_lt_of_le (mul-lt-mul_of_pos_right l (pow_pos x)) (le_of_eq (sym (pow-add 2 p x) ∙ ap (λ (y : ℕ). 2 ^ y) (one_more p x P))) in
      ap (λ (y : ℕ). y * h + n / 2 ^ y) (field-of p x (size n) P (size_is n (p - 1 + x) a b)) ∙ ap (λ (y : ℕ). x * h + y) (mul-div_cancel q (pow_pos x))
]

-- ---- the law
-- from here up a value is an infinity, in units of the format's smallest value
abbrev pub limit : Format → ℕ
limit f = 2 ^ (low f + suc (emax f))

-- in these units num / den is m * 2 ^ x / 2 ^ c, and m has c digits more than the format keeps
pub record Scaled (f : Format) (num den m c x : ℕ) : Type 0 where
  pub above : 0 < den
  pub same : num * 2 ^ low f * 2 ^ c ≡ m * 2 ^ x * den
  pub lo : 2 ^ (prec f - 1) * 2 ^ c ≤ m
  pub hi : m < 2 ^ prec f * 2 ^ c

-- the sign's bit and r are the bits of num / den, rounded
abbrev pub Makes : Format → Bool → ℕ → ℕ → ℕ → Type 0
Makes f s r num den = of_bits f (cond s (top f) 0 + r) ≡ round f s num den

module _ (f : Format) (s : Bool) (num den m c x : ℕ) (S : Scaled f num den m c x) where
  dropped : size (num * 2 ^ low f / den) - prec f ≡ x
  dropped =
      let p = prec f in
      let P : 0 < p = two-le_pos p (two f) in
      let n = num * 2 ^ low f in
      let a : 2 ^ (p - 1 + x) * den ≤ n =
      le_of_mul-le-mul_right
      (le_trans (le_of_eq (ap (λ (y : ℕ). y * den * 2 ^ c) (pow-add 2 (p - 1) x) ∙ simp (mul_assoc, mul_comm, mul_left_comm)))
      (le_trans (mul-le-mul_right den (mul-le-mul_right (2 ^ x) S.lo)) (le_of_eq (sym S.same))))
      (pow_pos c) in
      let b : n < 2 ^ suc (p - 1 + x) * den =
      lt_of_mul-lt-mul_right (2 ^ c)
      (lt_of_le_of_lt (le_of_eq S.same)
      (lt_of_lt_of_le (mul-lt-mul_of_pos_right (mul-lt-mul_of_pos_right S.hi (pow_pos x)) S.above)
      (le_of_eq (sym (ap (λ (y : ℕ). y * den * 2 ^ c) (ap (λ (y : ℕ). 2 ^ y) (sym (one_more p x P)) ∙ pow-add 2 p x) ∙ simp (mul_assoc, mul_comm, mul_left_comm)))))) in
      field-of p x (size (n / den)) P (size_is (n / den) (p - 1 + x) ((le-div_iff_mul-le S.above).1 a) ((div-lt_iff_lt-mul S.above).1 b))

  pub rounded : round f s num den ≡ units f s (closest m (2 ^ c)) x
  rounded =
      let n = num * 2 ^ low f in
      round_is f s num den
      ∙ ap (λ (k : ℕ). units f s (closest n (den * 2 ^ k)) k) dropped
      ∙ ap (λ (q : ℕ). units f s q x)
      (closest_same n (den * 2 ^ x) m (2 ^ c) (mul-pos S.above (pow_pos x)) (pow_pos c) (S.same ∙ simp (mul_assoc, mul_comm, mul_left_comm)))

  pub by_bits : closest m (2 ^ c) * 2 ^ x < limit f → Makes f s (x * hid f + closest m (2 ^ c)) num den
  by_bits fine =
      let q = closest m (2 ^ c) in
      let v = round f s num den in
      let value : HasValue v s (q * 2 ^ x) (2 ^ low f) = subst (λ (w : Float). HasValue w s (q * 2 ^ x) (2 ^ low f)) (sym rounded) (units_val f s q x fine) in
      let bits : to_bits f v ≡ cond s (top f) 0 + (x * hid f + q) =
      to_bits-of f s v (q * 2 ^ x) value
      ∙ add_assoc (cond s (top f) 0) ((size (q * 2 ^ x) - prec f) * hid f) (q * 2 ^ x / 2 ^ (size (q * 2 ^ x) - prec f))
      ∙ ap (λ (y : ℕ). cond s (top f) 0 + y)
      (packed (prec f) q x (two-le_pos (prec f) (two f)) (closest-ge m (prec f - 1) c S.lo) (closest-le m (prec f) c S.hi)) in
      ap (of_bits f) (sym bits) ∙ of_bits-to_bits f v (round-fits f s num den)

-- ---- up to the infinity: a carry out of the largest exponent makes the infinity's pattern
inf_bits : (f : Format) (s : Bool) → to_bits f (inf s) ≡ cond s (top f) 0 + ones f * hid f
unfolding to_bits
inf_bits f s = refl

at_top : (f : Format) (s : Bool) → of_bits f (cond s (top f) 0 + ones f * hid f) ≡ inf s
at_top f s = ap (of_bits f) (sym (inf_bits f s)) ∙ of_bits-to_bits f (inf s) (inf-fits f s)

units-over : (f : Format) (s : Bool) (q k : ℕ) → limit f ≤ q * 2 ^ k → units f s q k ≡ inf s
unfolding units
units-over f s q k h = ap (λ (b : Bool). cond b (odd (suc (prec f)) s q k (low f)) (inf s)) (le-ltb (q * 2 ^ k) (limit f) h)

carry-field : (p e x : ℕ) → 2 ≤ p → x + p ≡ e + p - 2 + suc e → x + 2 ≡ 2 * e + 1
carry-field p e x h k = omega arith

module _ (f : Format) (s : Bool) (num den m c x : ℕ) (S : Scaled f num den m c x) (room : x + prec f ≤ low f + suc (emax f)) where
  carry : limit f ≤ closest m (2 ^ c) * 2 ^ x → x * hid f + closest m (2 ^ c) ≡ ones f * hid f
  carry h =
      let p = prec f in
      let L = low f + suc (emax f) in
      let q = closest m (2 ^ c) in
      let q-le : q ≤ 2 ^ p = closest-le m p c S.hi in
      let most : q * 2 ^ x ≤ 2 ^ (p + x) = le_trans (mul-le-mul_right (2 ^ x) q-le) (le_of_eq (sym (pow-add 2 p x))) in
      let L-le : L ≤ p + x =
      le_of_suc-le-suc (lt_of_not-le (λ (g : suc (p + x) ≤ L). not-le_of_lt (lt_of_le_of_lt (le_trans h most) (pow-lt g)) (le_of_eq refl))) in
      let e : x + p ≡ L = exact x p L L-le room in
      let q-is : q ≡ 2 ^ p =
      le_antisymm q-le (le_of_mul-le-mul_right (le_trans (le_of_eq (sym (pow-add 2 p x) ∙ ap (λ (y : ℕ). 2 ^ y) (add_comm p x ∙ e))) h) (pow_pos x)) in
      ap (λ (y : ℕ). x * hid f + y) (q-is ∙ twice p (two-le_pos p (two f)))
      ∙ sym (add-mul x 2 (hid f))
      ∙ ap (λ (y : ℕ). y * hid f) (carry-field p (emax f) x (two f) e)
    where
      exact : (x p L : ℕ) → L ≤ p + x → x + p ≤ L → x + p ≡ L
      exact x p L a b = omega arith

  pub by-bits-to-top : Makes f s (x * hid f + closest m (2 ^ c)) num den
  by-bits-to-top = go (ltb (closest m (2 ^ c) * 2 ^ x) (limit f)) refl
    where
      go : (b : Bool) → ltb (closest m (2 ^ c) * 2 ^ x) (limit f) ≡ b → Makes f s (x * hid f + closest m (2 ^ c)) num den
      go true e = by_bits f s num den m c x S (ltb-true (closest m (2 ^ c) * 2 ^ x) (limit f) e)
      go false e =
          let h = ltb-false (closest m (2 ^ c) * 2 ^ x) (limit f) e in
          ap (λ (y : ℕ). of_bits f (cond s (top f) 0 + y)) (carry h) ∙ at_top f s ∙ sym (rounded f s num den m c x S ∙ units-over f s (closest m (2 ^ c)) x h)

-- ---- beyond: a fraction of 2 ^ (emax + 1) at least
pub over : (f : Format) (s : Bool) (num den : ℕ) → 0 < den → limit f * den ≤ num * 2 ^ low f → Makes f s (ones f * hid f) num den
over f s num den D h =
    let p = prec f in
    let P : 0 < p = two-le_pos p (two f) in
    let L = low f + suc (emax f) in
    let n = num * 2 ^ low f in
    let w = n / den in
    let z : L < size w = size-gt w L ((le-div_iff_mul-le D).1 h) in
    let k = size w - p in
    let a : 2 ^ (p - 1) * 2 ^ k ≤ w = le_trans (le_of_eq (sym (pow-add 2 (p - 1) k))) (size_reaches w (p - 1 + k) (inside (size w) p (emax f) P (two f) z)) in
    let q-ge : 2 ^ (p - 1) ≤ n / (den * 2 ^ k) = subst (λ (y : ℕ). 2 ^ (p - 1) ≤ y) (div-div-eq-div-mul n den (2 ^ k)) ((le-div_iff_mul-le (pow_pos k)).1 a) in
    let big : 2 ^ L ≤ closest n (den * 2 ^ k) * 2 ^ k =
    le_trans (pow_mono (reach (size w) p L P z))
    (le_trans (le_of_eq (pow-add 2 (p - 1) k)) (mul-le-mul_right (2 ^ k) (le_trans q-ge (nearest-ge (n / (den * 2 ^ k)) (compare (n % (den * 2 ^ k) * 2) (den * 2 ^ k)))))) in
    at_top f s ∙ sym (round_is f s num den ∙ units-over f s (closest n (den * 2 ^ k)) k big)
  where
    inside : (z p e : ℕ) → 0 < p → 2 ≤ p → e + p - 2 + suc e < z → p - 1 + (z - p) < z
    inside z p e h g l = omega arith

    reach : (z p L : ℕ) → 0 < p → L < z → L ≤ p - 1 + (z - p)
    reach z p L h l = omega arith

-- ---- below the normal range: the pattern is the kept number. In units the fraction is m / 2 ^ c
module _ (f : Format) (s : Bool) (num den m c : ℕ) (D : 0 < den) (same : num * 2 ^ low f * 2 ^ c ≡ m * den) (hi : m < 2 ^ (prec f - 1) * 2 ^ c) where
  none : size (num * 2 ^ low f / den) - prec f ≡ 0
  none =
      let n = num * 2 ^ low f in
      let under : n / den < 2 ^ (prec f - 1) =
      subst (λ (y : ℕ). y < 2 ^ (prec f - 1)) (sym (div_same n den m (2 ^ c) D (pow_pos c) same)) ((div-lt_iff_lt-mul (pow_pos c)).1 hi) in
      zero_of (size (n / den)) (prec f) (size-le (n / den) (prec f - 1) under)
    where
      zero_of : (z p : ℕ) → z ≤ p - 1 → z - p ≡ 0
      zero_of z p h = omega arith

  pub by-bits-small : Makes f s (closest m (2 ^ c)) num den
  by-bits-small =
      let p = prec f in
      let n = num * 2 ^ low f in
      let q = closest m (2 ^ c) in
      let v = round f s num den in
      let is : v ≡ units f s q 0 =
      round_is f s num den
      ∙ ap (λ (k : ℕ). units f s (closest n (den * 2 ^ k)) k) none
      ∙ ap (λ (y : ℕ). units f s y 0)
      (closest_same n (den * 2 ^ 0) m (2 ^ c) (mul-pos D (pow_pos 0)) (pow_pos c) (same ∙ ap (λ (y : ℕ). m * y) (sym (mul-one den)))) in
      let under : q * 2 ^ 0 < 2 ^ p = lt_of_le_of_lt (le_trans (le_of_eq (mul-one q)) (closest-le m (p - 1) c hi)) (pow-lt (pred_lt p (two f))) in
      let fine : q * 2 ^ 0 < limit f = lt_of_lt_of_le under (pow_mono (fit p (emax f) (two f) (reaches f))) in
      let value : HasValue v s (q * 2 ^ 0) (2 ^ low f) = subst (λ (w : Float). HasValue w s (q * 2 ^ 0) (2 ^ low f)) (sym is) (units_val f s q 0 fine) in
      let k : size (q * 2 ^ 0) - p ≡ 0 = few (size (q * 2 ^ 0)) p (size-le (q * 2 ^ 0) p under) in
      ap (of_bits f)
      (sym
      (to_bits-of f s v (q * 2 ^ 0) value
      ∙ ap (λ (y : ℕ). cond s (top f) 0 + y * hid f + q * 2 ^ 0 / 2 ^ y) k
      ∙ ap (λ (y : ℕ). cond s (top f) 0 + 0 * hid f + y) (div-one (q * 2 ^ 0) ∙ mul-one q)
      ∙ ap (λ (y : ℕ). y + q) (ap (λ (y : ℕ). cond s (top f) 0 + y) (zero-mul (hid f)) ∙ add-zero (cond s (top f) 0))))
      ∙ of_bits-to_bits f v (round-fits f s num den)
    where
      pred_lt : (p : ℕ) → 2 ≤ p → p - 1 < p
      pred_lt p h = omega arith

      fit : (p e : ℕ) → 2 ≤ p → p ≤ suc e → p ≤ e + p - 2 + suc e
      fit p e a b = omega arith

      few : (z p : ℕ) → z ≤ p → z - p ≡ 0
      few z p h = omega arith
