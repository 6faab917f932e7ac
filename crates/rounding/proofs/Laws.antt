-- Document 01: "Whole number to float rounds to nearest, ties to even: exact below 2^53 (2^24 for f32); at bit length k above
-- that, off by at most 2^(k−54) (2^(k−25))". Each half is one law, over both formats and both signs; `prec f` is 53 or 24, and k is
-- up to 64. A longer n keeps n / 2^(k − prec f) rounded, which is off by half a unit at most. Assumes nothing.
use mathlib.Core.Path.{◌≡◌, refl, sym, ap, ◌∙◌, subst}
use Prim.Native.Nat.{ℕ, suc, ◌+◌, ◌-◌, ◌*◌, ◌^◌, ◌≤◌, ◌<◌}
use native.Mathlib.Nat.{le_trans, le_of_eq, lt_of_le_of_lt, lt_of_lt_of_le, zero-lt-suc, mul-one, mul_assoc, mul_comm, mul_right_comm, mul-le-mul_right, eq_of_mul-eq-mul_right, pow-succ'}
use native.Mathlib.Omega.{arith}
use mathlib.Core.Bool.{Bool, not}
use lib.IntN.{ℤ, pos, nat_abs}
use lib.Signed.{non_neg}
use lib.Pow.{pow-add, pow_pos, pow-lt, pow_mono, shl_lt}
use lib.Count.{count_leading_zeros, leading_top}
use lib.Ieee.{Float, nan, inf, fin, Format, binary32, binary64, prec, emax, low, size, round, of_int, up, down}
use lib.Ieee.Digits.{size-lt, size_reaches}
use lib.Ieee.Fits.{two, reach}
use lib.Ieee.Exact.{HasValue, units_val, round_exact}
use lib.Ieee.Nearest.{closest}
use Rattle.rounding.specs.Closeness.{bit_length, Stands, Exact, Off}
use Rattle.rounding.proofs.HalfEven.{closest-le, closest-near}
use Rattle.rounding.proofs.Packing.{size_is, limit, Scaled, rounded}
use Rattle.rounding.proofs.Signs.{of-int}
use Rattle.rounding.proofs.WholeNumbers.{holds-64}

-- ---- n of no more digits than the format keeps
round-short : (f : Format) (s : Bool) (n : ℕ) → n < 2 ^ prec f → HasValue (round f s n 1) s n 1
round-short f s n h =
    round_exact f s n 1 n (low f) (zero-lt-suc 0) h
    (lt_of_lt_of_le (shl_lt (prec f) (low f) h) (pow_mono (room (prec f) (low f) (emax f) (reach f))))
    (sym (mul-one (n * 2 ^ low f)))
  where
    room : (p l e : ℕ) → p ≤ suc e → p + l ≤ l + suc e
    room p l e h = omega arith

-- "exact below 2^53 (2^24 for f32)"
pub exact_below : (f : Format) (n : ℤ) → nat_abs n < 2 ^ prec f → Exact (of_int f n) n
exact_below f n h = subst (λ (x : Float). Exact x n) (sym (of-int f n)) (round-short f (not (non_neg n)) (nat_abs n) h)

-- ---- n of i + 1 digits more than the format keeps: they are rounded off, and 2 ^ i is half of their unit
-- from units of the format's smallest value to ones
in_ones : (x : Float) (s : Bool) (v l : ℕ) → 0 < l → HasValue x s (v * l) l → HasValue x s v 1
in_ones nan s v l P h = h
in_ones (inf t) s v l P h = h
in_ones (fin t m e) s v l P h = (
  h.0,
  mul-one (m * up e) ∙ eq_of_mul-eq-mul_right l P (m * up e) (v * down e) (h.1 ∙ mul_right_comm v l (down e)),
)

-- the size of the float that n is rounded to
abbrev kept : ℕ → ℕ → ℕ
kept n i = closest n (2 ^ suc i) * 2 ^ suc i

module _ (f : Format) (s : Bool) (n i : ℕ) (digits : size n ≡ prec f + suc i) (most : size n ≤ 64) where
  lo : 2 ^ (prec f - 1) * 2 ^ suc i ≤ n
  lo = le_trans (le_of_eq (sym (pow-add 2 (prec f - 1) (suc i)))) (size_reaches n (prec f - 1 + suc i) (one_less (prec f) (size n) (two f) digits))
    where
      one_less : (p k : ℕ) → 2 ≤ p → k ≡ p + suc i → p - 1 + suc i < k
      one_less p k h e = omega arith

  hi : n < 2 ^ prec f * 2 ^ suc i
  hi = subst (λ (x : ℕ). n < x) (ap (λ (x : ℕ). 2 ^ x) digits ∙ pow-add 2 (prec f) (suc i)) (size-lt n)

  scaled : Scaled f n 1 n (suc i) (low f + suc i)
  scaled = record { above = zero-lt-suc 0; same = same; lo = lo; hi = hi }
    where
      same : n * 2 ^ low f * 2 ^ suc i ≡ n * 2 ^ (low f + suc i) * 1
      same = mul_assoc n (2 ^ low f) (2 ^ suc i) ∙ ap (λ (x : ℕ). n * x) (sym (pow-add 2 (low f) (suc i))) ∙ sym (mul-one (n * 2 ^ (low f + suc i)))

  fine : closest n (2 ^ suc i) * 2 ^ (low f + suc i) < limit f
  fine =
      lt_of_le_of_lt (mul-le-mul_right (2 ^ (low f + suc i)) (closest-le n (prec f) (suc i) hi))
      (lt_of_le_of_lt (le_of_eq (sym (pow-add 2 (prec f) (low f + suc i)))) (pow-lt (under (prec f) (low f) (size n) (emax f) digits most (holds-64 f))))
    where
      under : (p l k e : ℕ) → k ≡ p + suc i → k ≤ 64 → 64 ≤ e → p + (l + suc i) < l + suc e
      under p l k e a b c = omega arith

  value : HasValue (round f s n 1) s (kept n i) 1
  value =
      let q = closest n (2 ^ suc i) in
      let c = 2 ^ suc i in
      let units : q * 2 ^ (low f + suc i) ≡ q * c * 2 ^ low f =
      ap (λ (x : ℕ). q * x) (pow-add 2 (low f) (suc i) ∙ mul_comm (2 ^ low f) c) ∙ sym (mul_assoc q c (2 ^ low f)) in
      in_ones (round f s n 1) s (q * c) (2 ^ low f) (pow_pos (low f))
      (subst (λ (a : ℕ). HasValue (round f s n 1) s a (2 ^ low f)) units
      (subst (λ (x : Float). HasValue x s (q * 2 ^ (low f + suc i)) (2 ^ low f)) (sym (rounded f s n 1 n (suc i) (low f + suc i) scaled))
      (units_val f s q (low f + suc i) fine)))

split : (p k : ℕ) {z : ℕ} → k ≡ z → p < k → z ≡ p + suc (k - suc p)
split p k e h = omega arith

near : (n i : ℕ) → (kept n i ≤ n + 2 ^ i) × (n ≤ kept n i + 2 ^ i)
near n i = subst (λ (u : ℕ). (closest n u * u ≤ n + 2 ^ i) × (n ≤ closest n u * u + 2 ^ i)) (sym (pow-succ' 2 i)) (closest-near n (2 ^ i) (pow_pos i))

-- "at bit length k above that, off by at most 2^(k−54) (2^(k−25))"
pub off-above : (f : Format) (n : ℤ) (k : ℕ) → k ≡ bit_length n → prec f < k → k ≤ 64 → Off (2 ^ (k - suc (prec f))) (of_int f n) n
off-above f n k e l m =
    let i = k - suc (prec f) in
    let a = nat_abs n in
    let stands = value f (not (non_neg n)) a i (split (prec f) k e l) (subst (λ (x : ℕ). x ≤ 64) e m) in
    record { v = kept a i; stands = subst (λ (x : Float). Stands x n (kept a i)) (sym (of-int f n)) stands; over = (near a i).0; under = (near a i).1 }

-- the paper's numbers
pub numbers : (prec binary64 ≡ 53) × (suc (prec binary64) ≡ 54) × (prec binary32 ≡ 24) × (suc (prec binary32) ≡ 25)
numbers = (refl, refl, refl, refl)

-- "leading zeros give the bit length"
pub by-leading-zeros : (n : ℕ) → 0 < n → n < 2 ^ 64 → bit_length (pos n) ≡ 64 - count_leading_zeros 64 n
by-leading-zeros n P h =
    let t = leading_top 64 n P h in
    size_is n t.0 t.2 t.3 ∙ left (count_leading_zeros 64 n) t.0 t.1
  where
    left : (z j : ℕ) → z + suc j ≡ 64 → suc j ≡ 64 - z
    left z j e = omega arith
