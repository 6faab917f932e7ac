-- The float nearest to n, from n with its leading zeros shifted out, either format: of the 64 digits the format keeps `prec`, and c
-- are rounded off. The zeros alone set the exponent's field. One law, `rounds`, for both functions. Assumes nothing.
use mathlib.Core.Path.{◌≡◌, refl, sym, ap, ◌∙◌, subst}
use Prim.Native.Nat.{ℕ, suc, ◌+◌, ◌-◌, ◌*◌, ◌%◌, ◌^◌, ◌≤◌, ◌<◌}
use native.Mathlib.Nat.{mod-eq_of_lt, le_refl, le_trans, le_of_eq, lt_of_le_of_lt, zero-lt-suc, zero-add, suc_inj, add-suc, add_comm, add-mul, add-le-add, mul-one, mul_assoc, mul-le-mul_right}
use native.Mathlib.Omega.{arith}
use mathlib.Core.Bool.{false}
use lib.IntN.{pos}
use lib.Dec.{lit≤}
use lib.Pow.{pow-add, pow-lt, shl_lt}
use lib.Count.{count_leading_zeros, leading_top}
use lib.Ieee.{Format, binary32, binary64, prec, emax, low, hid, ones, of_int, of_bits}
use lib.Ieee.Fits.{two, two-le_pos}
use lib.Ieee.Nearest.{closest}
use Rattle.rounding.proofs.HalfEven.{closest-le}
use Rattle.rounding.proofs.Packing.{twice, limit, by_bits}

-- both formats hold every whole number of 64 bits below their infinity
pub holds-64 : (f : Format) → 64 ≤ emax f
holds-64 binary32 = lit≤ tt
holds-64 binary64 = lit≤ tt

pub of_zero : (f : Format) → of_bits f 0 ≡ of_int f (pos 0)
unfolding of_bits of_int
of_zero binary32 = refl
of_zero binary64 = refl

-- n without its leading zeros: where n is at least 1, from 2 ^ 63 up to 2 ^ 64
abbrev shifted : ℕ → ℕ
shifted n = n * 2 ^ count_leading_zeros 64 n

normalized : (n : ℕ) → 0 < n → n < 2 ^ 64 → (count_leading_zeros 64 n < 64) × (2 ^ 63 ≤ shifted n) × (shifted n < 2 ^ 64)
normalized n P h =
    let t = leading_top 64 n P h in
    let z = count_leading_zeros 64 n in
    let e : t.0 + z ≡ 63 = add_comm t.0 z ∙ suc_inj (sym (add-suc z t.0) ∙ t.1) in (
      below z t.0 t.1,
      subst (λ (x : ℕ). 2 ^ x ≤ shifted n) e (le_trans (le_of_eq (pow-add 2 t.0 z)) (mul-le-mul_right (2 ^ z) t.2)),
      subst (λ (x : ℕ). shifted n < 2 ^ x) (add_comm (suc t.0) z ∙ t.1) (shl_lt {a = n} (suc t.0) z t.3),
    )
  where
    below : (z j : ℕ) → z + suc j ≡ 64 → z < 64
    below z j e = omega arith

-- the exponent's field, and the bits that it makes with the kept number q
abbrev pub exponent : Format → ℕ → ℕ → ℕ
exponent f c n = low f + c - count_leading_zeros 64 n

abbrev pub pattern : Format → ℕ → ℕ → ℕ → ℕ
pattern f c n q = exponent f c n * hid f + q

module _ (f : Format) (c n : ℕ) (digits : prec f + c ≡ 64) (P : 0 < n) (h : n < 2 ^ 64) where
  lo : 2 ^ (prec f - 1) * 2 ^ c ≤ shifted n
  lo = le_trans (le_of_eq (sym (pow-add 2 (prec f - 1) c) ∙ ap (λ (x : ℕ). 2 ^ x) (sum (prec f) (two f) digits))) (normalized n P h).1
    where
      sum : (p : ℕ) → 2 ≤ p → p + c ≡ 64 → p - 1 + c ≡ 63
      sum p T e = omega arith

  hi : shifted n < 2 ^ prec f * 2 ^ c
  hi = subst (λ (x : ℕ). shifted n < x) (sym (sym (pow-add 2 (prec f) c) ∙ ap (λ (x : ℕ). 2 ^ x) digits)) (normalized n P h).2

  same : n * 2 ^ low f * 2 ^ c ≡ shifted n * 2 ^ exponent f c n * 1
  same =
      let z = count_leading_zeros 64 n in
      let x = exponent f c n in
      let e : z + x ≡ low f + c = join z (emax f) (prec f) (normalized n P h).0 (holds-64 f) digits (two f) in
      mul_assoc n (2 ^ low f) (2 ^ c)
      ∙ ap (λ (y : ℕ). n * y) (sym (pow-add 2 (low f) c) ∙ ap (λ (y : ℕ). 2 ^ y) (sym e) ∙ pow-add 2 z x)
      ∙ sym (mul_assoc n (2 ^ z) (2 ^ x))
      ∙ sym (mul-one (shifted n * 2 ^ x))
    where
      join : (z e p : ℕ) → z < 64 → 64 ≤ e → p + c ≡ 64 → 2 ≤ p → z + (e + p - 2 + c - z) ≡ e + p - 2 + c
      join z e p a b d t = omega arith

  kept-le : closest (shifted n) (2 ^ c) ≤ 2 ^ prec f
  kept-le = closest-le (shifted n) (prec f) c hi

  fine : closest (shifted n) (2 ^ c) * 2 ^ exponent f c n < limit f
  fine =
      lt_of_le_of_lt (mul-le-mul_right (2 ^ exponent f c n) kept-le)
      (lt_of_le_of_lt (le_of_eq (sym (pow-add 2 (prec f) (exponent f c n)))) (pow-lt (under (prec f) (low f) (count_leading_zeros 64 n) (emax f) digits (holds-64 f))))
    where
      under : (p l z e : ℕ) → p + c ≡ 64 → 64 ≤ e → p + (l + c - z) < l + suc e
      under p l z e d t = omega arith

  of_number : of_bits f (pattern f c n (closest (shifted n) (2 ^ c))) ≡ of_int f (pos n)
  unfolding of_int
  of_number =
      ap (of_bits f) (sym (zero-add (pattern f c n (closest (shifted n) (2 ^ c)))))
      ∙ by_bits f false n 1 (shifted n) c (exponent f c n) (record { above = zero-lt-suc 0; same = same; lo = lo; hi = hi }) fine

-- the pattern stays below the infinity's
pattern-le : (f : Format) (c n q : ℕ) → prec f + c ≡ 64 → q ≤ 2 ^ prec f → pattern f c n q ≤ ones f * hid f
pattern-le f c n q digits h =
    let x = exponent f c n in
    le_trans (add-le-add (le_refl (x * hid f)) (le_trans h (le_of_eq (twice (prec f) (two-le_pos (prec f) (two f))))))
    (le_trans (le_of_eq (sym (add-mul x 2 (hid f)))) (mul-le-mul_right (hid f) (room (prec f) (emax f) (count_leading_zeros 64 n) (two f) digits (holds-64 f))))
  where
    room : (p e z : ℕ) → 2 ≤ p → p + c ≡ 64 → 64 ≤ e → e + p - 2 + c - z + 2 ≤ 2 * e + 1
    room p e z a b d = omega arith

-- ---- as a function's proof wants it: of an n that is not 0, and of the q that the callee rounded to
positive : (n : ℕ) → (n ≡ 0 → ⊥) → 0 < n
positive n h = omega arith

pub zeros-lt : (n : ℕ) → (n ≡ 0 → ⊥) → n < 2 ^ 64 → count_leading_zeros 64 n < 64
zeros-lt n N h = (normalized n (positive n N) h).0

pub record Rounds (f : Format) (c n q : ℕ) : Type 0 where
  pub few : q ≤ 2 ^ prec f
  pub small : pattern f c n q ≤ ones f * hid f
  pub right : of_bits f (pattern f c n q) ≡ of_int f (pos n)

pub rounds : (f : Format) (c n q : ℕ) → prec f + c ≡ 64 → (n ≡ 0 → ⊥) → n < 2 ^ 64 → q ≡ closest (shifted n % 2 ^ 64) (2 ^ c) → Rounds f c n q
rounds f c n q digits N h e =
    let P = positive n N in
    let is : q ≡ closest (shifted n) (2 ^ c) = e ∙ ap (λ (x : ℕ). closest x (2 ^ c)) (mod-eq_of_lt (normalized n P h).2) in
    let few : q ≤ 2 ^ prec f = subst (λ (x : ℕ). x ≤ 2 ^ prec f) (sym is) (kept-le f c n digits P h) in
    record { few = few; small = pattern-le f c n q digits few; right = ap (λ (x : ℕ). of_bits f (pattern f c n x)) is ∙ of_number f c n digits P h }

-- the same, of the number m that n was shifted to
pub rounds_left : (f : Format) (c n : ℕ) {m q : ℕ} → prec f + c ≡ 64 → (n ≡ 0 → ⊥) → n < 2 ^ 64 → m ≡ shifted n % 2 ^ 64 → q ≡ closest m (2 ^ c) → Rounds f c n q
rounds_left f c n digits N h s e = rounds f c n _ digits N h (e ∙ ap (λ (m : ℕ). closest m (2 ^ c)) s)
