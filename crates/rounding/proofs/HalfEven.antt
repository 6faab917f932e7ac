-- m / (2 * h) to the nearest whole number, a tie to the even one, by one comparison: with the quotient q and the remainder r it
-- is q + 1 where r + q % 2 is above h, and q otherwise. So it is off by half the divisor at most. Assumes nothing.
use mathlib.Core.Path.{◌≡◌, refl, sym, ap, ◌∙◌, subst}
use Prim.Native.Nat.{ℕ, ◌+◌, ◌*◌, ◌/◌, ◌%◌, ◌^◌, ◌≤◌, ◌<◌, compare, Ordering}
use native.Mathlib.Nat.{le_trans, mod-lt, mod-eq_of_lt, div-eq_of_lt, add-mul, one-mul, div-add-mod', le-div_iff_mul-le, div-lt_iff_lt-mul}
use native.Mathlib.Numerals.{add-one}
use native.Mathlib.Omega.{arith}
use mathlib.Core.Bool.{Bool, true, false, not}
use lib.Arith.{lt_of_le-ne}
use lib.Dec.{T, is_le, compare_is_eq, ltb, leb→le, nleb→lt, eqb→eq, lit≤}
use lib.Pow.{pow_pos}
use lib.Ieee.{nearest}
use lib.Ieee.Fits.{nearest-le, eq→eqb}
use lib.Ieee.Nearest.{closest, nearest-ge}
use borrow.Author.Tests.{ltb-true, ltb-false}

-- ---- by one comparison
tie_up : (q r h : ℕ) → h < r + q % 2 → r * 2 ≡ 2 * h → q + q % 2 ≡ q + 1
tie_up q r h u e = omega arith

tie_down : (q r h : ℕ) → r + q % 2 ≤ h → r * 2 ≡ 2 * h → q + q % 2 ≡ q
tie_down q r h u e = omega arith

not-under : (q r h : ℕ) → h < r + q % 2 → r * 2 < 2 * h → ⊥
not-under q r h u l = omega arith

not-over : (q r h : ℕ) → r + q % 2 ≤ h → 2 * h < r * 2 → ⊥
not-over q r h u l = omega arith

up_by : (o : Ordering) (q r h : ℕ) → h < r + q % 2 → (T (is_le o) → r * 2 ≤ 2 * h) → (T (compare_is_eq o) → r * 2 ≡ 2 * h) → (r * 2 ≡ 2 * h → T (compare_is_eq o))
    → nearest q o ≡ q + 1
up_by Ordering.lt q r h u a e n = absurd (not-under q r h u (lt_of_le-ne (a tt) n))
up_by Ordering.eq q r h u a e n = tie_up q r h u (e tt)
up_by Ordering.gt q r h u a e n = sym (add-one q)

down_by : (o : Ordering) (q r h : ℕ) → r + q % 2 ≤ h → (T (not (is_le o)) → 2 * h < r * 2) → (T (compare_is_eq o) → r * 2 ≡ 2 * h) → nearest q o ≡ q
down_by Ordering.lt q r h u a e = refl
down_by Ordering.eq q r h u a e = tie_down q r h u (e tt)
down_by Ordering.gt q r h u a e = absurd (not-over q r h u (a tt))

pub closest-up : (m h : ℕ) → h < m % (2 * h) + m / (2 * h) % 2 → m / (2 * h) + 1 ≡ closest m (2 * h)
closest-up m h u =
    let r = m % (2 * h) in
    sym (up_by (compare (r * 2) (2 * h)) (m / (2 * h)) r h u (leb→le (r * 2) (2 * h)) (eqb→eq (r * 2) (2 * h)) (λ (e : r * 2 ≡ 2 * h). eq→eqb e))

pub closest-down : (m h : ℕ) → m % (2 * h) + m / (2 * h) % 2 ≤ h → m / (2 * h) ≡ closest m (2 * h)
closest-down m h u =
    let r = m % (2 * h) in
    sym (down_by (compare (r * 2) (2 * h)) (m / (2 * h)) r h u (nleb→lt (r * 2) (2 * h)) (eqb→eq (r * 2) (2 * h)))

-- below half of the divisor nothing is left
pub closest-none : (m h : ℕ) → m < h → closest m (2 * h) ≡ 0
closest-none m h l =
    sym (closest-down m h (subst (λ (r : ℕ). r + m / (2 * h) % 2 ≤ h) (sym (mod-eq_of_lt under))
    (subst (λ (q : ℕ). m + q % 2 ≤ h) (sym none) (plain m h l))))
    ∙ none
  where
    twice : (m h : ℕ) → m < h → m < 2 * h
    twice m h k = omega arith

    under : m < 2 * h
    under = twice m h l

    none : m / (2 * h) ≡ 0
    none = div-eq_of_lt under

    plain : (m h : ℕ) → m < h → m + 0 ≤ h
    plain m h k = omega arith

-- ---- between powers of two it stays
pub closest-ge : (m p c : ℕ) → 2 ^ p * 2 ^ c ≤ m → 2 ^ p ≤ closest m (2 ^ c)
closest-ge m p c h = le_trans ((le-div_iff_mul-le (pow_pos c)).1 h) (nearest-ge (m / 2 ^ c) (compare (m % 2 ^ c * 2) (2 ^ c)))

pub closest-le : (m p c : ℕ) → m < 2 ^ p * 2 ^ c → closest m (2 ^ c) ≤ 2 ^ p
closest-le m p c h = le_trans (nearest-le (m / 2 ^ c) (compare (m % 2 ^ c * 2) (2 ^ c))) ((div-lt_iff_lt-mul (pow_pos c)).1 h)

-- ---- how far off it is
abbrev Near : ℕ → ℕ → ℕ → Type 0
Near h a b = (a ≤ b + h) × (b ≤ a + h)

near_up : (a r h b : ℕ) → b < 2 → h < r + b → r < 2 * h → Near h (a + 2 * h) (a + r)
near_up a r h b B u l = (omega arith, omega arith)

near_down : (a r h b : ℕ) → r + b ≤ h → Near h a (a + r)
near_down a r h b u = (omega arith, omega arith)

pub closest-near : (m h : ℕ) → 0 < h → (closest m (2 * h) * (2 * h) ≤ m + h) × (m ≤ closest m (2 * h) * (2 * h) + h)
closest-near m h P = go (ltb h (m % u + q % 2)) refl
  where
    u : ℕ
    u = 2 * h

    q : ℕ
    q = m / u

    positive : (h : ℕ) → 0 < h → 0 < 2 * h
    positive h k = omega arith

    go : (b : Bool) → ltb h (m % u + q % 2) ≡ b → Near h (closest m u * u) m
    go true e =
        let t = ltb-true h (m % u + q % 2) e in
        subst (λ (c : ℕ). Near h (c * u) m) (closest-up m h t)
        (subst (λ (a : ℕ). Near h ((q + 1) * u) a) (div-add-mod' m u)
        (subst (λ (c : ℕ). Near h c (q * u + m % u)) (sym (add-mul q 1 u ∙ ap (λ (x : ℕ). q * u + x) (one-mul u)))
        (near_up (q * u) (m % u) h (q % 2) (mod-lt q (lit≤ tt)) t (mod-lt m (positive h P)))))
    go false e =
        let t = ltb-false h (m % u + q % 2) e in
        subst (λ (c : ℕ). Near h (c * u) m) (closest-down m h t)
        (subst (λ (a : ℕ). Near h (q * u) a) (div-add-mod' m u) (near_down (q * u) (m % u) h (q % 2) t))
