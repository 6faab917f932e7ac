-- Digits one after the other, and when a text is a number. Assumes nothing.
use mathlib.Core.Path.{◌≡◌, refl, sym, ap, ◌∙◌}
use mathlib.Core.Bool.{Bool, true, false, ◌&&◌, and-false}
use mathlib.Core.List.{List, [], ◌∷◌}
use Prim.Native.Nat.{ℕ, suc, ◌+◌, ◌-◌, ◌*◌, ◌/◌, ◌^◌, ◌≤◌, ◌<◌}
use native.Mathlib.Omega.{arith}
use native.Mathlib.Nat.{mul_assoc, mul-le-mul_left, mul-le-mul_right, pow-zero, pow-succ', one-le-pow, le-div_iff_mul-le, div-lt_iff_lt-mul}
use borrow.Author.Tests.{lt-ltb, le-ltb, le-leb, lt-leb, ltb-true}
use lib.Dec.{leb, ltb}
use lib.ListN.{length, drop, get_or, drop_of_length-le}
use Rattle.std.specs.Prelude.{unwrap_or}
use Rattle.hexadecimal.specs.Digits.{value_of}
use Rattle.hexadecimal.proofs.Inverse.{both}
use Rattle.columns.specs.Numbers.{number, no_number_lem, number_if, all_below, spelled_in, number_in}
use Rattle.columns.proofs.Lists.{next}

module _ (base : ℕ) (s : List ℕ) (i : ℕ) where
  pub below_end : length s ≤ i → all_below base (drop i s) ≡ true
  unfolding all_below
  below_end h = ap (all_below base) (drop_of_length-le s h)

  pub below_more : i < length s → value_of (get_or s i 0) < base → all_below base (drop i s) ≡ all_below base (drop (i + 1) s)
  unfolding all_below
  below_more l h = ap (all_below base) (next s i l) ∙ ap (λ (t : Bool). t && all_below base (drop (i + 1) s)) (lt-ltb (value_of (get_or s i 0)) base h)

  pub below-not : i < length s → base ≤ value_of (get_or s i 0) → all_below base (drop i s) ≡ false
  unfolding all_below
  below-not l h = ap (all_below base) (next s i l) ∙ ap (λ (t : Bool). t && all_below base (drop (i + 1) s)) (le-ltb (value_of (get_or s i 0)) base h)

  pub spelled-end : (v : ℕ) → length s ≤ i → spelled_in base v (drop i s) ≡ v
  unfolding spelled_in
  spelled-end v h = ap (spelled_in base v) (drop_of_length-le s h)

  pub spelled-more : (v : ℕ) → i < length s → spelled_in base v (drop i s) ≡ spelled_in base (v * base + value_of (get_or s i 0)) (drop (i + 1) s)
  unfolding spelled_in
  spelled-more v l = ap (spelled_in base v) (next s i l)

-- a digit more makes no number smaller
pub grows : (base v : ℕ) (s : List ℕ) → 0 < base → v ≤ spelled_in base v s
unfolding spelled_in
grows base v [] h = omega arith
grows base v (b ∷ bs) h =
    let one : v * 1 ≤ v * base = mul-le-mul_left v h in
    let rest = grows base (v * base + value_of b) bs h in
    omega arith

-- ## How large a number of so many digits is

heads : (base b : ℕ) (bs : List ℕ) → all_below base (b ∷ bs) ≡ true → (value_of b < base) × (all_below base bs ≡ true)
unfolding all_below
heads base b bs e =
    let two = both (ltb (value_of b) base) (all_below base bs) e in
    (ltb-true (value_of b) base two.0, two.1)

-- digits after those of v
spelled-below : (base v : ℕ) (s : List ℕ) → all_below base s ≡ true → spelled_in base v s < suc v * base ^ length s
unfolding spelled_in
spelled-below base v [] e =
    let power : suc v * base ^ 0 ≡ suc v * 1 = ap (λ (n : ℕ). suc v * n) (pow-zero base) in
    let less : v < suc v * base ^ 0 = omega (arith, power) in
    less
spelled-below base v (b ∷ bs) e =
    let h = heads base b bs e in
    let rest = spelled-below base (v * base + value_of b) bs h.1 in
    let one : suc (v * base + value_of b) ≤ suc v * base = omega (arith, h.0) in
    let all : suc (v * base + value_of b) * base ^ length bs ≤ suc v * base * base ^ length bs = mul-le-mul_right (base ^ length bs) one in
    let power : suc v * base * base ^ length bs ≡ suc v * base ^ suc (length bs) = mul_assoc (suc v) base (base ^ length bs) ∙ ap (λ (n : ℕ). suc v * n) (sym (pow-succ' base (length bs))) in
    omega (arith, rest, all, power)

-- a text that is no number counts as 0
pub number-below : (base most : ℕ) (s : List ℕ) → 0 < base → unwrap_or (number_in base most s) 0 < base ^ length s
unfolding number_in
number-below base most s h = by (ltb 0 (length s) && leb (length s) most) (all_below base s) (ltb (spelled_in base 0 s) (2 ^ 64)) refl
  where
    by : (x y z : Bool) → all_below base s ≡ y → unwrap_or (number_if (x && y && z) (spelled_in base 0 s)) 0 < base ^ length s
    by true true true e = omega (arith, spelled-below base 0 s e)
    by true true false e = one-le-pow (length s) base h
    by true false z e = one-le-pow (length s) base h
    by false y z e = one-le-pow (length s) base h

-- ## When a text is a number

module _ (base most : ℕ) (s : List ℕ) where
  pub empty : length s ≡ 0 → no_number_lem ≡ number_in base most s
  unfolding number_in
  empty e = let l : length s ≤ 0 = omega arith in simp (le-ltb 0 (length s) l)

  pub too_long : most < length s → no_number_lem ≡ number_in base most s
  unfolding number_in
  too_long l = simp (lt-leb (length s) most l, and-false)

  pub no-digits : all_below base s ≡ false → no_number_lem ≡ number_in base most s
  unfolding number_in
  no-digits e = simp (e, and-false)

  pub too_large : 2 ^ 64 ≤ spelled_in base 0 s → no_number_lem ≡ number_in base most s
  unfolding number_in
  too_large h = simp (le-ltb (spelled_in base 0 s) (2 ^ 64) h, and-false)

  pub a-number : 0 < length s → length s ≤ most → all_below base s ≡ true → spelled_in base 0 s < 2 ^ 64 → number_in base most s ≡ number (spelled_in base 0 s)
  unfolding number_in
  a-number l m e h = simp (lt-ltb 0 (length s) l, le-leb (length s) most m, e, lt-ltb (spelled_in base 0 s) (2 ^ 64) h)

-- ## As the code tests it

-- the largest number of 64 bits
abbrev pub largest : ℕ
largest = 0xffff_ffff_ffff_ffff

module _ (base v d m : ℕ) (pos : 0 < base) (h : d ≤ m) where
  pub fits : v ≤ (m - d) / base → v * base + d ≤ m
  fits l = let k : v * base ≤ m - d = (le-div_iff_mul-le pos).0 l in omega arith

  pub wraps : (m - d) / base < v → m < v * base + d
  wraps l = let k : m - d < v * base = (div-lt_iff_lt-mul pos).0 l in omega arith
