-- A raw means the number that it was written for: what a whole number is written as (`complement_of`) and what a raw means (`meaning_of`) undo one another, for
-- both signs, at every width from 1 on. Assumes nothing.
use mathlib.Core.Path.{◌≡◌, refl, sym, ap, ◌∙◌}
use mathlib.Core.Bool.{Bool, true, false}
use mathlib.Core.Logic.{⊎_elim}
use Prim.Native.Nat.{ℕ, zero, suc, ◌+◌, ◌-◌, ◌%◌, ◌^◌, ◌≤◌, ◌<◌, min}
use native.Mathlib.Nat.{mod-eq_of_lt, mod_self, sub-zero}
use native.Mathlib.Omega.{arith}
use lib.Dec.{leb, ltb}
use lib.IntN.{ℤ, pos, negsuc, neg_ℤ}
use lib.Pow.{pow_pos}
use borrow.Author.Tests.{leb-true, leb-false, le-leb}
use Rattle.std.specs.Prelude.{Ok, Err}
use Rattle.bits.specs.Bits.{pick}
use Rattle.bits.proofs.Written.{below}
use Rattle.numbers.specs.Signs.{meaning_of}
use Rattle.numbers.specs.declared.NumberRefusal.TheVariants.{OutOfRange}
use Rattle.numbers.specs.Quantizing.{limit_of_lem, complement_of, exactly_of, nearly_of, integer_of}
use Rattle.numbers.proofs.Widths.{double, clear, set, some}

-- the whole number of a sign and a magnitude
abbrev pub whole : Bool → ℕ → ℤ
whole false m = pos m
whole true m = neg_ℤ (pos m)

-- ## A number within the limits

-- −0 is 0
none_below : (n : ℕ) → complement_of n true 0 ≡ 0
none_below n = rw sub-zero (mod_self (2 ^ n))

-- −m as a raw has its top bit set
below-zero : (n m : ℕ) → 1 ≤ n → suc m ≤ 2 ^ (n - 1) → meaning_of n true (complement_of n true (suc m)) ≡ negsuc m
below-zero n m l h =
    let d = double n (λ z. omega arith) in
    let raw = 2 ^ n - suc m in
    let same : raw % 2 ^ n ≡ raw = mod-eq_of_lt (omega arith) in
    let back : 2 ^ n - suc raw ≡ m = omega arith in
    ap (meaning_of n true) same ∙ set n raw (omega arith) (omega arith) ∙ ap negsuc back

-- the raw of a whole number within the limits means that number
pub means : (n : ℕ) (signed negative : Bool) (m : ℕ) → 1 ≤ n → m ≤ limit_of_lem n signed negative → meaning_of n signed (complement_of n negative m) ≡ whole negative m
means n false false m l h = refl
means n false true zero l h = ap pos (none_below n)
means n false true (suc m) l h = absurd (omega arith)
means n true false m l h = let p = pow_pos (n - 1) in clear n m (omega arith)
means n true true zero l h = ap (meaning_of n true) (none_below n) ∙ clear n 0 (pow_pos (n - 1))
means n true true (suc m) l h = below-zero n m l h

-- ## The raw that a number is written as

module _ (n : ℕ) (signed negative : Bool) (m r : ℕ) (wide : 1 ≤ n) where
  exactly-by : (b : Bool) → leb m (limit_of_lem n signed negative) ≡ b → pick b (Ok (complement_of n negative m)) (Err OutOfRange) ≡ Ok r → meaning_of n signed r ≡ whole negative m
  exactly-by true t e = let same : complement_of n negative m ≡ r = cc in ap (meaning_of n signed) (sym same) ∙ means n signed negative m wide (leb-true _ _ t)
  exactly-by false t e = let z : ◌≡◌ {A = ℕ} 0 1 = cc in absurd (omega arith)

  -- a whole number that a field takes, by its sign and magnitude
  pub exactly-means : exactly_of n signed negative m ≡ Ok r → meaning_of n signed r ≡ whole negative m
  exactly-means e = exactly-by (leb m (limit_of_lem n signed negative)) refl e

  nearly-by : (b c d : Bool) → leb m (limit_of_lem n signed negative) ≡ b
      → pick b (Ok (complement_of n negative m)) (pick c (pick d (Ok (complement_of n negative (limit_of_lem n signed negative))) (Err OutOfRange)) (Err OutOfRange)) ≡ Ok r
      → meaning_of n signed r ≡ whole negative (min m (limit_of_lem n signed negative))
  nearly-by true c d t e =
      let h = leb-true m (limit_of_lem n signed negative) t in
      let at : m ≡ min m (limit_of_lem n signed negative) = omega arith in
      exactly-by true t e ∙ ap (whole negative) at
  nearly-by false true true t e =
      let limit = limit_of_lem n signed negative in
      let same : complement_of n negative limit ≡ r = cc in
      let h = leb-false m limit t in
      let at : limit ≡ min m limit = omega arith in
      ap (meaning_of n signed) (sym same) ∙ means n signed negative limit wide (omega arith) ∙ ap (whole negative) at
  nearly-by false true false t e = let z : ◌≡◌ {A = ℕ} 0 1 = cc in absurd (omega arith)
  nearly-by false false d t e = let z : ◌≡◌ {A = ℕ} 0 1 = cc in absurd (omega arith)

  -- a quotient that was cut: the raw means its whole part, or the limit where that lies beyond it
  pub nearly-means : nearly_of n signed negative m ≡ Ok r → meaning_of n signed r ≡ whole negative (min m (limit_of_lem n signed negative))
  nearly-means e = let limit = limit_of_lem n signed negative in nearly-by (leb m limit) (ltb 53 n) (leb m (limit + 2 ^ (n - 53))) refl e

-- an integer that an unscaled field takes
pub integer-means : (n : ℕ) (signed : Bool) (z : ℤ) (r : ℕ) → 1 ≤ n → integer_of n signed z ≡ Ok r → meaning_of n signed r ≡ z
integer-means n signed (pos m) r l e = exactly-means n signed false m r l e
integer-means n signed (negsuc m) r l e = exactly-means n signed true (suc m) r l e

-- ## The number that a raw means

-- a raw with its top bit set
top-raw : (n r : ℕ) → 2 ^ (n - 1) ≤ r → r < 2 ^ n → integer_of n true (negsuc (2 ^ n - suc r)) ≡ Ok r
top-raw n r h l =
    let d = double n (some n r h l) in
    let m = suc (2 ^ n - suc r) in
    let at : 2 ^ n - m ≡ r = omega arith in
    let back : complement_of n true m ≡ r = ap (λ (x : ℕ). x % 2 ^ n) at ∙ mod-eq_of_lt l in
    ap (λ (b : Bool). pick b (Ok (complement_of n true m)) (Err OutOfRange)) (le-leb m (2 ^ (n - 1)) (omega arith)) ∙ ap Ok back

-- a raw of n bits is the raw of the number that it means: so none is refused, and none is of two numbers
pub raw_of-meaning : (n : ℕ) (signed : Bool) (r : ℕ) → r < 2 ^ n → integer_of n signed (meaning_of n signed r) ≡ Ok r
raw_of-meaning n false r l = ap (λ (b : Bool). pick b (Ok r) (Err OutOfRange)) (le-leb r (2 ^ n - 1) (omega arith))
raw_of-meaning n true r l =
    ⊎_elim
    (λ (h : r < 2 ^ (n - 1)). ap (integer_of n true) (clear n r h) ∙ ap (λ (b : Bool). pick b (Ok r) (Err OutOfRange)) (le-leb r (2 ^ (n - 1) - 1) (omega arith)))
    (λ (h : 2 ^ (n - 1) ≤ r). ap (integer_of n true) (set n r h l) ∙ top-raw n r h l)
    (below r (2 ^ (n - 1)))
