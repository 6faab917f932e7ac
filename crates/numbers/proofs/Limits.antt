-- Limits, and the cases of quantizing: what a cut that fits answers, and one that does not. Assumes nothing.
use mathlib.Core.Path.{◌≡◌, refl, sym, ap, ◌∙◌}
use mathlib.Core.Bool.{Bool, true, false, true≢false, false≢true}
use Prim.Native.Nat.{ℕ, ◌+◌, ◌-◌, ◌*◌, ◌/◌, ◌^◌, ◌≤◌}
use native.Mathlib.Omega.{arith}
use lib.Dec.{leb, ltb}
use lib.IntN.{ℤ, pos, negsuc, nat_abs}
use lib.Pow.{pow_mono}
use lib.Signed.{lt_z}
use lib.Ieee.{Float, nan, inf, fin, up, down, div, binary64}
use Rattle.std.specs.Float.{float_is_finite}
use Rattle.std.specs.Prelude.{Option, Some, None, Result, Ok, Err}
use borrow.Author.Tests.{le-ltb}
use Rattle.bits.specs.Bits.{pick}
use Rattle.rounding.specs.declared.Truncated.{Truncated}
use Rattle.rounding.specs.Truncation.{half_away_of, cut_to, truncated_of, below64}
use Rattle.numbers.specs.declared.NumberRefusal.{NumberRefusal}
use Rattle.numbers.specs.declared.NumberRefusal.TheVariants.{BadWidth, OutOfRange, WrongKind}
use Rattle.numbers.specs.Holds.{is_width_lem}
use Rattle.numbers.specs.Quantizing.{limit_of_lem, complement_of, exactly_of, nearly_of, cut_of, rounded_of, quotient_of, quantize_of, integer_of}

-- a limit of n bits is at most 2 ^ n
pub limit-le : (n : ℕ) (signed negative : Bool) → limit_of_lem n signed negative ≤ 2 ^ n
limit-le n true true = pow_mono (omega arith)
limit-le n false true = omega arith
limit-le n true false = let h : 2 ^ (n - 1) ≤ 2 ^ n = pow_mono (omega arith) in omega arith
limit-le n false false = omega arith

-- an integer by its sign and magnitude
pub by_sign : (n : ℕ) (z : ℤ) → exactly_of n true (lt_z z (pos 0)) (nat_abs z) ≡ integer_of n true z
by_sign n (pos m) = ap (λ (b : Bool). exactly_of n true b m) (le-ltb m 0 (omega arith))
by_sign n (negsuc m) = refl

-- a quotient that is finite, and one that is not
pub rounded-finite : (n : ℕ) (signed : Bool) (q : Float) → float_is_finite q ≡ true → cut_of n signed (half_away_of q) ≡ rounded_of n signed q
unfolding float_is_finite
rounded-finite n signed nan h = absurd (false≢true h)
rounded-finite n signed (inf s) h = absurd (false≢true h)
rounded-finite n signed (fin s m e) h = refl

pub rounded-infinite : (n : ℕ) (signed : Bool) (q : Float) → float_is_finite q ≡ false → Err OutOfRange ≡ rounded_of n signed q
unfolding float_is_finite
rounded-infinite n signed nan h = refl
rounded-infinite n signed (inf s) h = refl
rounded-infinite n signed (fin s m e) h = absurd (true≢false h)

-- what comes of a whole part
abbrev of_part : ℕ → Bool → Option Truncated → Result ℕ NumberRefusal
of_part n signed (Some w) = nearly_of n signed w.negative w.magnitude
of_part n signed None = Err OutOfRange

-- a float whose whole part fits 64 bits
taken : (n : ℕ) (signed : Bool) (b s t : Bool) (x y : ℕ) → below64 b (cut_to s x) ≡ cut_to t y → nearly_of n signed t y ≡ nearly_of n signed s x
taken n signed true s t x y h = sym (ap (of_part n signed) h)
taken n signed false s t x y h = let z : ◌≡◌ {A = ℕ} 0 1 = cc in absurd (omega arith)

pub cut_fits : (n : ℕ) (signed : Bool) (y : Float) (s : Bool) (x : ℕ) → truncated_of y ≡ cut_to s x → nearly_of n signed s x ≡ cut_of n signed y
unfolding truncated_of
cut_fits n signed nan s x h = let z : ◌≡◌ {A = ℕ} 0 1 = cc in absurd (omega arith)
cut_fits n signed (inf t) s x h = let z : ◌≡◌ {A = ℕ} 0 1 = cc in absurd (omega arith)
cut_fits n signed (fin t m e) s x h = taken n signed (ltb (m * up e / down e) (2 ^ 64)) t s (m * up e / down e) x h

-- a value of a scaled field is never of the wrong kind: of the refusals only 1 and 10 are answered
abbrev kindly : Result ℕ NumberRefusal → Bool
kindly (Ok raw) = true
kindly (Err (BadWidth n)) = true
kindly (Err OutOfRange) = true
kindly (Err WrongKind) = false

nearly-kindly : (n : ℕ) (signed negative : Bool) (m : ℕ) → kindly (nearly_of n signed negative m) ≡ true
nearly-kindly n signed negative m =
    let limit = limit_of_lem n signed negative in
    go (leb m limit) (ltb 53 n) (leb m (limit + 2 ^ (n - 53))) (complement_of n negative m) (complement_of n negative limit)
  where
    go : (a b c : Bool) (x y : ℕ) → kindly (pick a (Ok x) (pick b (pick c (Ok y) (Err OutOfRange)) (Err OutOfRange))) ≡ true
    go true b c x y = refl
    go false true true x y = refl
    go false true false x y = refl
    go false false c x y = refl

cut-kindly : (n : ℕ) (signed : Bool) (y : Float) → kindly (cut_of n signed y) ≡ true
cut-kindly n signed nan = refl
cut-kindly n signed (inf s) = refl
cut-kindly n signed (fin s m e) = nearly-kindly n signed s (m * up e / down e)

rounded-kindly : (n : ℕ) (signed : Bool) (q : Float) → kindly (rounded_of n signed q) ≡ true
rounded-kindly n signed nan = refl
rounded-kindly n signed (inf s) = refl
rounded-kindly n signed (fin s m e) = cut-kindly n signed (half_away_of (fin s m e))

pub quantized-kind : (v r : Float) (n : ℕ) (signed : Bool) → quantize_of v r n signed ≡ Err WrongKind → ⊥
quantized-kind v r n signed h = go (is_width_lem n) (rounded-kindly n signed (div binary64 v r)) h
  where
    go : (b : Bool) → kindly (quotient_of v r n signed) ≡ true → pick b (quotient_of v r n signed) (Err (BadWidth n)) ≡ Err WrongKind → ⊥
    go true k e = true≢false (sym k ∙ ap kindly e)
    go false k e = true≢false (ap kindly e)
