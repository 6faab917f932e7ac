-- A raw that a value is written as fits its field: it is below 2 ^ width. Assumes nothing.
use mathlib.Core.Path.{◌≡◌, refl, sym, ap, subst, ◌∙◌}
use mathlib.Core.Bool.{Bool, true, false}
use Prim.Native.Nat.{ℕ, suc, ◌+◌, ◌-◌, ◌*◌, ◌/◌, ◌^◌, ◌≤◌, ◌<◌, min}
use native.Mathlib.Nat.{mod-lt, lt_of_lt_of_le}
use native.Mathlib.Omega.{arith}
use Rattle.std.specs.Prelude.{Option, Some, None, Result, Ok, Err}
use lib.Dec.{leb, ltb}
use lib.IntN.{ℤ, pos, negsuc}
use lib.Pow.{pow_pos, pow_mono}
use lib.Ieee.{Float, nan, inf, fin, binary32, binary64, div, up, down, to_bits}
use lib.Ieee.Bits.{to_bits-lt}
use borrow.Author.Tests.{leb-true}
use Rattle.bits.specs.Bits.{pick}
use Rattle.rounding.specs.Truncation.{half_away_of}
use Rattle.descriptor.specs.declared.FieldDescriptor.{FieldDescriptor}
use Rattle.descriptor.specs.declared.Resolution.{Resolution}
use Rattle.descriptor.specs.declared.Resolution.TheVariants.{Unscaled, Single, Double}
use Rattle.descriptor.specs.declared.PgnValue.{PgnValue}
use Rattle.descriptor.specs.declared.PgnValue.TheVariants.{U64, U32, U16, U8, I64, I32, I16, I8, F64, F32, Bytes}
use Rattle.numbers.specs.declared.NumberRefusal.{NumberRefusal}
use Rattle.numbers.specs.declared.NumberRefusal.TheVariants.{BadWidth, OutOfRange, WrongKind}
use Rattle.numbers.specs.declared.ScaleRule.{ScaleRule}
use Rattle.numbers.specs.declared.ScaleRule.TheVariants.{Plain, Counted, Lasting, Clock, Real, Flags}
use Rattle.numbers.specs.Special.{top_of}
use Rattle.numbers.specs.Scaling.{rule_of_lem, bits_of}
use Rattle.numbers.specs.Held.{Held}
use Rattle.numbers.specs.Holds.{holds_of}
use Rattle.numbers.specs.Quantizing.{limit_of_lem, complement_of, exactly_of, nearly_of, cut_of, rounded_of, integer_of}
use Rattle.numbers.specs.Conversions.{to_f64_of, to_i64_of, to_u64_of, scaled_raw_of, signed_raw_of, unsigned_raw_of, float_raw_of, whole_raw_of, resolved_of, number_of, held_raw_of, raw_of_lem}
use Rattle.numbers.proofs.Numeric.{given-held}

-- ## Quantizing

top_lt : (n : ℕ) (signed : Bool) → top_of n signed < 2 ^ n
top_lt n true = let a : 2 ^ (n - 1) ≤ 2 ^ n = pow_mono (omega arith) in let b = pow_pos n in omega arith
top_lt n false = let b = pow_pos n in omega arith

-- a whole number within the limits
complement-lt : (n : ℕ) (signed negative : Bool) (m : ℕ) → m ≤ limit_of_lem n signed negative → complement_of n negative m < 2 ^ n
complement-lt n signed true m h = mod-lt (2 ^ n - m) (pow_pos n)
complement-lt n signed false m h = let a = top_lt n signed in omega arith

-- ## What a rule gives: a raw of which P holds, 10 or 11, never 1

module _ (n : ℕ) (P : ℕ → Type 0) (whole : (signed negative : Bool) (m : ℕ) → m ≤ limit_of_lem n signed negative → P (complement_of n negative m)) where
  abbrev Within : Result ℕ NumberRefusal → Type 0
  Within (Ok r) = P r
  Within (Err (BadWidth w)) = ⊥
  Within (Err OutOfRange) = Unit {0}
  Within (Err WrongKind) = Unit {0}

  picked : (b : Bool) (x y : Result ℕ NumberRefusal) → (b ≡ true → Within x) → Within y → Within (pick b x y)
  picked true x y h k = h refl
  picked false x y h k = k

  exactly-within : (signed negative : Bool) (m : ℕ) → Within (exactly_of n signed negative m)
  exactly-within signed negative m = picked (leb m (limit_of_lem n signed negative)) _ _ (λ h. whole signed negative m (leb-true _ _ h)) tt

  nearly-within : (signed negative : Bool) (m : ℕ) → Within (nearly_of n signed negative m)
  nearly-within signed negative m =
      let limit = limit_of_lem n signed negative in
      picked (leb m limit) _ _ (λ h. whole signed negative m (leb-true _ _ h))
      (picked (ltb 53 n) _ _ (λ _. picked (leb m (limit + 2 ^ (n - 53))) _ _ (λ _. whole signed negative limit (omega arith)) tt) tt)

  cut-within : (signed : Bool) (x : Float) → Within (cut_of n signed x)
  cut-within signed nan = tt
  cut-within signed (inf s) = tt
  cut-within signed (fin s m e) = nearly-within signed s (m * up e / down e)

  rounded-within : (signed : Bool) (x : Float) → Within (rounded_of n signed x)
  rounded-within signed nan = tt
  rounded-within signed (inf s) = tt
  rounded-within signed (fin s m e) = cut-within signed (half_away_of (fin s m e))

  integer-within : (signed : Bool) (z : ℤ) → Within (integer_of n signed z)
  integer-within signed (pos m) = exactly-within signed false m
  integer-within signed (negsuc m) = exactly-within signed true (suc m)

  scaled-below : (a : Option Float) (r : Float) (signed : Bool) → Within (scaled_raw_of a r n signed)
  scaled-below (Some x) r signed = rounded-within signed (div binary64 x r)
  scaled-below None r signed = tt

  signed_below : (a : Option ℤ) → Within (signed_raw_of a n)
  signed_below (Some z) = integer-within true z
  signed_below None = tt

  unsigned-below : (a : Option ℕ) → Within (unsigned_raw_of a n)
  unsigned-below (Some m) = integer-within false (pos m)
  unsigned-below None = tt

  whole_below : (signed : Bool) (v : PgnValue) → Within (whole_raw_of n signed v)
  whole_below true v = signed_below (to_i64_of v)
  whole_below false v = unsigned-below (to_u64_of v)

  resolved-below : (r : Resolution) (signed : Bool) (v : PgnValue) (unscaled : Result ℕ NumberRefusal) → Within unscaled → Within (resolved_of r n signed v unscaled)
  resolved-below Unscaled signed v unscaled h = h
  resolved-below (Single r) signed v unscaled h = scaled-below (to_f64_of v) r signed
  resolved-below (Double r) signed v unscaled h = scaled-below (to_f64_of v) r signed

  number-below : (rule : ScaleRule) (r : Resolution) (signed : Bool) (v : PgnValue) → (rule ≡ Real → Within (float_raw_of v)) → Within (number_of rule r n signed v)
  number-below Plain r signed v h = resolved-below r signed v (whole_raw_of n signed v) (whole_below signed v)
  number-below Counted r signed v h = resolved-below r false v (whole_raw_of n false v) (whole_below false v)
  number-below Lasting r signed v h = resolved-below r signed v (whole_raw_of n false v) (whole_below false v)
  number-below Clock r signed v h = resolved-below r false v (whole_raw_of n false v) (whole_below false v)
  number-below Real r signed v h = h refl
  number-below Flags r signed v h = whole_below false v

  -- of a Float's bits, if P holds of them
  float_below : (v : PgnValue) → ((x : Float) → v ≡ F32 x → P (to_bits binary32 x)) → Within (float_raw_of v)
  float_below (F32 x) h = h x refl
  float_below (F64 x) h = tt
  float_below (U64 m) h = tt
  float_below (U32 m) h = tt
  float_below (U16 m) h = tt
  float_below (U8 m) h = tt
  float_below (I64 z) h = tt
  float_below (I32 z) h = tt
  float_below (I16 z) h = tt
  float_below (I8 z) h = tt
  float_below (Bytes b) h = tt

  below-raw : (q : Result ℕ NumberRefusal) (r : ℕ) → q ≡ Ok r → Within q → P r
  below-raw q r e h = rw e at h

-- ## A raw fits its field

-- n bits that a rule's raws go into: those of a Float are of 32
abbrev pub Wide : ScaleRule → ℕ → Type 0
Wide Real n = 32 ≤ n
Wide Plain n = Unit {0}
Wide Counted n = Unit {0}
Wide Lasting n = Unit {0}
Wide Clock n = Unit {0}
Wide Flags n = Unit {0}

-- a machine's f32 has 32 bits
float_lt : (n : ℕ) (v : PgnValue) → Held v → 32 ≤ n → (x : Float) → v ≡ F32 x → to_bits binary32 x < 2 ^ n
float_lt n v h l x e = lt_of_lt_of_le (to_bits-lt binary32 x (subst Held e h)) (pow_mono {i = 32} l)

-- of a field of 64 bits at most; a Float's has 32 or more
pub raw-below : (f : FieldDescriptor) (v : PgnValue) (r : ℕ) → Held v → f.width ≤ 64 → Wide (rule_of_lem f.kind) f.width → raw_of_lem f v ≡ Ok r → r < 2 ^ f.width
raw-below f v r h l w given =
    let n = f.width in
    let P : ℕ → Type 0 = λ x. x < 2 ^ n in
    let rule = rule_of_lem f.kind in
    let e = given-held (holds_of f) (held_raw_of f v) r given in
    let q : min n 64 ≡ n = omega arith in
    below-raw n P (complement-lt n) (number_of rule f.resolution n f.signed v) r
    (sym (ap (λ (k : ℕ). number_of rule f.resolution k f.signed v) q) ∙ e)
    (number-below n P (complement-lt n) rule f.resolution f.signed v
    (λ k. float_below n P (complement-lt n) v (float_lt n v h (subst (λ (x : ScaleRule). Wide x n) k w))))

-- ## A field that holds a number never gives 1

pub no-width : (f : FieldDescriptor) (v : PgnValue) (w : ℕ) → held_raw_of f v ≡ Err (BadWidth w) → ⊥
no-width f v w e =
    let P : ℕ → Type 0 = λ x. Unit {0} in
    let any : (signed negative : Bool) (m : ℕ) → m ≤ limit_of_lem (bits_of f) signed negative → P (complement_of (bits_of f) negative m) = λ signed negative m l. tt in
    let b = number-below (bits_of f) P any (rule_of_lem f.kind) f.resolution f.signed v (λ k. float_below (bits_of f) P any v (λ x j. tt)) in
    rw e at b
