-- The value of a number field's raw: document 01, "Raw numbers and floats".
use Rattle.std.specs.Prelude.{ℕ, ◌%◌, ◌^◌, min, Bool, true, false, leb, ℤ, pos, Float}
use Rattle.std.specs.Float.{binary32, binary64}
use Rattle.std.specs.Float.Ieee.{of_int, mul, of_bits}
use Rattle.bits.specs.Bits.{pick}
use Rattle.rounding.specs.Narrowing.{narrow_of}
use Rattle.descriptor.specs.declared.FieldKind.{FieldKind}
use Rattle.descriptor.specs.declared.FieldKind.TheVariants as kind
use Rattle.descriptor.specs.declared.FieldDescriptor.{FieldDescriptor}
use Rattle.descriptor.specs.declared.Resolution.{Resolution}
use Rattle.descriptor.specs.declared.Resolution.TheVariants.{Unscaled, Single, Double}
use Rattle.descriptor.specs.declared.PgnValue.{PgnValue}
use Rattle.descriptor.specs.declared.PgnValue.TheVariants.{U64, U32, U16, U8, I64, I32, I16, I8, F64, F32}
use Rattle.numbers.specs.Signs.{meaning_of}
use Rattle.numbers.specs.declared.ScaleRule.{ScaleRule}
use Rattle.numbers.specs.declared.ScaleRule.TheVariants.{Plain, Counted, Lasting, Clock, Real, Flags}

-- "Unscaled numbers take the 8, 16, 32 or 64-bit kind that the width fits"
abbrev pub unsigned_of : ℕ → ℕ → PgnValue
unsigned_of n raw = pick (leb n 8) (U8 raw) (pick (leb n 16) (U16 raw) (pick (leb n 32) (U32 raw) (U64 raw)))

abbrev pub signed_value_of : ℕ → ℤ → PgnValue
signed_value_of n z = pick (leb n 8) (I8 z) (pick (leb n 16) (I16 z) (pick (leb n 32) (I32 z) (I64 z)))

abbrev pub whole_of : ℕ → Bool → ℕ → PgnValue
whole_of n true raw = signed_value_of n (meaning_of n true raw)
whole_of n false raw = unsigned_of n raw

-- "Duration starts at 16 bits"
abbrev pub duration_of : ℕ → ℕ → PgnValue
duration_of n raw = pick (leb n 16) (U16 raw) (pick (leb n 32) (U32 raw) (U64 raw))

-- a whole number times a resolution, in f64
abbrev pub product_of : ℤ → Float → Float
product_of z r = mul binary64 (of_int binary64 z) r

-- "single is raw rounded to f32 times the resolution in f32; double does both in f64"
abbrev pub plain_of : Resolution → ℕ → Bool → ℕ → PgnValue
plain_of Unscaled n signed raw = whole_of n signed raw
plain_of (Single r) n signed raw = F32 (mul binary32 (of_int binary32 (meaning_of n signed raw)) r)
plain_of (Double r) n signed raw = F64 (product_of (meaning_of n signed raw) r)

-- "Date, Mmsi and Duration multiply in f64; single then narrows once"
abbrev pub counted_of : Resolution → ℕ → ℕ → PgnValue
counted_of Unscaled n raw = unsigned_of n raw
counted_of (Single r) n raw = F32 (narrow_of (product_of (pos raw) r))
counted_of (Double r) n raw = F64 (product_of (pos raw) r)

abbrev pub lasting_of : Resolution → ℕ → Bool → ℕ → PgnValue
lasting_of Unscaled n signed raw = duration_of n raw
lasting_of (Single r) n signed raw = F32 (narrow_of (product_of (meaning_of n signed raw) r))
lasting_of (Double r) n signed raw = F64 (product_of (meaning_of n signed raw) r)

-- "Time is always f64", "Time is 64"
abbrev pub clock_of : Resolution → ℕ → PgnValue
clock_of Unscaled raw = U64 raw
clock_of (Single r) raw = F64 (product_of (pos raw) r)
clock_of (Double r) raw = F64 (product_of (pos raw) r)

-- which rule a kind follows. A Binary that is no whole bytes follows that of BitLookup, and so does a kind that has no number, which is never asked
abbrev pub rule_of_lem : FieldKind → ScaleRule
rule_of_lem kind.Number = Plain
rule_of_lem kind.Lookup = Plain
rule_of_lem kind.IndirectLookup = Plain
rule_of_lem kind.Pgn = Plain
rule_of_lem kind.IsoName = Plain
rule_of_lem kind.Date = Counted
rule_of_lem kind.Mmsi = Counted
rule_of_lem kind.Duration = Lasting
rule_of_lem kind.Time = Clock
rule_of_lem kind.Float = Real
rule_of_lem kind.BitLookup = Flags
rule_of_lem kind.Binary = Flags
rule_of_lem kind.Decimal = Flags
rule_of_lem kind.StringFix = Flags
rule_of_lem kind.StringLz = Flags
rule_of_lem kind.StringLau = Flags
rule_of_lem kind.Reserved = Flags
rule_of_lem kind.Spare = Flags
rule_of_lem kind.Unimplemented = Flags

-- the value of a raw of n bits
abbrev pub scaled_of : ScaleRule → Resolution → ℕ → Bool → ℕ → PgnValue
scaled_of Plain r n signed raw = plain_of r n signed raw
scaled_of Counted r n signed raw = counted_of r n raw
scaled_of Lasting r n signed raw = lasting_of r n signed raw
scaled_of Clock r n signed raw = clock_of r raw
scaled_of Real r n signed raw = F32 (of_bits binary32 (raw % 2 ^ 32))
scaled_of Flags r n signed raw = unsigned_of n raw

-- how many bits of a raw count: the field's width, at most 64
abbrev pub bits_of : FieldDescriptor → ℕ
bits_of f = min f.width 64

-- `scale_raw_field`
abbrev pub scale_of : FieldDescriptor → ℕ → PgnValue
scale_of f raw = scaled_of (rule_of_lem f.kind) f.resolution (bits_of f) f.signed (raw % 2 ^ bits_of f)
