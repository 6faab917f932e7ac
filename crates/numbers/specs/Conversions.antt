-- Which values a number field takes, and the raw that it writes: document 01, "Raw numbers and floats".
use Rattle.std.specs.Prelude.{ℕ, ℤ, Bool, true, false, Option, Some, None, Result, Ok, Err, pos, Float}
use Rattle.std.specs.Float.{binary32, binary64}
use Rattle.std.specs.Float.Ieee.{of_int, to_bits}
use Rattle.descriptor.specs.declared.FieldDescriptor.{FieldDescriptor}
use Rattle.descriptor.specs.declared.Resolution.{Resolution}
use Rattle.descriptor.specs.declared.Resolution.TheVariants.{Unscaled, Single, Double}
use Rattle.descriptor.specs.declared.PgnValue.{PgnValue}
use Rattle.descriptor.specs.declared.PgnValue.TheVariants.{U64, U32, U16, U8, I64, I32, I16, I8, F64, F32, Bytes}
use Rattle.numbers.specs.declared.NumberRefusal.{NumberRefusal}
use Rattle.numbers.specs.declared.NumberRefusal.TheVariants.{WrongKind}
use Rattle.numbers.specs.declared.ScaleRule.{ScaleRule}
use Rattle.numbers.specs.declared.ScaleRule.TheVariants.{Plain, Counted, Lasting, Clock, Real, Flags}
use Rattle.numbers.specs.Scaling.{rule_of_lem, bits_of}
use Rattle.numbers.specs.Holds.{holds_of}
use Rattle.numbers.specs.Quantizing.{quotient_of, integer_of}

-- "A scaled field takes floats and signed integers only"
abbrev pub to_f64_of : PgnValue → Option Float
to_f64_of (F64 x) = Some x
to_f64_of (F32 x) = Some x
to_f64_of (I64 z) = Some (of_int binary64 z)
to_f64_of (I32 z) = Some (of_int binary64 z)
to_f64_of (I16 z) = Some (of_int binary64 z)
to_f64_of (I8 z) = Some (of_int binary64 z)
to_f64_of (U64 n) = None
to_f64_of (U32 n) = None
to_f64_of (U16 n) = None
to_f64_of (U8 n) = None
to_f64_of (Bytes b) = None

-- "an unscaled one takes integers of its sign"
abbrev pub to_i64_of : PgnValue → Option ℤ
to_i64_of (I64 z) = Some z
to_i64_of (I32 z) = Some z
to_i64_of (I16 z) = Some z
to_i64_of (I8 z) = Some z
to_i64_of (U64 n) = None
to_i64_of (U32 n) = None
to_i64_of (U16 n) = None
to_i64_of (U8 n) = None
to_i64_of (F64 x) = None
to_i64_of (F32 x) = None
to_i64_of (Bytes b) = None

abbrev pub to_u64_of : PgnValue → Option ℕ
to_u64_of (U64 n) = Some n
to_u64_of (U32 n) = Some n
to_u64_of (U16 n) = Some n
to_u64_of (U8 n) = Some n
to_u64_of (I64 z) = None
to_u64_of (I32 z) = None
to_u64_of (I16 z) = None
to_u64_of (I8 z) = None
to_u64_of (F64 x) = None
to_u64_of (F32 x) = None
to_u64_of (Bytes b) = None

-- "a value of another kind answers 11"
abbrev pub scaled_raw_of : Option Float → Float → ℕ → Bool → Result ℕ NumberRefusal
scaled_raw_of (Some x) r n signed = quotient_of x r n signed
scaled_raw_of None r n signed = Err WrongKind

abbrev pub signed_raw_of : Option ℤ → ℕ → Result ℕ NumberRefusal
signed_raw_of (Some z) n = integer_of n true z
signed_raw_of None n = Err WrongKind

abbrev pub unsigned_raw_of : Option ℕ → ℕ → Result ℕ NumberRefusal
unsigned_raw_of (Some m) n = integer_of n false (pos m)
unsigned_raw_of None n = Err WrongKind

-- "a Float field takes an f32 and writes its bits"; of a NaN, those of the one that the logic has
abbrev pub float_raw_of : PgnValue → Result ℕ NumberRefusal
float_raw_of (F32 x) = Ok (to_bits binary32 x)
float_raw_of (F64 x) = Err WrongKind
float_raw_of (U64 n) = Err WrongKind
float_raw_of (U32 n) = Err WrongKind
float_raw_of (U16 n) = Err WrongKind
float_raw_of (U8 n) = Err WrongKind
float_raw_of (I64 z) = Err WrongKind
float_raw_of (I32 z) = Err WrongKind
float_raw_of (I16 z) = Err WrongKind
float_raw_of (I8 z) = Err WrongKind
float_raw_of (Bytes b) = Err WrongKind

-- an unscaled field of n bits
abbrev pub whole_raw_of : ℕ → Bool → PgnValue → Result ℕ NumberRefusal
whole_raw_of n true v = signed_raw_of (to_i64_of v) n
whole_raw_of n false v = unsigned_raw_of (to_u64_of v) n

-- by the resolution: unscaled as `unscaled` says
abbrev pub resolved_of : Resolution → ℕ → Bool → PgnValue → Result ℕ NumberRefusal → Result ℕ NumberRefusal
resolved_of Unscaled n signed v unscaled = unscaled
resolved_of (Single r) n signed v unscaled = scaled_raw_of (to_f64_of v) r n signed
resolved_of (Double r) n signed v unscaled = scaled_raw_of (to_f64_of v) r n signed

-- by the kind's rule, over n bits
abbrev pub number_of : ScaleRule → Resolution → ℕ → Bool → PgnValue → Result ℕ NumberRefusal
number_of Plain r n signed v = resolved_of r n signed v (whole_raw_of n signed v)
number_of Counted r n signed v = resolved_of r n false v (whole_raw_of n false v)
number_of Lasting r n signed v = resolved_of r n signed v (whole_raw_of n false v)
number_of Clock r n signed v = resolved_of r n false v (whole_raw_of n false v)
number_of Real r n signed v = float_raw_of v
number_of Flags r n signed v = whole_raw_of n false v

-- the raw of a value in a field that holds a number
abbrev pub held_raw_of : FieldDescriptor → PgnValue → Result ℕ NumberRefusal
held_raw_of f v = number_of (rule_of_lem f.kind) f.resolution (bits_of f) f.signed v

-- in a field that holds none, every number is "a value of another kind"
abbrev pub if_held : Result (Unit {0}) NumberRefusal → Result ℕ NumberRefusal → Result ℕ NumberRefusal
if_held (Ok held) raw = raw
if_held (Err e) raw = Err e

-- `number_to_raw`: the raw of a value in a field
abbrev pub raw_of_lem : FieldDescriptor → PgnValue → Result ℕ NumberRefusal
raw_of_lem f v = if_held (holds_of f) (held_raw_of f v)
