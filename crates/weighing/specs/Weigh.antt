-- What comes of a value in a field before a bit is written: document 01, "Writing a payload", and "At an encoded field: 12,
-- 11, 10 or 13, 3, 2", of which 12 is asked before.
use Rattle.bits.specs.declared.BitRefusal.{BitRefusal}
use Rattle.std.specs.Prelude.{ℕ, ◌+◌, ◌-◌, ◌*◌, ◌/◌, ◌%◌, Bool, true, false, not, ◌||◌, eqb, ltb, Result, Ok, Err, Option, Some, None, ⊤}
use Rattle.weighing.specs.declared.EncodeRefusal.{EncodeRefusal}
use Rattle.bits.specs.Bits.{pick}
use Rattle.bits.specs.Calls.{bits, bytes, saturated, room_of, width_max}
use Rattle.bits.specs.declared.BitRefusal.TheVariants.{TooLongForType, NonAlignedBit, OutOfBits}
use Rattle.descriptor.specs.declared.FieldDescriptor.{FieldDescriptor}
use Rattle.descriptor.specs.declared.PgnBytes.{PgnBytes}
use Rattle.descriptor.specs.declared.PgnValue.{PgnValue}
use Rattle.descriptor.specs.declared.PgnValue.TheVariants.{U64, U32, U16, U8, I64, I32, I16, I8, F64, F32, Bytes}
use Rattle.numbers.specs.Conversions.{raw_of_lem}
use Rattle.numbers.specs.declared.NumberRefusal.{NumberRefusal}
use Rattle.numbers.specs.declared.NumberRefusal.TheVariants as number
use Rattle.fields.specs.declared.Shape.{Shape}
use Rattle.fields.specs.declared.Shape.TheVariants as shape
use Rattle.fields.specs.Shapes.{shape_of}
use Rattle.tables.specs.Check.{payload_max}
use Rattle.weighing.specs.declared.EncodeRefusal.TheVariants.{BitWriteError, WrongLength, OutOfRange, WrongKind, TextTooLong}
use Rattle.weighing.specs.declared.Lead.{Lead}
use Rattle.weighing.specs.declared.Lead.TheVariants.{Bare, Counted, Encoded, Empty}
use Rattle.weighing.specs.declared.Weighed.{Weighed}
use Rattle.weighing.specs.declared.Weighed.TheVariants.{Number, Gap, Text}

-- "text up to 221"
abbrev pub text_max : ℕ
text_max = 221

-- ## 3 and 2

-- the refusal of a bit call, at field i
abbrev pub at_field_lem : Result ⊤ BitRefusal → ℕ → Result Weighed EncodeRefusal → Result Weighed EncodeRefusal
at_field_lem (Ok u) i w = w
at_field_lem (Err e) i w = Err (BitWriteError i e)

-- "Refusal 2 counts bits for the whole field": n bits from `at` on, in a buffer of so many bytes
abbrev pub if_room_lem : ℕ → ℕ → ℕ → ℕ → Result Weighed EncodeRefusal → Result Weighed EncodeRefusal
if_room_lem i size at n w = pick (ltb (size * 8) (at + n)) (Err (BitWriteError i (OutOfBits (bits n) (bits (size * 8 - at))))) w

-- "[..] need alignment": bytes that are put so many bits after bit `at`. "Sums saturate"
abbrev pub if_aligned_lem : ℕ → ℕ → ℕ → Result Weighed EncodeRefusal → Result Weighed EncodeRefusal
if_aligned_lem i at lead w = pick (eqb (at % 8) 0) w (Err (BitWriteError i (NonAlignedBit (bits (saturated (at + lead))))))

-- ## Numbers, and bits that stay ones

-- a number of the field's width; 1 where it is none, which no accepted table has
abbrev pub number_by : Result ℕ NumberRefusal → ℕ → ℕ → ℕ → ℕ → Result Weighed EncodeRefusal
number_by (Ok r) i size at w = at_field_lem (room_of size at w width_max) i (Ok (Number (bits w) r))
number_by (Err (number.BadWidth n)) i size at w = Err (BitWriteError i (TooLongForType width_max n))
number_by (Err number.OutOfRange) i size at w = Err (OutOfRange i)
number_by (Err number.WrongKind) i size at w = Err (WrongKind i)

-- "Skipped fields stay ones", and take no value
abbrev pub gap_of : FieldDescriptor → ℕ → ℕ → ℕ → Result Weighed EncodeRefusal
gap_of f i size at = at_field_lem (room_of size at f.width width_max) i (Ok (Gap (bits f.width)))

-- ## Text and bytes

-- "place + length past the lent text", of so many bytes; or longer than may be
abbrev pub too_long_lem : PgnBytes → ℕ → Bool → Bool
too_long_lem b lent over = over || ltb lent (b.start.0 + b.len.0)

-- 13, 3 where it is asked, 2; then n bits, of which the text stands so many bits after the first
abbrev pub text_by : PgnBytes → ℕ → ℕ → ℕ → ℕ → Bool → Bool → ℕ → ℕ → Lead → Result Weighed EncodeRefusal
text_by b i lent size at over aligned put n lead =
    pick (too_long_lem b lent over) (Err (TextTooLong i))
    (pick aligned (if_aligned_lem i at put (if_room_lem i size at n (Ok (Text (bits n) lead b)))) (if_room_lem i size at n (Ok (Text (bits n) lead b))))

-- "Only LAU takes an encoding byte"
abbrev pub unencoded : Option ℕ → ℕ → Result Weighed EncodeRefusal → Result Weighed EncodeRefusal
unencoded None i w = w
unencoded (Some x) i w = Err (WrongKind i)

-- "StringFix is filled with 0xFF"; it always needs alignment
abbrev pub fixed_of : PgnBytes → ℕ → ℕ → ℕ → ℕ → ℕ → Result Weighed EncodeRefusal
fixed_of b i lent size at w = unencoded b.encoding i (text_by b i lent size at (ltb (w / 8) b.len.0) true 0 (8 * (w / 8)) Bare)

-- "for Binary: not of its width"; whole bytes always need alignment
abbrev pub whole_of : PgnBytes → ℕ → ℕ → ℕ → ℕ → ℕ → Result Weighed EncodeRefusal
whole_of b i lent size at w = unencoded b.encoding i (text_by b i lent size at (not (eqb (8 * b.len.0) w)) true 0 w Bare)

-- "LZ writes length, text, zero; text up to 221"; "other non-empty text [needs] alignment"
abbrev pub lz_of : PgnBytes → ℕ → ℕ → ℕ → ℕ → Result Weighed EncodeRefusal
lz_of b i lent size at =
    unencoded b.encoding i (text_by b i lent size at (ltb text_max b.len.0) (not (eqb b.len.0 0)) 8 (16 + 8 * b.len.0) Counted)

-- "without [an encoding byte] it takes only empty text (absent): else 11. It writes length, encoding, text, up to 221; absent writes 1"
abbrev pub lau_by : Option ℕ → PgnBytes → ℕ → ℕ → ℕ → ℕ → Result Weighed EncodeRefusal
lau_by None b i lent size at = pick (eqb b.len.0 0) (text_by b i lent size at false false 0 8 Empty) (Err (WrongKind i))
lau_by (Some x) b i lent size at =
    text_by b i lent size at (ltb text_max b.len.0) (not (eqb b.len.0 0)) 16 (16 + 8 * b.len.0) (Encoded x)

-- of a value that is text or bytes; any other is 11
abbrev pub by_bytes : PgnValue → ℕ → (PgnBytes → Result Weighed EncodeRefusal) → Result Weighed EncodeRefusal
by_bytes (Bytes b) i says = says b
by_bytes (U64 n) i says = Err (WrongKind i)
by_bytes (U32 n) i says = Err (WrongKind i)
by_bytes (U16 n) i says = Err (WrongKind i)
by_bytes (U8 n) i says = Err (WrongKind i)
by_bytes (I64 z) i says = Err (WrongKind i)
by_bytes (I32 z) i says = Err (WrongKind i)
by_bytes (I16 z) i says = Err (WrongKind i)
by_bytes (I8 z) i says = Err (WrongKind i)
by_bytes (F64 x) i says = Err (WrongKind i)
by_bytes (F32 x) i says = Err (WrongKind i)

-- ## A field

abbrev pub weighed_by : Shape → FieldDescriptor → ℕ → PgnValue → ℕ → ℕ → ℕ → Result Weighed EncodeRefusal
weighed_by (shape.Number strict) f i v lent size at = number_by (raw_of_lem f v) i size at f.width
weighed_by shape.Gap f i v lent size at = gap_of f i size at
weighed_by shape.Fixed f i v lent size at = by_bytes v i (λ b. fixed_of b i lent size at f.width)
weighed_by shape.Whole f i v lent size at = by_bytes v i (λ b. whole_of b i lent size at f.width)
weighed_by shape.Lau f i v lent size at = by_bytes v i (λ b. lau_by b.encoding b i lent size at)
weighed_by shape.Lz f i v lent size at = by_bytes v i (λ b. lz_of b i lent size at)

-- 7 comes first: "encode buffer over 223 bytes"
abbrev pub if_size : ℕ → Result Weighed EncodeRefusal → Result Weighed EncodeRefusal
if_size size w = pick (ltb payload_max size) (Err (WrongLength (bytes size))) w

-- the value v in field i, at bit `at` of a buffer of `size` bytes, with a lent text of `lent` bytes
abbrev pub weighed_of : FieldDescriptor → ℕ → PgnValue → ℕ → ℕ → ℕ → Result Weighed EncodeRefusal
weighed_of f i v lent size at = if_size size (weighed_by (shape_of f) f i v lent size at)
