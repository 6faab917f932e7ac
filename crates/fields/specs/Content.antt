-- What is read of a field, from its own bits alone: document 01, "Reading a payload", "A reading has ..".
use Rattle.std.specs.Prelude.{ℕ, ◌+◌, ◌-◌, ◌*◌, ◌/◌, Bool, true, false, ◌||◌, ltb, eqb, Option, Some, None, Result, Ok, Err, ⊤}
use Rattle.bits.specs.Bits.{pick}
use Rattle.bits.specs.Calls.{bits, bytes}
use Rattle.bits.specs.declared.BitRefusal.{BitRefusal}
use Rattle.descriptor.specs.declared.FieldDescriptor.{FieldDescriptor}
use Rattle.descriptor.specs.declared.PgnBytes.{PgnBytes}
use Rattle.descriptor.specs.declared.PgnValue.{PgnValue}
use Rattle.descriptor.specs.declared.PgnValue.TheVariants.{U64, U32, U16, U8, I64, I32, I16, I8, F64, F32, Bytes}
use Rattle.descriptor.specs.declared.Availability.{Availability}
use Rattle.descriptor.specs.declared.Availability.TheVariants.{Available, NotAvailable}
use Rattle.numbers.specs.Scaling.{scale_of}
use Rattle.numbers.specs.Special.{number_availability_of}
use Rattle.fields.specs.declared.DecodeRefusal.{DecodeRefusal}
use Rattle.fields.specs.declared.DecodeRefusal.TheVariants.{BitReaderError}
use Rattle.fields.specs.declared.Shape.{Shape}
use Rattle.fields.specs.declared.Shape.TheVariants.{Number, Gap, Fixed, Whole, Lau, Lz}
use Rattle.fields.specs.declared.FieldRead.{FieldRead}
use Rattle.fields.specs.declared.FieldRead.TheVariants.{Got, Skipped}
use Rattle.fields.specs.Payload.{Payload}
use Rattle.fields.specs.Shapes.{shape_of}
use Rattle.fields.specs.Taken.{taken_of}

-- "its byte place in the working payload (0 if empty) and its length"
abbrev pub text_at_lem : ℕ → ℕ → Option ℕ → PgnValue
text_at_lem place n enc = Bytes (record { start = bytes (pick (eqb n 0) 0 place); len = bytes n; encoding = enc })

-- "an encoding byte, if read, is kept": of a StringLau that takes n bits from `at` on
abbrev pub encoding_in_lem : Payload → ℕ → ℕ → Option ℕ
encoding_in_lem p at n = pick (ltb n 16) None (Some (p.bits (at + 8) 8))

-- "raw (or none)": of the n bits from `at` on
abbrev pub raw_in : Shape → Payload → ℕ → ℕ → Option ℕ
raw_in (Number strict) p at n = Some (p.bits at n)
raw_in Gap p at n = None
raw_in Fixed p at n = None
raw_in Whole p at n = None
raw_in Lau p at n = None
raw_in Lz p at n = None

-- "value"; a skipped field has none, and what stands here for it is never looked at
abbrev pub value_in : Shape → FieldDescriptor → Payload → ℕ → ℕ → PgnValue
value_in (Number strict) f p at n = scale_of f (p.bits at n)
value_in Gap f p at n = text_at_lem 0 0 None
value_in Fixed f p at n = text_at_lem (at / 8) (n / 8) None
value_in Whole f p at n = text_at_lem (at / 8) (n / 8) None
value_in Lau f p at n = text_at_lem (at / 8 + 2) (n / 8 - 2) (encoding_in_lem p at n)
value_in Lz f p at n = text_at_lem (at / 8 + 1) (p.bits at 8) None

-- "0xFF, 0x40 or 0x00", which end a StringFix
abbrev pub ends : ℕ → Bool
ends byte = eqb byte 0xff || (eqb byte 0x40 || eqb byte 0)

-- not available if so
abbrev pub unless : Bool → Availability
unless true = NotAvailable
unless false = Available

-- "a StringFix empty up to the first 0xFF, 0x40 or 0x00"
abbrev pub fixed_says_lem : Payload → PgnBytes → Availability
fixed_says_lem p b = unless (eqb b.len.0 0 || ends (p.bits (8 * b.start.0) 8))

-- "LAU with no text; empty LZ"
abbrev pub text_says_lem : PgnBytes → Availability
text_says_lem b = unless (eqb b.len.0 0)

-- of a value that is a text; one that is none says nothing against it
abbrev pub by_text : PgnValue → (PgnBytes → Availability) → Availability
by_text (Bytes b) says = says b
by_text (U64 n) says = Available
by_text (U32 n) says = Available
by_text (U16 n) says = Available
by_text (U8 n) says = Available
by_text (I64 z) says = Available
by_text (I32 z) says = Available
by_text (I16 z) says = Available
by_text (I8 z) says = Available
by_text (F64 x) says = Available
by_text (F32 x) says = Available

-- by the raw, if there is one
abbrev pub by_raw : FieldDescriptor → Option ℕ → Availability
by_raw f (Some r) = number_availability_of f r
by_raw f None = Available

-- "Not available: .. All else is available"
abbrev pub availability_by : Shape → Payload → FieldDescriptor → Option ℕ → PgnValue → Availability
availability_by (Number strict) p f r v = by_raw f r
availability_by Gap p f r v = Available
availability_by Fixed p f r v = by_text v (fixed_says_lem p)
availability_by Whole p f r v = Available
availability_by Lau p f r v = by_text v text_says_lem
availability_by Lz p f r v = by_text v text_says_lem

abbrev pub availability_of : Payload → FieldDescriptor → Option ℕ → PgnValue → Availability
availability_of p f r v = availability_by (shape_of f) p f r v

-- what a bit call refused: "1 to 3 also name the field"
abbrev pub refused_of : ℕ → BitRefusal → Result FieldRead DecodeRefusal
refused_of i e = Err (BitReaderError i e)

-- n bytes at a place, of a field that takes so many bits, if there is room for them: what the code goes by; proofs/Spelled.antt ties it
-- to the definitions below
abbrev pub text_read_lem : Result ⊤ BitRefusal → ℕ → ℕ → ℕ → ℕ → Option ℕ → Result FieldRead DecodeRefusal
text_read_lem (Ok u) i taken place n enc = Ok (Got (bits taken) None (text_at_lem place n enc))
text_read_lem (Err e) i taken place n enc = refused_of i e

-- a field that takes the n bits from `at` on: "Reserved and Spare are skipped"
abbrev pub read_as : Shape → FieldDescriptor → Payload → ℕ → ℕ → FieldRead
read_as (Number strict) f p at n = Got (bits n) (raw_in (Number strict) p at n) (value_in (Number strict) f p at n)
read_as Gap f p at n = Skipped (bits n)
read_as Fixed f p at n = Got (bits n) (raw_in Fixed p at n) (value_in Fixed f p at n)
read_as Whole f p at n = Got (bits n) (raw_in Whole p at n) (value_in Whole f p at n)
read_as Lau f p at n = Got (bits n) (raw_in Lau p at n) (value_in Lau f p at n)
read_as Lz f p at n = Got (bits n) (raw_in Lz p at n) (value_in Lz f p at n)

-- what is read of the bits taken, or the refusal
abbrev pub read_over : Result ℕ DecodeRefusal → Shape → FieldDescriptor → Payload → ℕ → Result FieldRead DecodeRefusal
read_over (Ok n) sh f p at = Ok (read_as sh f p at n)
read_over (Err e) sh f p at = Err e

-- `read_field_raw_and_value`
abbrev pub field_read_of : Payload → FieldDescriptor → ℕ → Bool → ℕ → Result FieldRead DecodeRefusal
field_read_of p f i early at = read_over (taken_of p f i early at) (shape_of f) f p at
