-- How readings lie in bytes: a count, then a record for each reading. It is no part of document 01, which leaves the boundary's layout open:
-- include/samopute.h says the same in C.
use Rattle.walking.specs.Walk.{Element}
use Rattle.std.specs.Prelude.{ℕ, zero, suc, ◌+◌, ◌-◌, ◌*◌, ◌/◌, ◌%◌, ◌^◌, List, [], ◌∷◌, ◌++◌, ltb, length, drop, Option, Some, None}
use Rattle.bits.specs.Bits.{pick}
use Rattle.bits.specs.Calls.{bits, bytes}
use Rattle.descriptor.specs.declared.Availability.{Availability}
use Rattle.descriptor.specs.declared.PgnBytes.{PgnBytes}
use Rattle.descriptor.specs.declared.PgnValue.{PgnValue}
use Rattle.descriptor.specs.declared.PgnValue.TheVariants.{U64, U32, U16, U8, I64, I32, I16, I8, F64, F32, Bytes}
use Rattle.descriptor.specs.declared.FieldDescriptor.{FieldDescriptor}
use Rattle.numbers.specs.Scaling.{scale_of}
use Rattle.numbers.specs.Special.{number_availability_of}
use Rattle.numbers.specs.declared.NumberWords.{NumberWords}
use Rattle.numbers.specs.Words.{code_of, word_of_lem, silence_of_lem}
use Rattle.reading.specs.declared.Reading.{Reading}

-- a number in n bytes, the lowest first
unfoldable pub bytes_of : ℕ → ℕ → List ℕ
bytes_of zero x = []
bytes_of (suc n) x = x % 256 ∷ bytes_of n (x / 256)

-- words of 64 bits, one after another
unfoldable pub laid : List ℕ → List ℕ
laid [] = []
laid (w ∷ ws) = bytes_of 8 w ++ laid ws

-- ## The words of a record

-- which element, all ones where the field is in no set
abbrev pub element_word_lem : Element → ℕ
element_word_lem None = 2 ^ 64 - 1
element_word_lem (Some e) = e

-- the raw, 0 where there is none
abbrev pub raw_word_lem : Option ℕ → ℕ
raw_word_lem None = 0
raw_word_lem (Some r) = r

-- whether there is one
abbrev pub raw_mark_lem : Option ℕ → ℕ
raw_mark_lem None = 0
raw_mark_lem (Some r) = 1

-- a text's or bytes' place, length and encoding; a number has none
abbrev pub no_bytes_lem : PgnBytes
no_bytes_lem = record { start = bytes 0; len = bytes 0; encoding = None }

abbrev pub bytes_in_lem : PgnValue → PgnBytes
bytes_in_lem (U64 n) = no_bytes_lem
bytes_in_lem (U32 n) = no_bytes_lem
bytes_in_lem (U16 n) = no_bytes_lem
bytes_in_lem (U8 n) = no_bytes_lem
bytes_in_lem (I64 z) = no_bytes_lem
bytes_in_lem (I32 z) = no_bytes_lem
bytes_in_lem (I16 z) = no_bytes_lem
bytes_in_lem (I8 z) = no_bytes_lem
bytes_in_lem (F64 x) = no_bytes_lem
bytes_in_lem (F32 x) = no_bytes_lem
bytes_in_lem (Bytes b) = b

-- whether there is an encoding byte, and that byte above it
abbrev pub encoding_mark_lem : Option ℕ → ℕ
encoding_mark_lem None = 0
encoding_mark_lem (Some b) = 1 + 2 ^ 8 * b

-- from the lowest byte on: availability, the value's kind, whether there is a raw, whether there is an encoding byte, the encoding byte
abbrev pub tag_by : Availability → PgnValue → Option ℕ → ℕ
tag_by a v r = silence_of_lem a + 2 ^ 8 * code_of v + 2 ^ 16 * raw_mark_lem r + 2 ^ 24 * encoding_mark_lem (bytes_in_lem v).encoding

-- the value's bits, or the place of a text or bytes
abbrev pub value_word_lem : PgnValue → ℕ
value_word_lem v = word_of_lem v + (bytes_in_lem v).start.0

abbrev pub record_of_lem : Reading → List ℕ
record_of_lem r =
    r.field
    ∷ element_word_lem r.element
    ∷ r.start.0
    ∷ r.bits.0
    ∷ tag_by r.availability r.value r.raw
    ∷ raw_word_lem r.raw
    ∷ value_word_lem r.value
    ∷ (bytes_in_lem r.value).len.0
    ∷ []

-- what was read of a number field: the reading of document 01, by its raw
abbrev pub number_reading : ℕ → Element → ℕ → FieldDescriptor → ℕ → Reading
number_reading i e at f r =
    record { field = i; element = e; start = bits at; bits = bits f.width; raw = Some r; value = scale_of f r; availability = number_availability_of f r }

-- the record of a number of so many bits, by its raw and the words of its value
abbrev pub number_record : ℕ → Element → ℕ → ℕ → ℕ → NumberWords → List ℕ
number_record i e at width r n = i ∷ element_word_lem e ∷ at ∷ width ∷ (n.silence + 256 * n.code + 65536) ∷ r ∷ n.word ∷ 0 ∷ []

unfoldable pub records : List Reading → List ℕ
records [] = []
records (r ∷ rs) = laid (record_of_lem r) ++ records rs

-- ## The buffer

abbrev pub prefix_bytes : ℕ
prefix_bytes = 8

abbrev pub record_bytes : ℕ
record_bytes = 64

-- room for so many readings in a buffer of n bytes: its length, without the count, over the record's size
abbrev pub room_in_lem : ℕ → ℕ
room_in_lem n = (n - prefix_bytes) / record_bytes

-- the count, the records, and the rest as it was; a buffer too short for the count is left as it was
abbrev pub stored_in : List Reading → List ℕ → List ℕ
stored_in rs out = pick (ltb (length out) prefix_bytes) out (bytes_of prefix_bytes (length rs) ++ (records rs ++ drop (prefix_bytes + record_bytes * length rs) out))
