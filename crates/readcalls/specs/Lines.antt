-- The lines of an answer: src/main.rt, "R FIELD ELEMENT START BITS A|N RAW KIND VALUE [ENCODING]", "E END COUNT", "D BYTES". Each ends in a newline.
use Rattle.std.specs.Prelude.{ℕ, eqb, length, Option, Some, None, Result, Ok, Err}
use mathlib.Core.List.{List, [], ◌∷◌, ◌++◌, flat_map}
use Rattle.bits.specs.Bits.{pick}
use Rattle.bits.specs.declared.BitPos.{BitPos}
use Rattle.hexadecimal.specs.Digits.{digits_of}
use Rattle.text.specs.Digits.{hex_of, spaced, spaced_hex, bytes_text}
use Rattle.descriptor.specs.declared.PgnValue.{PgnValue}
use Rattle.descriptor.specs.declared.PgnValue.TheVariants.{U64, U32, U16, U8, I64, I32, I16, I8, F64, F32, Bytes}
use Rattle.numbers.specs.Words.{word_of_lem}
use Rattle.tables.specs.Table.{Table}
use Rattle.fields.specs.declared.DecodeRefusal.{DecodeRefusal}
use Rattle.reading.specs.declared.Reading.{Reading}
use Rattle.reading.specs.declared.Decoded.{Decoded}
use Rattle.reading.specs.Filling.{run_after}
use Rattle.reading.specs.Decode.{readings_of, decoded_of_lem}
use Rattle.frame_lines.specs.Lines.{newline, head_text, place_text, refusal_line}

-- ## A reading

-- "RAW [..] '-' where there is none"
abbrev pub raw_text : Option ℕ → List ℕ
raw_text (Some n) = hex_of n
raw_text None = 45 ∷ []

-- KIND, after a space
abbrev pub kind_text : PgnValue → List ℕ
kind_text (U64 x) = 32 ∷ 85 ∷ 54 ∷ 52 ∷ []
kind_text (U32 x) = 32 ∷ 85 ∷ 51 ∷ 50 ∷ []
kind_text (U16 x) = 32 ∷ 85 ∷ 49 ∷ 54 ∷ []
kind_text (U8 x) = 32 ∷ 85 ∷ 56 ∷ []
kind_text (I64 x) = 32 ∷ 73 ∷ 54 ∷ 52 ∷ []
kind_text (I32 x) = 32 ∷ 73 ∷ 51 ∷ 50 ∷ []
kind_text (I16 x) = 32 ∷ 73 ∷ 49 ∷ 54 ∷ []
kind_text (I8 x) = 32 ∷ 73 ∷ 56 ∷ []
kind_text (F64 x) = 32 ∷ 70 ∷ 54 ∷ 52 ∷ []
kind_text (F32 x) = 32 ∷ 70 ∷ 51 ∷ 50 ∷ []
kind_text (Bytes b) = 32 ∷ 66 ∷ 121 ∷ 116 ∷ 101 ∷ 115 ∷ []

-- "ENCODING [..] '-' where there is none", after a space
abbrev pub encoding_text : Option ℕ → List ℕ
encoding_text (Some b) = 32 ∷ digits_of (b ∷ [])
encoding_text None = 32 ∷ 45 ∷ []

-- VALUE, after a space: a number by its 64 bits; "for text and bytes [..] PLACE:LENGTH and the ENCODING"
abbrev pub content_text : PgnValue → List ℕ
content_text (U64 x) = spaced_hex (word_of_lem (U64 x))
content_text (U32 x) = spaced_hex (word_of_lem (U32 x))
content_text (U16 x) = spaced_hex (word_of_lem (U16 x))
content_text (U8 x) = spaced_hex (word_of_lem (U8 x))
content_text (I64 x) = spaced_hex (word_of_lem (I64 x))
content_text (I32 x) = spaced_hex (word_of_lem (I32 x))
content_text (I16 x) = spaced_hex (word_of_lem (I16 x))
content_text (I8 x) = spaced_hex (word_of_lem (I8 x))
content_text (F64 x) = spaced_hex (word_of_lem (F64 x))
content_text (F32 x) = spaced_hex (word_of_lem (F32 x))
content_text (Bytes b) = 32 ∷ place_text b ++ encoding_text b.encoding

-- what stands before RAW is as in the program that prints readings
unfoldable pub reading_line : Reading → List ℕ
reading_line r = head_text r ++ raw_text r.raw ++ kind_text r.value ++ content_text r.value ++ newline

-- ## The other lines

-- "E END COUNT", or "F NUMBER CARRIED.."
unfoldable pub last_line_by : Result BitPos DecodeRefusal → ℕ → List ℕ
last_line_by (Ok end) count = 69 ∷ spaced end.0 ++ spaced count ++ newline
last_line_by (Err e) count = refusal_line e

abbrev pub last_line_lem : Decoded → List ℕ
last_line_lem d = last_line_by d.end d.count

-- what each byte of a padding run holds before the call
abbrev pub untouched : ℕ
untouched = 0xa5

-- a byte before others, unless it is untouched and the last
abbrev pub keep_before : ℕ → List ℕ → List ℕ
keep_before b [] = pick (eqb b untouched) [] (b ∷ [])
keep_before b (c ∷ cs) = b ∷ c ∷ cs

-- "up to the last byte that is not A5"
unfoldable pub touched : List ℕ → List ℕ
touched [] = []
touched (b ∷ bs) = keep_before b (touched bs)

-- "D BYTES"
unfoldable pub run_line : List ℕ → List ℕ
run_line run = 68 ∷ 32 ∷ bytes_text (touched run) ++ newline

-- ## A decode

-- a line for each reading, in order; what the decode came to; and the padding run after the call, which held `run` before it
abbrev pub decode_text : Table → List ℕ → List ℕ → ℕ → List ℕ
decode_text t received run room =
    flat_map reading_line (readings_of t received (length run) room) ++ (last_line_lem (decoded_of_lem t received (length run) room) ++ run_line (run_after t received run))
