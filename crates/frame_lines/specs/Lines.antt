-- The lines that the printing program prints: document 01, the end of "Cases". Each ends in a newline.
use Rattle.walking.specs.Walk.{Element}
use Rattle.std.specs.Prelude.{ℕ, List, [], ◌∷◌, ◌++◌, Option, Some, None}
use Rattle.text.specs.Digits.{decimal_of, hex_of, fixed, spaced}
use Rattle.text.specs.Refusals.{refused_text, malformed_text}
use Rattle.descriptor.specs.declared.Availability.{Availability}
use Rattle.descriptor.specs.declared.Availability.TheVariants.{Available, NotAvailable}
use Rattle.descriptor.specs.declared.PgnBytes.{PgnBytes}
use Rattle.descriptor.specs.declared.PgnValue.{PgnValue}
use Rattle.descriptor.specs.declared.PgnValue.TheVariants.{U64, U32, U16, U8, I64, I32, I16, I8, F64, F32, Bytes}
use Rattle.fields.specs.declared.DecodeRefusal.{DecodeRefusal}
use Rattle.fields.specs.Refusals.{number_of, carried_of}
use Rattle.reading.specs.declared.Reading.{Reading}

abbrev pub newline : List ℕ
newline = 10 ∷ []

-- ## A reading: "R 3 - 16 16 A 3D5C"

-- the element, " -" where there is none
abbrev pub element_text : Element → List ℕ
element_text None = 32 ∷ 45 ∷ []
element_text (Some k) = spaced k

-- " A ", or " N ": "N is not available"
abbrev pub availability_text : Availability → List ℕ
availability_text Available = 32 ∷ 65 ∷ 32 ∷ []
availability_text NotAvailable = 32 ∷ 78 ∷ 32 ∷ []

-- "place:length in decimal"
abbrev pub place_text : PgnBytes → List ℕ
place_text b = decimal_of b.start.0 ++ 58 ∷ decimal_of b.len.0

-- of a value whose raw is none, which is text or bytes (proofs/Texts.antt); '-' of any other
abbrev pub value_text : PgnValue → List ℕ
value_text (U64 x) = 45 ∷ []
value_text (U32 x) = 45 ∷ []
value_text (U16 x) = 45 ∷ []
value_text (U8 x) = 45 ∷ []
value_text (I64 x) = 45 ∷ []
value_text (I32 x) = 45 ∷ []
value_text (I16 x) = 45 ∷ []
value_text (I8 x) = 45 ∷ []
value_text (F64 x) = 45 ∷ []
value_text (F32 x) = 45 ∷ []
value_text (Bytes b) = place_text b

-- "Raws are hexadecimal [..]; a raw that is none prints place:length in decimal"
abbrev pub raw_text : Option ℕ → PgnValue → List ℕ
raw_text (Some n) x = hex_of n
raw_text None x = value_text x

-- what stands before the raw: 'R', field, element, start, bits, availability
abbrev pub head_text : Reading → List ℕ
head_text r = 82 ∷ spaced r.field ++ element_text r.element ++ spaced r.start.0 ++ spaced r.bits.0 ++ availability_text r.availability

unfoldable pub reading_line : Reading → List ℕ
reading_line r = head_text r ++ raw_text r.raw r.value ++ newline

-- ## The other lines

-- "a PGN in 6 digits"
abbrev pub pgn_text : ℕ → List ℕ
pgn_text pgn = fixed 16 6 pgn

-- "P 01F802 8": "P gives the bytes received"
unfoldable pub frame_line : ℕ → ℕ → List ℕ
frame_line pgn received = 80 ∷ 32 ∷ pgn_text pgn ++ spaced received ++ newline

-- "E 64": "E the end"
unfoldable pub end_line : ℕ → List ℕ
end_line end = 69 ∷ spaced end ++ newline

-- "A refusal prints F, its number and what it carries (decimal, ..)"
unfoldable pub refusal_line : DecodeRefusal → List ℕ
refusal_line e = refused_text (number_of e) (carried_of e) ++ newline

-- 14 carries nothing
abbrev pub malformed_line : List ℕ
malformed_line = malformed_text ++ newline

-- 15 carries the PGN, "in 6 digits"
unfoldable pub unknown_line : ℕ → List ℕ
unknown_line pgn = 70 ∷ 32 ∷ 49 ∷ 53 ∷ 32 ∷ pgn_text pgn ++ newline
