-- What a line is answered: src/main.rt, "scale .. RAW" and "raw .. VALUEKIND VALUE".
use Rattle.std.specs.Prelude.{ℕ, List, [], ◌∷◌, ◌++◌, Bool, ◌&&◌, eqb, ltb, get_or, Option, Some, None, is_some, unwrap_or}
use Rattle.bits.specs.Bits.{pick}
use Rattle.text.specs.Digits.{spaced_hex}
use Rattle.text.specs.Refusals.{refused_text, malformed_text}
use Rattle.columns.specs.Parts.{space, field, marks_in}
use Rattle.columns.specs.Numbers.{hex_in}
use Rattle.columns.specs.Names.{same}
use Rattle.lines.specs.Machine.{newline, text_of}
use Rattle.lines.specs.Held.{capped}
use Rattle.descriptor.specs.declared.FieldDescriptor.{FieldDescriptor}
use Rattle.numbers.specs.Refusals.{number_of}
use Rattle.offers.specs.Records.{offer_of_lem}
use Rattle.samopute_c.specs.Values.{field_of, scale_status, scale_cells, raw_offered, raw_cells}
use Rattle.numbercalls.specs.declared.line_fields.Field.{Field}
use Rattle.numbercalls.specs.Names.{value_kind_names, scale_name, raw_name}
use Rattle.numbercalls.specs.Fields.{placed, field_in}

-- ## The text of an answer, by its status and its cells

-- the refusal of a width, which carries two numbers; 10 and 11 carry nothing here
abbrev pub bad_width : ℕ
bad_width = 1

-- 'F NUMBER' and what the refusal carries
abbrev pub refusal_text : ℕ → ℕ → ℕ → List ℕ
refusal_text status first second = refused_text status (pick (eqb status bad_width) (first ∷ second ∷ []) [])

-- A, or N where the raw says nothing
abbrev pub silence_text : ℕ → List ℕ
silence_text silence = pick (eqb silence 0) (32 ∷ 65 ∷ []) (32 ∷ 78 ∷ [])

-- 'VALUEKIND VALUE', and whether it says something
abbrev pub value_text : ℕ → ℕ → ℕ → List ℕ
value_text kind value silence = (get_or value_kind_names kind [] ++ spaced_hex value) ++ silence_text silence

-- 'to scale "VALUEKIND VALUE" and A, or N [..] or "F NUMBER"'
abbrev pub scale_answer : ℕ → List ℕ → List ℕ
scale_answer status cells =
    pick (eqb status 0) (value_text (get_or cells 0 0) (get_or cells 1 0) (get_or cells 2 0)) (refusal_text status (get_or cells 0 0) (get_or cells 1 0))

-- 'ok RAW'
abbrev pub ok_text : ℕ → List ℕ
ok_text raw = 111 ∷ 107 ∷ spaced_hex raw

-- 'to raw "ok RAW"; or "F NUMBER"'
abbrev pub raw_answer : ℕ → List ℕ → List ℕ
raw_answer status cells = pick (eqb status 0) (ok_text (get_or cells 0 0)) (refusal_text status (get_or cells 0 0) (get_or cells 1 0))

-- ## The calls

-- the field that the boundary makes of five codes
abbrev pub descriptor_of : Field → FieldDescriptor
descriptor_of f = field_of f.kind f.width f.sign f.mark f.resolution

-- `samopute_scale` of a raw
unfoldable pub scale_call : Field → ℕ → List ℕ
scale_call f raw = scale_answer (scale_status (descriptor_of f)) (scale_cells (descriptor_of f) raw)

-- `samopute_raw_of` of a value by its kind's code
unfoldable pub raw_call : Field → ℕ → ℕ → List ℕ
raw_call f kind value = let x = raw_offered (descriptor_of f) (offer_of_lem kind value) in raw_answer (number_of x) (raw_cells x)

-- by the raw's digits: "64 bits in at most 16 digits"
abbrev pub scale_text : Field → List ℕ → List ℕ
scale_text f raw = pick (is_some (hex_in raw)) (scale_call f (unwrap_or (hex_in raw) 0)) malformed_text

-- whether a code is that of a kind: "U64 to U8, I64 to I8, F64, F32 or Bytes"
abbrev pub is_kind_lem : Option ℕ → Bool
is_kind_lem code = is_some code && ltb 0 (unwrap_or code 0)

-- the code of a value's kind by its name, and the value's digits
abbrev pub raw_text : Field → List ℕ → List ℕ → List ℕ
raw_text f kind value =
    let code = placed kind value_kind_names in
    pick (is_kind_lem code && is_some (hex_in value)) (raw_call f (unwrap_or code 0) (unwrap_or (hex_in value) 0)) malformed_text

-- ## A line

-- whether a line is a call of this name with so many spaces between its words
abbrev pub is_call : List ℕ → ℕ → List ℕ → Bool
is_call name spaces line = same (field line 0) name && eqb (marks_in space line) spaces

-- a line whose field is f
abbrev pub call_text : Field → List ℕ → List ℕ
call_text f line =
    pick (is_call scale_name 6 line) (scale_text f (field line 6)) (pick (is_call raw_name 7 line) (raw_text f (field line 6) (field line 7)) malformed_text)

-- .. if it has one
abbrev pub fielded_text : Option Field → List ℕ → List ℕ
fielded_text None line = malformed_text
fielded_text (Some f) line = call_text f line

-- "a line that is no call [..] is answered F 14"
abbrev pub answer_text : List ℕ → List ℕ
answer_text line = fielded_text (field_in line) line

-- with its newline
unfoldable pub answered : List ℕ → List ℕ
answered line = answer_text line ++ newline ∷ []

-- a line of more bytes is answered as an empty one, which is F 14
abbrev pub line_max : ℕ
line_max = 1024

-- all that is printed for an input
abbrev pub printed : List ℕ → List ℕ
printed input = text_of (capped line_max answered) input
