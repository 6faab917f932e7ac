-- What a line is answered: src/main.rt, "ROOM PADDING WORDS PAYLOAD".
use Rattle.std.specs.Prelude.{ℕ, List, [], ◌∷◌, ◌++◌, Bool, ◌&&◌, eqb, leb, replicate, is_some, unwrap_or}
use Rattle.bits.specs.Bits.{pick}
use Rattle.text.specs.Refusals.{malformed_text}
use Rattle.columns.specs.Parts.{space, parts_of, marks_in, field}
use Rattle.columns.specs.Numbers.{decimal_in}
use Rattle.columns.specs.Runs.{is_bytes, bytes_of, values_of, is_words}
use Rattle.lines.specs.Machine.{newline, text_of}
use Rattle.lines.specs.Held.{capped}
use Rattle.tables.specs.Table.{table_of}
use Rattle.readcalls.specs.Lines.{untouched, decode_text}

-- "PADDING is [..] 0 to 300"
abbrev pub padding_max : ℕ
padding_max = 300

-- "1 to 200, of 1 to 16 digits, set apart by commas"
abbrev pub words_max : ℕ
words_max = 200

abbrev pub comma : ℕ
comma = 44

-- "PAYLOAD is at most 300 bytes"
abbrev pub payload_most : ℕ
payload_most = 300

-- whether a line is a case: four fields, of these forms
abbrev pub is_case_lem : List ℕ → Bool
is_case_lem line =
    eqb (marks_in space line) 3
    && is_some (decimal_in (field line 0))
    && is_some (decimal_in (field line 1))
    && leb (unwrap_or (decimal_in (field line 1)) 0) padding_max
    && is_words comma words_max (field line 2)
    && is_bytes payload_most (field line 3)

-- the decode of PAYLOAD by the table of WORDS, with a padding run of PADDING bytes and room for ROOM readings
abbrev pub case_text : List ℕ → List ℕ
case_text line =
    decode_text (table_of (values_of (parts_of comma (field line 2)))) (bytes_of (field line 3)) (replicate (unwrap_or (decimal_in (field line 1)) 0) untouched)
    (unwrap_or (decimal_in (field line 0)) 0)

-- "a line that is no case [..] is answered F 14 alone"
unfoldable pub answered : List ℕ → List ℕ
answered line = pick (is_case_lem line) (case_text line) (malformed_text ++ newline ∷ [])

-- a line of more bytes is answered as an empty one, which is F 14
abbrev pub line_max : ℕ
line_max = 8192

-- all that is printed for an input
abbrev pub printed : List ℕ → List ℕ
printed input = text_of (capped line_max answered) input
