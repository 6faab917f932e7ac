-- What a line is answered: docs/PROGRAMS.md, "Values in, frames out", and src/main.rt.
use Rattle.std.specs.Prelude.{ℕ, Option, Some, None, List, [], ◌∷◌, ◌++◌, Bool, ◌&&◌, eqb, leb, length, take, drop, get_or, replicate, Result, Ok, Err, is_some, unwrap_or}
use Rattle.bits.specs.declared.ByteCount.{ByteCount}
use Rattle.bits.specs.Bits.{pick}
use Rattle.hexadecimal.specs.Digits.{digits_of}
use Rattle.text.specs.Digits.{spaced, bytes_text}
use Rattle.text.specs.Refusals.{refused_text}
use Rattle.columns.specs.Parts.{space, parts_of, field}
use Rattle.columns.specs.Numbers.{decimal_in, hex_in}
use Rattle.columns.specs.Runs.{values_of, is_words}
use Rattle.lines.specs.Machine.{newline, text_of}
use Rattle.lines.specs.Held.{capped}
use Rattle.tables.specs.Table.{table_of}
use Rattle.tables.specs.Check.{payload_max}
use Rattle.messages.specs.Messages.{message_of_lem, words_of}
use Rattle.messages.specs.declared.Message.{Message}
use Rattle.weighing.specs.Refusals.{number_of, carried_of}
use Rattle.weighing.specs.declared.EncodeRefusal.{EncodeRefusal}
use Rattle.offers.specs.Records.{values_in}
use Rattle.writing.specs.Encode.{encoded_of, buffer_after}
use Rattle.frame_lines.specs.Lines.{pgn_text, malformed_line, unknown_line}
use Rattle.compose.specs.Records.{Lists, lists, unlisted, lists_of}

-- ## What came of an encode

-- "F NUMBER CARRIED.."
abbrev pub refusal_text : EncodeRefusal → List ℕ
refusal_text e = refused_text (number_of e) (carried_of e)

-- "PGN and payload, as `samopute` takes them": the bytes used
abbrev pub payload_text : ℕ → List ℕ → ℕ → List ℕ
payload_text pgn payload used = pgn_text pgn ++ digits_of (take used payload)

-- .. or the refusal
abbrev pub made_text : ℕ → List ℕ → Result ByteCount EncodeRefusal → List ℕ
made_text pgn payload (Ok used) = payload_text pgn payload used.0
made_text pgn payload (Err e) = refusal_text e

-- "E USED"
abbrev pub outcome_text : Result ByteCount EncodeRefusal → List ℕ
outcome_text (Ok used) = 69 ∷ spaced used.0
outcome_text (Err e) = refusal_text e

-- .. and on a line of its own "D BYTES"
abbrev pub buffer_text : List ℕ → List ℕ
buffer_text buffer = newline ∷ 68 ∷ 32 ∷ (bytes_text buffer ++ newline ∷ [])

-- ## A line by a table

-- the encode of value records and a lent text into a buffer
unfoldable pub encode_text : List ℕ → List ℕ → List ℕ → List ℕ → List ℕ
encode_text words values lent buffer =
    outcome_text (encoded_of (table_of words) (values_in values) (length lent) (length buffer)) ++ buffer_text (buffer_after (table_of words) (values_in values) lent buffer)

-- ','
abbrev pub comma : ℕ
comma = 44

-- "1 to 200, of 1 to 16 digits, set apart by commas"
abbrev pub are_words_lem : List ℕ → Bool
are_words_lem = is_words comma 200

-- "SIZE is decimal, 0 to 300"
abbrev pub is_size : List ℕ → Bool
is_size s = is_some (decimal_in s) && leb (unwrap_or (decimal_in s) 0) 300

-- "the bytes of the buffer all hold A5 before the call"
abbrev pub buffer_of : ℕ → List ℕ
buffer_of size = replicate size 0xa5

-- "T WORDS SIZE VALUES.."
unfoldable pub table_text : List ℕ → List ℕ → List ℕ → List ℕ → List ℕ
table_text words size values lent =
    pick (are_words_lem words && is_size size) (encode_text (values_of (parts_of comma words)) values lent (buffer_of (unwrap_or (decimal_in size) 0))) malformed_line

-- ## A line by a PGN

-- what a payload holds before the call
abbrev pub blank : List ℕ
blank = replicate payload_max 0

-- the encode by a message's table
unfoldable pub frame_line : List ℕ → ℕ → List ℕ → List ℕ → List ℕ
frame_line words pgn values lent =
    made_text pgn (buffer_after (table_of words) (values_in values) lent blank) (encoded_of (table_of words) (values_in values) (length lent) (length blank))
    ++ newline ∷ []

-- "a PGN that is not built in F 15 with the PGN"
abbrev pub known_text : Option Message → ℕ → List ℕ → List ℕ → List ℕ
known_text (Some m) pgn values lent = frame_line (words_of m) pgn values lent
known_text None pgn values lent = unknown_line pgn

-- "PGN VALUES..": "by its PGN in six digits"
unfoldable pub pgn_line : List ℕ → List ℕ → List ℕ → List ℕ
pgn_line s values lent = pick (is_some (hex_in s) && eqb (length s) 6) (known_text (message_of_lem (unwrap_or (hex_in s) 0)) (unwrap_or (hex_in s) 0) values lent) malformed_line

-- ## A line

-- "set apart by one space"
abbrev pub fields_of : List ℕ → List (List ℕ)
fields_of line = parts_of space line

-- whether a field is T
abbrev pub is_t_lem : List ℕ → Bool
is_t_lem s = eqb (length s) 1 && eqb (get_or s 0 0) 84

-- how many fields come before the values
abbrev pub leading : List ℕ → ℕ
leading line = pick (is_t_lem (field line 0)) 3 1

-- by the first field
unfoldable pub order_text : List ℕ → List ℕ → List ℕ → List ℕ
order_text line values lent = pick (is_t_lem (field line 0)) (table_text (field line 1) (field line 2) values lent) (pgn_line (field line 0) values lent)

-- "a line that is neither [..] is answered F 14 alone"
abbrev pub listed_text : List ℕ → Lists → List ℕ
listed_text line (lists values lent) = order_text line values lent
listed_text line unlisted = malformed_line

-- the answer to a line, with its newlines
unfoldable pub answered : List ℕ → List ℕ
answered line = listed_text line (lists_of (drop (leading line) (fields_of line)))

-- a line of more bytes is answered as an empty one, which is F 14
abbrev pub line_max : ℕ
line_max = 8192

-- all that is printed for an input
abbrev pub printed : List ℕ → List ℕ
printed input = text_of (capped line_max answered) input
