-- The text of a decode: document 01, the end of "Cases": a line for each reading, then the end, or the refusal "in place of E".
use Rattle.std.specs.Prelude.{ℕ, Result, Ok, Err}
use mathlib.Core.List.{List, [], ◌++◌, flat_map}
use Rattle.bits.specs.declared.BitPos.{BitPos}
use Rattle.tables.specs.Table.{Table}
use Rattle.fields.specs.declared.DecodeRefusal.{DecodeRefusal}
use Rattle.fields.specs.Payload.{Payload}
use Rattle.reading.specs.declared.Reading.{Reading}
use Rattle.reading.specs.declared.Decoded.{Decoded}
use Rattle.reading.specs.declared.Answer.{Answer}
use Rattle.reading.specs.declared.Answer.TheVariants.{Met, Skipped, Moved, Ended}
use Rattle.reading.specs.Decode.{walk_of, readings, spans_of, end_of}
use Rattle.frame_lines.specs.Lines.{reading_line, end_line, refusal_line}

-- a line for each reading, in order
abbrev pub reading_lines : List Reading → List ℕ
reading_lines rs = flat_map reading_line rs

-- "E the end"; "A refusal prints F, [..] in place of E"
abbrev pub last_line_by : Result BitPos DecodeRefusal → List ℕ
last_line_by (Ok end) = end_line end.0
last_line_by (Err e) = refusal_line e

abbrev pub last_line_lem : Decoded → List ℕ
last_line_lem d = last_line_by d.end

-- what a decode prints: its readings, and what it came to
abbrev pub decode_text : List Reading → Decoded → List ℕ
decode_text rs d = reading_lines rs ++ last_line_lem d

-- the text of the walk through a payload by a table
abbrev pub walk_text : Table → Payload → ℕ → List ℕ
walk_text t p room = decode_text (readings t p (spans_of (walk_of t p room))) (end_of t p (walk_of t p room))

-- the line of one turn of it, that has come to a bit: none where nothing is handed out
abbrev pub turn_text : Result Answer DecodeRefusal → ℕ → List ℕ
turn_text (Ok (Met r)) end = reading_line r
turn_text (Ok (Skipped v)) end = []
turn_text (Ok Moved) end = []
turn_text (Ok Ended) end = end_line end
turn_text (Err e) end = refusal_line e
