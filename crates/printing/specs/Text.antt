-- What the printing program prints for any input: document 01, the end of "Cases".
use Rattle.std.specs.Prelude.{ℕ, List, ◌++◌, Result, Ok, Err}
use Rattle.lines.specs.Machine.{text_of}
use Rattle.tables.specs.Table.{table_of}
use Rattle.tables.specs.Check.{payload_max}
use Rattle.messages.specs.declared.Message.{Message}
use Rattle.messages.specs.Messages.{words_of}
use Rattle.reading.specs.Demand3.{room_enough_lem}
use Rattle.reading.specs.Decode.{readings_of, decoded_of_lem}
use Rattle.frames.specs.Lines.{Parsed, malformed, parsed, line_of}
use Rattle.frames.specs.Frames.{frame_of}
use Rattle.frames.specs.declared.Frame.{Frame}
use Rattle.frames.specs.declared.FrameRefusal.{FrameRefusal}
use Rattle.frames.specs.declared.FrameRefusal.TheVariants.{Unknown, Malformed}
use Rattle.frame_lines.specs.Lines.{frame_line, unknown_line, malformed_line}
use Rattle.frame_lines.specs.Decode.{decode_text}

-- "then decode": the readings of a payload and what its decode came to, by a message's table, with a padding run of 223 bytes and room enough
abbrev pub message_text : Message → List ℕ → List ℕ
message_text m payload =
    decode_text (readings_of (table_of (words_of m)) payload payload_max room_enough_lem) (decoded_of_lem (table_of (words_of m)) payload payload_max room_enough_lem)

-- "P gives the bytes received, E the end"; a refusal prints F "in place of E, for 14 and 15 of P too"
abbrev pub frame_text : Result Frame FrameRefusal → List ℕ → List ℕ
frame_text (Ok f) payload = frame_line f.pgn f.received ++ message_text f.message payload
frame_text (Err (Unknown pgn)) payload = unknown_line pgn
frame_text (Err Malformed) payload = malformed_line

-- the answer to a line: "[14]; then 15, then decode"
abbrev pub answer_to : Parsed → List ℕ
answer_to malformed = malformed_line
answer_to (parsed pgn payload) = frame_text (frame_of (parsed pgn payload)) payload

abbrev pub answered : List ℕ → List ℕ
answered line = answer_to (line_of line)

-- all that is printed for an input
abbrev pub printed : List ℕ → List ℕ
printed input = text_of answered input
