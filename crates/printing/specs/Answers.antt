-- The program by what it keeps of a line: what is known of it, and the buffer that holds its payload. That this prints what specs/Text.antt says is
-- proofs/Paper.antt.
use Rattle.std.specs.Prelude.{ℕ, List, ◌++◌, ltb, take, Result, Ok, Err}
use Rattle.bits.specs.Bits.{pick}
use Rattle.bits.specs.Calls.{bytes}
use Rattle.hexadecimal.specs.Digits.{value_of}
use Rattle.lines.specs.Machine.{Machine}
use Rattle.tables.specs.Table.{table_of}
use Rattle.tables.specs.Check.{payload_max}
use Rattle.messages.specs.declared.Message.{Message}
use Rattle.messages.specs.Messages.{words_of}
use Rattle.fields.specs.declared.DecodeRefusal.TheVariants.{WrongLength}
use Rattle.fields.specs.Payload.{payload_of}
use Rattle.reading.specs.Demand3.{room_enough_lem}
use Rattle.frames.specs.declared.Line.{Line}
use Rattle.frames.specs.declared.Frame.{Frame}
use Rattle.frames.specs.declared.FrameRefusal.{FrameRefusal}
use Rattle.frames.specs.declared.FrameRefusal.TheVariants.{Unknown, Malformed}
use Rattle.frames.specs.Digest.{empty_line_lem, fed_by, kept_by}
use Rattle.frames.specs.Frames.{frame_by}
use Rattle.frame_lines.specs.Lines.{frame_line, unknown_line, malformed_line, refusal_line}
use Rattle.frame_lines.specs.Decode.{walk_text}

-- the lines after the first, by a message: 7 of a payload that is too long; else those of the walk through the first bytes of the buffer
abbrev pub payload_text : Message → ℕ → List ℕ → List ℕ
payload_text m received buffer =
    pick (ltb payload_max received) (refusal_line (WrongLength (bytes received))) (walk_text (table_of (words_of m)) (payload_of (take received buffer)) room_enough_lem)

abbrev pub answer_by : Result Frame FrameRefusal → List ℕ → List ℕ
answer_by (Ok f) buffer = frame_line f.pgn f.received ++ payload_text f.message f.received buffer
answer_by (Err (Unknown pgn)) buffer = unknown_line pgn
answer_by (Err Malformed) buffer = malformed_line

-- what is kept of a line
pub record Kept : Type 0 where
  pub line : Line
  pub buffer : List ℕ

abbrev pub kept : Line → List ℕ → Kept
kept l buffer = record { line = l; buffer = buffer }

abbrev pub samopute : Machine Kept
samopute = record {
  fed = λ k b. kept (fed_by k.line (value_of b)) (kept_by k.line k.buffer (value_of b));
  fresh = λ k. kept empty_line_lem k.buffer;
  answer = λ k. answer_by (frame_by k.line) k.buffer;
}
