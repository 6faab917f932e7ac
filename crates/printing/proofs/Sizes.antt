-- A page of `PAGE` bytes has room for the answer to any line. Assumes nothing.
use mathlib.Core.Bool.{Bool, true, false}
use mathlib.Core.List.{List}
use Prim.Native.Nat.{ℕ, ◌+◌, ◌*◌, ◌≤◌}
use native.Mathlib.Omega.{arith}
use lib.Dec.{ltb}
use lib.ListN.{length, take}
use Rattle.bits.specs.Bits.{pick}
use Rattle.bits.specs.Calls.{bytes}
use Rattle.text.proofs.Sizes.{plus}
use Rattle.tables.specs.Table.{table_of}
use Rattle.tables.specs.Check.{payload_max}
use Rattle.messages.specs.declared.Message.{Message}
use Rattle.messages.specs.Messages.{words_of}
use Rattle.fields.specs.declared.DecodeRefusal.TheVariants.{WrongLength}
use Rattle.fields.specs.Payload.{payload_of}
use Rattle.reading.specs.Demand3.{room_enough_lem}
use Rattle.frames.specs.declared.Frame.{Frame}
use Rattle.frames.specs.declared.FrameRefusal.{FrameRefusal}
use Rattle.frames.specs.declared.FrameRefusal.TheVariants.{Unknown, Malformed}
use Rattle.std.specs.Prelude.{Result, Ok, Err}
use Rattle.frame_lines.specs.Lines.{frame_line, refusal_line}
use Rattle.frame_lines.specs.Decode.{walk_text}
use Rattle.frame_lines.proofs.Sizes.{walk-size, refusal-size, frame-size, unknown-size}
use Rattle.printing.specs.Answers.{payload_text, answer_by}

-- `PAGE`
abbrev pub page : ℕ
page = 262144

payload-size : (m : Message) (n : ℕ) (buffer : List ℕ) (t : Bool)
    → length (pick t (refusal_line (WrongLength (bytes n))) (walk_text (table_of (words_of m)) (payload_of (take n buffer)) room_enough_lem)) ≤ room_enough_lem * 130 + 130
payload-size m n buffer true = omega (arith, refusal-size (WrongLength (bytes n)))
payload-size m n buffer false = walk-size (table_of (words_of m)) (payload_of (take n buffer)) room_enough_lem

pub answer-size : (f : Result Frame FrameRefusal) (buffer : List ℕ) → length (answer_by f buffer) ≤ page
answer-size (Ok f) buffer =
    let x = payload-size f.message f.received buffer (ltb payload_max f.received) in
    omega (arith, plus (frame_line f.pgn f.received) (payload_text f.message f.received buffer) 30 (room_enough_lem * 130 + 130) (frame-size f.pgn f.received).1 x)
answer-size (Err (Unknown pgn)) buffer = omega (arith, (unknown-size pgn).1)
answer-size (Err Malformed) buffer = omega arith
