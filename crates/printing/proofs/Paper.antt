-- What the program prints by what it keeps of its lines is what document 01 says of the lines. Assumes nothing.
use mathlib.Core.Path.{◌≡◌, refl, sym, ap, ◌∙◌}
use mathlib.Core.Bool.{Bool, true, false}
use mathlib.Core.List.{List, [], ◌∷◌, ◌++◌, flat_map}
use Prim.Native.Nat.{ℕ, ◌+◌, ◌-◌, ◌*◌, ◌/◌, ◌%◌, ◌^◌, ◌≤◌, ◌<◌}
use native.Mathlib.Omega.{arith}
use borrow.Author.Tests.{ltb-false}
use lib.Dec.{eqb, leb, ltb}
use lib.ListN.{length, take, set, replicate, length-set, length-replicate}
use Rattle.std.specs.Prelude.{Option, Some, None, Result, Ok, Err}
use Rattle.bits.specs.Bits.{pick}
use Rattle.bits.specs.Calls.{bytes}
use Rattle.hexadecimal.specs.Digits.{value_of}
use Rattle.text.specs.Digits.{higher, spaced}
use Rattle.text.specs.Refusals.{carried_texts, refused_text}
use Rattle.lines.specs.Machine.{text_from, plain}
use Rattle.lines.proofs.Alike.{alike}
use Rattle.tables.specs.Table.{table_of}
use Rattle.tables.specs.Check.{check_of, payload_max}
use Rattle.messages.specs.declared.Message.{Message}
use Rattle.messages.specs.declared.Message.TheVariants.{M129025, M129026, M129029, M130900}
use Rattle.messages.specs.Messages.{message_of_lem, words_of}
use Rattle.messages.proofs.Accepted.{accepted}
use Rattle.fields.specs.declared.DecodeRefusal.{DecodeRefusal}
use Rattle.fields.specs.declared.DecodeRefusal.TheVariants.{WrongLength, NoRoom}
use Rattle.fields.specs.Payload.{payload_of}
use Rattle.reading.specs.Filling.{working_of, by_check, prepared_of}
use Rattle.reading.specs.Decode.{read_into, decoded_in, decoded_of_lem, refused_with}
use Rattle.reading.specs.Demand3.{room_enough_lem}
use Rattle.reading.proofs.Answered.{enough-room}
use Rattle.frames.specs.Lines.{Parsed, malformed, parsed, line_of}
use Rattle.frames.specs.Digest.{empty_line_lem, fed_by, kept_by, line_after, buffer_after}
use Rattle.frames.specs.Frames.{known_frame, frame_of, frame_by}
use Rattle.frames.specs.declared.Line.{Line}
use Rattle.frames.specs.declared.Frame.{Frame}
use Rattle.frames.proofs.Exact.{frame, payload, whole-front, line-pieces, buffer-pieces}
use Rattle.frames.specs.declared.FrameRefusal.{FrameRefusal}
use Rattle.frames.specs.declared.FrameRefusal.TheVariants.{Unknown, Malformed}
use Rattle.frames.specs.Refusals.{number_of, carried_of}
use Rattle.frame_lines.specs.Lines.{newline, pgn_text, frame_line, refusal_line, malformed_line, unknown_line}
use Rattle.frame_lines.specs.Decode.{decode_text, walk_text}
use Rattle.printing.specs.Text.{message_text, frame_text, answer_to, answered}
use Rattle.printing.specs.Answers.{answer_by, Kept, kept, samopute}

-- ## A payload

-- no built-in table has a length to fill a payload to
works : (m : Message) (p : List ℕ) → working_of (table_of (words_of m)) p ≡ p
works M129025 p = refl
works M129026 p = refl
works M129029 p = refl
works M130900 p = refl

prepares : (m : Message) (n : ℕ) (t : Bool) → ltb payload_max n ≡ t → prepared_of (table_of (words_of m)) n payload_max ≡ pick t (Err (WrongLength (bytes n))) (Ok tt)
prepares m n true e = ap (λ (x : Bool). pick x (Err (WrongLength (bytes n))) (by_check (check_of (table_of (words_of m))))) e
prepares m n false e = ap (λ (x : Bool). pick x (Err (WrongLength (bytes n))) (by_check (check_of (table_of (words_of m))))) e ∙ ap by_check (accepted m)

-- what a decode prints, by what `prepare` says
prints : (m : Message) (p : List ℕ) (s : Result (Unit {0}) DecodeRefusal) → prepared_of (table_of (words_of m)) (length p) payload_max ≡ s
    → message_text m p ≡ decode_text (read_into s (table_of (words_of m)) (payload_of p) room_enough_lem) (decoded_in s (table_of (words_of m)) (payload_of p) room_enough_lem)
prints m p s e =
    let t = table_of (words_of m) in
    ap (λ (x : Result (Unit {0}) DecodeRefusal). decode_text (read_into x t (payload_of (working_of t p)) room_enough_lem) (decoded_in x t (payload_of (working_of t p)) room_enough_lem)) e
    ∙ ap (λ (x : List ℕ). decode_text (read_into s t (payload_of x) room_enough_lem) (decoded_in s t (payload_of x) room_enough_lem)) (works m p)

-- the buffer begins with the payload, unless that is too long
payload-by : (m : Message) (p buffer : List ℕ) (t : Bool) → ltb payload_max (length p) ≡ t → (length p ≤ payload_max → take (length p) buffer ≡ p)
    → pick t (refusal_line (WrongLength (bytes (length p)))) (walk_text (table_of (words_of m)) (payload_of (take (length p) buffer)) room_enough_lem) ≡ message_text m p
unfolding flat_map
payload-by m p buffer true e h = sym (prints m p (Err (WrongLength (bytes (length p)))) (prepares m (length p) true e))
payload-by m p buffer false e h =
    ap (λ (x : List ℕ). walk_text (table_of (words_of m)) (payload_of x) room_enough_lem) (h (ltb-false payload_max (length p) e)) ∙ sym (prints m p (Ok tt) (prepares m (length p) false e))

-- ## A line

known_by : (k : Option Message) (pgn : ℕ) (p buffer : List ℕ) → (length p ≤ payload_max → take (length p) buffer ≡ p) → answer_by (known_frame pgn (length p) k) buffer ≡ frame_text (known_frame pgn (length p) k) p
known_by (Some m) pgn p buffer h = ap (λ (x : List ℕ). frame_line pgn (length p) ++ x) (payload-by m p buffer (ltb payload_max (length p)) refl h)
known_by None pgn p buffer h = refl

parsed-by : (x : Parsed) (buffer : List ℕ) → ((pgn : ℕ) (p : List ℕ) → x ≡ parsed pgn p → length p ≤ payload_max → take (length p) buffer ≡ p) → answer_by (frame_of x) buffer ≡ answer_to x
parsed-by malformed buffer h = refl
parsed-by (parsed pgn p) buffer h = known_by (message_of_lem pgn) pgn p buffer (h pgn p refl)

-- the answer by what is kept of a line is the line's
pub answers : (line buffer : List ℕ) → length line < 2 ^ 64 → payload_max ≤ length buffer → answer_by (frame_by (line_after empty_line_lem line)) (buffer_after empty_line_lem buffer line) ≡ answered line
answers line buffer small room =
    ap (λ (f : Result Frame FrameRefusal). answer_by f (buffer_after empty_line_lem buffer line)) (frame line small)
    ∙ parsed-by (line_of line) (buffer_after empty_line_lem buffer line) (λ pgn p e l. ap (take (length p)) (payload line buffer pgn p e small) ∙ whole-front p buffer (omega arith))

-- 14 and 15 are printed by the numbers that `frames` gives them, and 15 with the PGN that it carries "in 6 digits"
pub malformed-number : malformed_line ≡ refused_text (number_of Malformed) (carried_of Malformed) ++ newline
unfolding higher carried_texts
malformed-number = refl

pub unknown-number : (pgn : ℕ) → unknown_line pgn ≡ 70 ∷ spaced (number_of (Unknown pgn)) ++ 32 ∷ pgn_text pgn ++ newline
unfolding higher unknown_line
unknown-number pgn = refl

-- ## All lines

kept-size : (a b : Bool) (buffer : List ℕ) (i x : ℕ) → length (pick a buffer (pick b buffer (set buffer i x))) ≡ length buffer
kept-size true b buffer i x = refl
kept-size false true buffer i x = refl
kept-size false false buffer i x = length-set buffer i x

buffer-size : (l : Line) (buffer bs : List ℕ) → length (buffer_after l buffer bs) ≡ length buffer
unfolding buffer_after
buffer-size l buffer [] = refl
buffer-size l buffer (b ∷ bs) = buffer-size (fed_by l (value_of b)) (kept_by l buffer (value_of b)) bs ∙ kept-size (leb l.digits 6) (eqb (l.digits % 2) 0) buffer ((l.digits - 7) / 2) (l.last % 16 * 16 + value_of b % 16)

-- what is kept of a line that has come so far: `before` was in the buffer as it began
pub record Keeps (k : Kept) (line : List ℕ) : Type 0 where
  pub before : List ℕ
  pub room : payload_max ≤ length before
  pub known : k.line ≡ line_after empty_line_lem line
  pub holds : k.buffer ≡ buffer_after empty_line_lem before line

keeps-byte : (k : Kept) (line : List ℕ) (b : ℕ) → Keeps k line → Keeps (samopute.fed k b) (line ++ b ∷ [])
unfolding line_after buffer_after
keeps-byte k line b h = record {
  before = h.before;
  room = h.room;
  known = ap (λ (l : Line). fed_by l (value_of b)) h.known ∙ sym (line-pieces empty_line_lem line (b ∷ []));
  holds =
      ap (λ (l : Line). kept_by l k.buffer (value_of b)) h.known ∙ ap (λ (x : List ℕ). kept_by (line_after empty_line_lem line) x (value_of b)) h.holds
      ∙ sym (buffer-pieces empty_line_lem h.before line (b ∷ []));
}

keeps-fresh : (k : Kept) (line : List ℕ) → Keeps k line → Keeps (samopute.fresh k) []
unfolding line_after buffer_after
keeps-fresh k line h = record {
  before = k.buffer;
  room = let e = ap length h.holds ∙ buffer-size empty_line_lem h.before line in omega (arith, h.room, e);
  known = refl;
  holds = refl;
}

pub keeps-start : (buffer : List ℕ) → payload_max ≤ length buffer → Keeps (kept empty_line_lem buffer) []
unfolding line_after buffer_after
keeps-start buffer room = record { before = buffer; room = room; known = refl; holds = refl }

keeps-answer : (k : Kept) (line : List ℕ) → Keeps k line → length line < 2 ^ 64 → samopute.answer k ≡ answered line
keeps-answer k line h small =
    ap (λ (l : Line). answer_by (frame_by l) k.buffer) h.known ∙ ap (answer_by (frame_by (line_after empty_line_lem line))) h.holds ∙ answers line h.before small h.room

-- what is printed for an input, from a buffer that holds anything
pub exact : (buffer input : List ℕ) → payload_max ≤ length buffer → length input < 2 ^ 64 → text_from samopute (kept empty_line_lem buffer) input ≡ text_from (plain answered) [] input
exact buffer input room small =
    alike samopute answered (2 ^ 64) Keeps (λ k l b n h. keeps-byte k l b h) keeps-fresh keeps-answer (kept empty_line_lem buffer) [] input (keeps-start buffer room) (omega arith)

-- ## Room

-- with the room that the program has, no decode by a built-in message gives 9
pub never-full : (m : Message) (payload : List ℕ) (i n : ℕ) → decoded_of_lem (table_of (words_of m)) payload payload_max room_enough_lem ≡ refused_with (NoRoom i) n → ⊥
never-full m payload i n h = enough-room (table_of (words_of m)) payload (replicate payload_max 0) room_enough_lem (omega arith) i n (ap (λ (k : ℕ). decoded_of_lem (table_of (words_of m)) payload k room_enough_lem) (length-replicate {A = ℕ} payload_max 0) ∙ h)
