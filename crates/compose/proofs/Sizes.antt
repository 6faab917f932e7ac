-- How long an answer is. Assumes nothing.
use Rattle.std.specs.Prelude.{Result, Ok, Err, Option, Some, None, is_some, unwrap_or}
use mathlib.Core.Path.{◌≡◌, refl}
use mathlib.Core.Bool.{Bool, true, false, ◌&&◌}
use mathlib.Core.List.{List, [], ◌∷◌}
use Prim.Native.Nat.{ℕ, ◌+◌, ◌*◌, ◌≤◌}
use native.Mathlib.Omega.{arith}
use borrow.Author.Tests.{leb-true}
use lib.Dec.{eqb, leb}
use lib.ListN.{length, take, drop, length-append, length-take, length-replicate}
use Rattle.bits.specs.declared.ByteCount.{ByteCount}
use Rattle.bits.specs.Bits.{pick}
use Rattle.hexadecimal.specs.Digits.{digits_of}
use Rattle.hexadecimal.proofs.Inverse.{length_digits}
use Rattle.text.specs.Digits.{bytes_text}
use Rattle.text.proofs.Sizes.{spaced-size, fixed-size, refused-size}
use Rattle.columns.specs.Parts.{parts_of, field}
use Rattle.columns.specs.Numbers.{decimal_in, hex_in}
use Rattle.columns.specs.Runs.{values_of}
use Rattle.lines.specs.Machine.{newline}
use Rattle.tables.specs.Table.{table_of}
use Rattle.messages.specs.Messages.{message_of_lem, words_of}
use Rattle.messages.specs.declared.Message.{Message}
use Rattle.weighing.specs.Refusals.{number_of, carried_of}
use Rattle.weighing.specs.declared.EncodeRefusal.{EncodeRefusal}
use Rattle.offers.specs.Records.{values_in}
use Rattle.writing.specs.Encode.{encoded_of, buffer_after}
use Rattle.frame_lines.specs.Lines.{pgn_text, malformed_line, unknown_line}
use Rattle.compose.specs.Records.{Lists, lists, unlisted, lists_of}
use Rattle.compose.specs.Answers.{refusal_text, made_text, outcome_text, buffer_text, encode_text, comma, are_words_lem, buffer_of, table_text, blank, frame_line, known_text, pgn_line, fields_of, is_t_lem, leading, order_text, listed_text, answered}
use Rattle.compose.proofs.Carried.{few}
use Rattle.compose.proofs.Ordering.{after-size}

-- no answer has more bytes
abbrev pub answer_max : ℕ
answer_max = 700

either : (t : Bool) (a b : List ℕ) → length a ≤ answer_max → length b ≤ answer_max → length (pick t a b) ≤ answer_max
either true a b h k = h
either false a b h k = k

-- ## What came of an encode

refusal-size : (e : EncodeRefusal) → length (refusal_text e) ≤ 85
refusal-size e = refused-size (number_of e) (carried_of e) (few e)

made-size : (pgn : ℕ) (payload : List ℕ) (x : Result ByteCount EncodeRefusal) → length payload ≡ 223 → length (made_text pgn payload x) ≤ 452
made-size pgn payload (Ok used) l =
    omega
    (arith, length-append (pgn_text pgn) (digits_of (take used.0 payload)), fixed-size 16 6 pgn, length_digits (take used.0 payload), length-take used.0 payload)
made-size pgn payload (Err e) l = omega (arith, refusal-size e)

outcome-size : (x : Result ByteCount EncodeRefusal) → length (outcome_text x) ≤ 85
outcome-size (Ok used) = omega (arith, spaced-size used.0)
outcome-size (Err e) = refusal-size e

bytes-size : (s : List ℕ) → length (bytes_text s) ≤ 1 + 2 * length s
bytes-size [] = omega arith
bytes-size (x ∷ xs) = omega (arith, length_digits (x ∷ xs))

module _ (values lent : List ℕ) where
  -- ## By a table

  encode-size : (words buffer : List ℕ) → length buffer ≤ 300 → length (encode_text words values lent buffer) ≤ answer_max
  unfolding encode_text
  encode-size words buffer l =
      let t = table_of words in
      let x = encoded_of t (values_in values) (length lent) (length buffer) in
      let after = buffer_after t (values_in values) lent buffer in
      omega
      (arith, length-append (outcome_text x) (buffer_text after), outcome-size x, length-append (bytes_text after) (newline ∷ []), bytes-size after, after-size t (values_in values) lent buffer)

  table-by : (words size : List ℕ) (a b : Bool) → leb (unwrap_or (decimal_in size) 0) 300 ≡ b
      → length (pick (a && b) (encode_text (values_of (parts_of comma words)) values lent (buffer_of (unwrap_or (decimal_in size) 0))) malformed_line) ≤ answer_max
  table-by words size true true e =
      encode-size (values_of (parts_of comma words)) (buffer_of (unwrap_or (decimal_in size) 0))
      (omega (arith, length-replicate {A = ℕ} (unwrap_or (decimal_in size) 0) 0xa5, leb-true (unwrap_or (decimal_in size) 0) 300 e))
  table-by words size true false e = omega arith
  table-by words size false b e = omega arith

  and_assoc : (a b c : Bool) → a && (b && c) ≡ (a && b) && c
  and_assoc true b c = refl
  and_assoc false b c = refl

  table-size : (words size : List ℕ) → length (table_text words size values lent) ≤ answer_max
  unfolding table_text
  table-size words size =
      rw (and_assoc (are_words_lem words) (is_some (decimal_in size)) (leb (unwrap_or (decimal_in size) 0) 300))
      (table-by words size (are_words_lem words && is_some (decimal_in size)) (leb (unwrap_or (decimal_in size) 0) 300) refl)

  -- ## By a PGN

  frame-size : (words : List ℕ) (pgn : ℕ) → length (frame_line words pgn values lent) ≤ answer_max
  unfolding frame_line
  frame-size words pgn =
      let t = table_of words in
      let payload = buffer_after t (values_in values) lent blank in
      let x = encoded_of t (values_in values) (length lent) (length blank) in
      omega (arith, length-append (made_text pgn payload x) (newline ∷ []), made-size pgn payload x (after-size t (values_in values) lent blank))

  known-size : (k : Option Message) (pgn : ℕ) → length (known_text k pgn values lent) ≤ answer_max
  unfolding unknown_line
  known-size (Some m) pgn = frame-size (words_of m) pgn
  known-size None pgn = omega (arith, length-append (pgn_text pgn) (newline ∷ []), fixed-size 16 6 pgn)

  order-size : (line : List ℕ) → length (order_text line values lent) ≤ answer_max
  unfolding order_text pgn_line
  order-size line =
      let first = field line 0 in
      let pgn = unwrap_or (hex_in first) 0 in
      either (is_t_lem first) (table_text (field line 1) (field line 2) values lent) (pgn_line first values lent) (table-size (field line 1) (field line 2))
      (either (is_some (hex_in first) && eqb (length first) 6) (known_text (message_of_lem pgn) pgn values lent) malformed_line (known-size (message_of_lem pgn) pgn) (omega arith))

-- ## A line

listed-size : (line : List ℕ) (l : Lists) → length (listed_text line l) ≤ answer_max
listed-size line (lists values lent) = order-size values lent line
listed-size line unlisted = omega arith

pub answer-size : (line : List ℕ) → length (answered line) ≤ answer_max
unfolding answered
answer-size line = listed-size line (lists_of (drop (leading line) (fields_of line)))
