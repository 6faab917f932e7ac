-- How long an answer is: at most 1,785 lines of readings of at most 160 bytes each, the end or the refusal, and the padding run. Assumes nothing.
use mathlib.Core.Path.{◌≡◌, refl}
use mathlib.Core.Bool.{Bool, true, false, ◌&&◌, and-eq-true_iff}
use mathlib.Core.List.{List, [], ◌∷◌, ◌++◌, flat_map}
use Prim.Native.Nat.{ℕ, ◌+◌, ◌*◌, ◌≤◌}
use native.Mathlib.Omega.{arith}
use borrow.Author.Tests.{leb-true}
use lib.Dec.{eqb, leb}
use lib.ListN.{length, drop, replicate, length-append, length-drop, length-replicate}
use Rattle.std.specs.Prelude.{Result, Ok, Err, Option, Some, None, is_some, unwrap_or}
use Rattle.bits.specs.Bits.{pick}
use Rattle.bits.specs.declared.BitPos.{BitPos}
use Rattle.fields.specs.declared.DecodeRefusal.{DecodeRefusal}
use Rattle.hexadecimal.proofs.Inverse.{length_digits}
use Rattle.text.specs.Digits.{spaced, bytes_text}
use Rattle.text.specs.Refusals.{malformed_text}
use Rattle.text.proofs.Sizes.{plus, hex-size, spaced-size, bytes-size}
use Rattle.columns.specs.Parts.{space, parts_of, marks_in, field}
use Rattle.columns.specs.Numbers.{decimal_in}
use Rattle.columns.specs.Runs.{is_bytes, bytes_of, values_of, is_words}
use Rattle.lines.specs.Machine.{newline as mark}
use Rattle.descriptor.specs.declared.PgnValue.{PgnValue}
use Rattle.descriptor.specs.declared.PgnValue.TheVariants.{U64, U32, U16, U8, I64, I32, I16, I8, F64, F32, Bytes}
use Rattle.numbers.specs.Words.{word_of_lem}
use Rattle.tables.specs.Table.{Table, table_of}
use Rattle.fields.specs.Payload.{payload_of}
use Rattle.reading.specs.declared.Reading.{Reading}
use Rattle.reading.specs.Filling.{fills, working_of, padded_of, prepared_of, kept_unless, run_after}
use Rattle.reading.specs.Decode.{read_into, readings_of, decoded_of_lem}
use Rattle.reading.specs.Demand3.{room_enough_lem}
use Rattle.reading.proofs.Working.{ready-accepted, working-le}
use Rattle.reading.proofs.Roomy.{few-readings}
use Rattle.frame_lines.specs.Lines.{newline, head_text, place_text}
use Rattle.frame_lines.proofs.Sizes.{value-size, head-size, refusal-size, texts-size}
use Rattle.readcalls.specs.Lines.{raw_text, kind_text, encoding_text, content_text, reading_line, last_line_by, last_line_lem, untouched, touched, run_line, decode_text}
use Rattle.readcalls.specs.Answers.{padding_max, words_max, comma, payload_most, is_case_lem, case_text, answered}
use Rattle.readcalls.proofs.Touching.{touched-size}

-- ## A reading

raw-size : (r : Option ℕ) → length (raw_text r) ≤ 20
raw-size (Some n) = (hex-size n).1
raw-size None = omega arith

kind-size : (x : PgnValue) → length (kind_text x) ≤ 6
kind-size (U64 x) = omega arith
kind-size (U32 x) = omega arith
kind-size (U16 x) = omega arith
kind-size (U8 x) = omega arith
kind-size (I64 x) = omega arith
kind-size (I32 x) = omega arith
kind-size (I16 x) = omega arith
kind-size (I8 x) = omega arith
kind-size (F64 x) = omega arith
kind-size (F32 x) = omega arith
kind-size (Bytes b) = omega arith

encoding-size : (e : Option ℕ) → length (encoding_text e) ≤ 3
encoding-size (Some b) = omega (arith, length_digits (b ∷ []))
encoding-size None = omega arith

content-size : (x : PgnValue) → length (content_text x) ≤ 45
content-size (U64 x) = omega (arith, (hex-size (word_of_lem (U64 x))).1)
content-size (U32 x) = omega (arith, (hex-size (word_of_lem (U32 x))).1)
content-size (U16 x) = omega (arith, (hex-size (word_of_lem (U16 x))).1)
content-size (U8 x) = omega (arith, (hex-size (word_of_lem (U8 x))).1)
content-size (I64 x) = omega (arith, (hex-size (word_of_lem (I64 x))).1)
content-size (I32 x) = omega (arith, (hex-size (word_of_lem (I32 x))).1)
content-size (I16 x) = omega (arith, (hex-size (word_of_lem (I16 x))).1)
content-size (I8 x) = omega (arith, (hex-size (word_of_lem (I8 x))).1)
content-size (F64 x) = omega (arith, (hex-size (word_of_lem (F64 x))).1)
content-size (F32 x) = omega (arith, (hex-size (word_of_lem (F32 x))).1)
content-size (Bytes b) = omega (arith, plus (place_text b) (encoding_text b.encoding) 41 3 (value-size (Bytes b)) (encoding-size b.encoding))

reading-size : (r : Reading) → length (reading_line r) ≤ 160
unfolding reading_line
reading-size r =
    let h = head_text r in
    let w = raw_text r.raw in
    let k = kind_text r.value in
    let v = content_text r.value in
    let a : length (h ++ w) ≤ 108 = plus h w 88 20 (head-size r) (raw-size r.raw) in
    let b : length (h ++ w ++ k) ≤ 114 = plus (h ++ w) k 108 6 a (kind-size r.value) in
    let c : length (h ++ w ++ k ++ v) ≤ 159 = plus (h ++ w ++ k) v 114 45 b (content-size r.value) in
    plus (h ++ w ++ k ++ v) newline 159 1 c (omega arith)

-- ## The other lines

last-size : (o : Result BitPos DecodeRefusal) (count : ℕ) → length (last_line_by o count) ≤ 130
unfolding last_line_by
last-size (Ok end) count =
    let a : length (spaced end.0 ++ spaced count) ≤ 42 = plus (spaced end.0) (spaced count) 21 21 (spaced-size end.0) (spaced-size count) in
    omega (arith, plus (spaced end.0 ++ spaced count) newline 42 1 a (omega arith))
last-size (Err e) count = refusal-size e

run-line-size : (run : List ℕ) → length (run_line run) ≤ 4 + 2 * length run
unfolding run_line
run-line-size run =
    let a : length (bytes_text (touched run)) ≤ 1 + 2 * length run = omega (arith, bytes-size (touched run), touched-size run) in
    omega (arith, plus (bytes_text (touched run)) newline (1 + 2 * length run) 1 a (omega arith))

-- ## A decode

module _ (t : Table) (received run : List ℕ) (room : ℕ) where
  -- whatever the room
  few : length (readings_of t received (length run) room) ≤ room_enough_lem
  few = go (prepared_of t (length received) (length run)) refl
    where
      go : (p : Result (Unit {0}) DecodeRefusal) → prepared_of t (length received) (length run) ≡ p → length (read_into p t (payload_of (working_of t received)) room) ≤ room_enough_lem
      go (Ok tt) e =
          let p = payload_of (working_of t received) in
          let many = few-readings t (ready-accepted t received run e) p room in
          let short = working-le t received run e in
          omega (arith, many, short)
      go (Err x) e = omega arith

  -- a run that was filled holds the payload first
  after-size : length (run_after t received run) ≤ 223 + length run
  after-size = go (prepared_of t (length received) (length run)) refl
    where
      by : (b : Bool) → length (working_of t received) ≤ 223 → length (pick b (working_of t received ++ drop t.length run) run) ≤ 223 + length run
      by true l = omega (arith, length-append (working_of t received) (drop t.length run), length-drop t.length run, l)
      by false l = omega arith

      go : (p : Result (Unit {0}) DecodeRefusal) → prepared_of t (length received) (length run) ≡ p → length (kept_unless p (padded_of t received run) run) ≤ 223 + length run
      go (Ok tt) e = by (fills t (length received)) (working-le t received run e)
      go (Err x) e = omega arith

  decode-size : length run ≤ padding_max → length (decode_text t received run room) ≤ 286780
  decode-size l =
      let rs = readings_of t received (length run) room in
      let d = decoded_of_lem t received (length run) room in
      let many : length (flat_map reading_line rs) ≤ 285600 = omega (arith, texts-size reading_line 160 reading-size rs, few) in
      let last : length (run_line (run_after t received run)) ≤ 1050 = omega (arith, run-line-size (run_after t received run), after-size, l) in
      let rest : length (last_line_lem d ++ run_line (run_after t received run)) ≤ 1180 = plus (last_line_lem d) (run_line (run_after t received run)) 130 1050 (last-size d.end d.count) last in
      plus (flat_map reading_line rs) (last_line_lem d ++ run_line (run_after t received run)) 285600 1180 many rest

-- ## A line

-- no answer has more bytes
abbrev pub answer_max : ℕ
answer_max = 286780

padding-small : (a b c d e : Bool) (n : ℕ) → (a && b && c && leb n padding_max && d && e) ≡ true → n ≤ padding_max
padding-small a b c d e n h =
    let s = ((and-eq-true_iff (a && b && c && leb n padding_max && d) e).0 h).0 in
    let s' = ((and-eq-true_iff (a && b && c && leb n padding_max) d).0 s).0 in
    leb-true n padding_max ((and-eq-true_iff (a && b && c) (leb n padding_max)).0 s').1

pub answer-size : (line : List ℕ) → length (answered line) ≤ answer_max
unfolding answered
answer-size line = go (is_case_lem line) refl
  where
    go : (b : Bool) → is_case_lem line ≡ b → length (pick b (case_text line) (malformed_text ++ mark ∷ [])) ≤ answer_max
    go true e =
        let n = unwrap_or (decimal_in (field line 1)) 0 in
        let small = padding-small (eqb (marks_in space line) 3) (is_some (decimal_in (field line 0))) (is_some (decimal_in (field line 1))) (is_words comma words_max (field line 2)) (is_bytes payload_most (field line 3)) n e in
        let size = length-replicate n untouched in
        decode-size (table_of (values_of (parts_of comma (field line 2)))) (bytes_of (field line 3)) (replicate n untouched) (unwrap_or (decimal_in (field line 0)) 0) (omega (arith, size, small))
    go false e = omega arith
