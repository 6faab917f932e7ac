-- No line is longer than 130 bytes, and the text of a walk no longer than those of its readings and one more. Assumes nothing.
use mathlib.Core.Path.{◌≡◌}
use mathlib.Core.List.{List, [], ◌∷◌, ◌++◌, flat_map}
use Prim.Native.Nat.{ℕ, ◌+◌, ◌*◌, ◌≤◌, ◌<◌}
use native.Mathlib.Omega.{arith}
use lib.ListN.{length}
use Rattle.walking.specs.Walk.{Element}
use Rattle.std.specs.Prelude.{Option, Some, None, Result, Ok, Err}
use Rattle.text.specs.Digits.{decimal_of, spaced}
use Rattle.text.specs.Refusals.{refused_text}
use Rattle.text.proofs.Sizes.{plus, decimal-size, hex-size, fixed-size, spaced-size, refused-size}
use Rattle.bits.specs.declared.BitPos.{BitPos}
use Rattle.descriptor.specs.declared.Availability.{Availability}
use Rattle.descriptor.specs.declared.Availability.TheVariants.{Available, NotAvailable}
use Rattle.descriptor.specs.declared.PgnValue.{PgnValue}
use Rattle.descriptor.specs.declared.PgnValue.TheVariants.{U64, U32, U16, U8, I64, I32, I16, I8, F64, F32, Bytes}
use Rattle.tables.specs.Table.{Table}
use Rattle.fields.specs.declared.DecodeRefusal.{DecodeRefusal}
use Rattle.fields.specs.Refusals.{number_of, carried_of}
use Rattle.fields.specs.Payload.{Payload}
use Rattle.reading.specs.declared.Reading.{Reading}
use Rattle.reading.specs.Decode.{walk_of, readings, spans_of, end_of}
use Rattle.reading.proofs.Seated as seats
use Rattle.frame_lines.specs.Lines.{newline, pgn_text, frame_line, unknown_line, element_text, availability_text, value_text, raw_text, head_text, reading_line, end_line, refusal_line}
use Rattle.frame_lines.specs.Decode.{reading_lines, last_line_by, last_line_lem, walk_text}
use Rattle.frame_lines.proofs.Carried.{few}

element-size : (e : Element) → length (element_text e) ≤ 21
element-size None = omega arith
element-size (Some k) = spaced-size k

availability-size : (a : Availability) → length (availability_text a) ≤ 3
availability-size Available = omega arith
availability-size NotAvailable = omega arith

pub value-size : (x : PgnValue) → length (value_text x) ≤ 41
value-size (U64 x) = omega arith
value-size (U32 x) = omega arith
value-size (U16 x) = omega arith
value-size (U8 x) = omega arith
value-size (I64 x) = omega arith
value-size (I32 x) = omega arith
value-size (I16 x) = omega arith
value-size (I8 x) = omega arith
value-size (F64 x) = omega arith
value-size (F32 x) = omega arith
value-size (Bytes b) = plus (decimal_of b.start.0) (58 ∷ decimal_of b.len.0) 20 21 (decimal-size b.start.0).1 (omega (arith, (decimal-size b.len.0).1))

raw-size : (r : Option ℕ) (x : PgnValue) → length (raw_text r x) ≤ 41
raw-size (Some n) x = omega (arith, (hex-size n).1)
raw-size None x = value-size x

pub head-size : (r : Reading) → length (head_text r) ≤ 88
head-size r =
    let f = spaced r.field in
    let e = element_text r.element in
    let s = spaced r.start.0 in
    let n = spaced r.bits.0 in
    let v = availability_text r.availability in
    let a : length (f ++ e) ≤ 42 = plus f e 21 21 (spaced-size r.field) (element-size r.element) in
    let b : length (f ++ e ++ s) ≤ 63 = plus (f ++ e) s 42 21 a (spaced-size r.start.0) in
    let c : length (f ++ e ++ s ++ n) ≤ 84 = plus (f ++ e ++ s) n 63 21 b (spaced-size r.bits.0) in
    let d : length (f ++ e ++ s ++ n ++ v) ≤ 87 = plus (f ++ e ++ s ++ n) v 84 3 c (availability-size r.availability) in
    omega (arith, d)

reading-size : (r : Reading) → length (reading_line r) ≤ 130
unfolding reading_line
reading-size r =
    let x = head_text r ++ raw_text r.raw r.value in
    let a : length x ≤ 129 = plus (head_text r) (raw_text r.raw r.value) 88 41 (head-size r) (raw-size r.raw r.value) in
    let d : length (x ++ newline) ≤ 130 = plus x newline 129 1 a (omega arith) in
    d

end-size : (n : ℕ) → length (end_line n) ≤ 130
unfolding end_line
end-size n = omega (arith, plus (spaced n) newline 21 1 (spaced-size n) (omega arith))

pub refusal-size : (e : DecodeRefusal) → length (refusal_line e) ≤ 130
unfolding refusal_line
refusal-size e =
    let a : length (refused_text (number_of e) (carried_of e)) ≤ 85 = refused-size (number_of e) (carried_of e) (few e) in
    omega (arith, plus (refused_text (number_of e) (carried_of e)) newline 85 1 a (omega arith))

last-size : (o : Result BitPos DecodeRefusal) → length (last_line_by o) ≤ 130
last-size (Ok end) = end-size end.0
last-size (Err e) = refusal-size e

-- readings by any text of at most n bytes
pub texts-size : (text : Reading → List ℕ) (n : ℕ) → ((r : Reading) → length (text r) ≤ n) → (rs : List Reading) → length (flat_map text rs) ≤ length rs * n
unfolding flat_map
texts-size text n h [] = omega arith
texts-size text n h (r ∷ rs) =
    let more : length (r ∷ rs) * n ≡ n + length rs * n = omega arith in
    omega (arith, plus (text r) (flat_map text rs) n (length rs * n) (h r) (texts-size text n h rs), more)

-- a walk hands out no more readings than there is room for
pub walk-size : (t : Table) (p : Payload) (room : ℕ) → length (walk_text t p room) ≤ room * 130 + 130
walk-size t p room =
    let rs = readings t p (spans_of (walk_of t p room)) in
    omega (arith, plus (reading_lines rs) (last_line_lem (end_of t p (walk_of t p room))) (length rs * 130) 130 (texts-size reading_line 130 reading-size rs) (last-size (end_of t p (walk_of t p room)).end), seats.few t p room)

-- ## The other lines
pub frame-size : (pgn received : ℕ) → (0 < length (frame_line pgn received)) × (length (frame_line pgn received) ≤ 30)
unfolding frame_line
frame-size pgn received =
    let d = pgn_text pgn in
    let n = spaced received in
    let a : length (d ++ n) ≤ 27 = plus d n 6 21 (omega (arith, fixed-size 16 6 pgn)) (spaced-size received) in
    let b : length (d ++ n ++ newline) ≤ 28 = plus (d ++ n) newline 27 1 a (omega arith) in
    (omega arith, omega (arith, b))

pub unknown-size : (pgn : ℕ) → (0 < length (unknown_line pgn)) × (length (unknown_line pgn) ≤ 30)
unfolding unknown_line
unknown-size pgn =
    let d = pgn_text pgn in
    let b : length (d ++ newline) ≤ 7 = plus d newline 6 1 (omega (arith, fixed-size 16 6 pgn)) (omega arith) in
    (omega arith, omega (arith, b))
