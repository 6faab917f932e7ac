-- How long an answer is: at most 70 bytes beside a buffer, and two for each byte of the buffer. Assumes nothing.
use mathlib.Core.Path.{◌≡◌, refl}
use mathlib.Core.Bool.{Bool, true, false, ◌&&◌}
use mathlib.Core.List.{List, [], ◌∷◌, ◌++◌}
use Prim.Native.Nat.{ℕ, ◌+◌, ◌*◌, ◌/◌, ◌%◌, ◌≤◌}
use native.Mathlib.Omega.{arith}
use borrow.Author.Tests.{leb-true}
use lib.Dec.{eqb, leb}
use lib.ListN.{length, take, drop, length-append, length-take, length-drop}
use Rattle.std.specs.Prelude.{is_some, unwrap_or}
use Rattle.bits.specs.Bits.{pick}
use Rattle.bits.specs.Refusals.{number_of, carried_of}
use Rattle.bits.specs.Calls.{cursor_at, place, read_of, advance_of, written_of, read_slice_of, part_of, slice_room_of, write_slice_of, sliced_in, sliced_of, remaining_of}
use Rattle.bits.specs.declared.BitRefusal.{BitRefusal}
use Rattle.bits.specs.declared.BitRefusal.TheVariants.{BufferTooLong, TooLongForType, NonAlignedBit, OutOfBits, OutOfBytes}
use Rattle.bits.specs.declared.Cursor.{Cursor}
use Rattle.bits.specs.declared.Part.{Part}
use Rattle.bits.specs.declared.Read.{Read as BitRead}
use Rattle.std.specs.Prelude.{⊤, Result, Ok, Err}
use Rattle.bits.proofs.Rooms.{whole}
use Rattle.bits.proofs.Laws.{length-written_of}
use Rattle.bits.proofs.Slices.{length-pasted}
use Rattle.hexadecimal.specs.Digits.{all_digits_lem}
use Rattle.hexadecimal.proofs.Inverse.{both, length_pairs}
use Rattle.text.specs.Digits.{spaced, spaced_hex}
use Rattle.text.specs.Refusals.{carried_text, carried_texts, refused_text, malformed_text, table_refused}
use Rattle.text.proofs.Sizes.{either, spaced-size, hex-size, bytes-size}
use Rattle.columns.specs.Parts.{space, field, marks_in}
use Rattle.columns.specs.Numbers.{decimal_in, hex_in}
use Rattle.columns.specs.Runs.{is_bytes, bytes_of}
use Rattle.lines.specs.Machine.{newline}
use Rattle.bitcalls.specs.Names.{call_of, spaces_of_lem, count_max_lem, widest, largest}
use Rattle.bitcalls.specs.Text.{ok_text, refusal_text, part_text, read_text, slice_text, moved_text, written_text, remaining_text, write_text, bytes_max, write_slice_text}
use Rattle.bitcalls.specs.Answers.{call_text, counted_text, form_text, head_text, answer_text, answered}
use Rattle.bitcalls.specs.declared.names.Call.{Call}
use Rattle.bitcalls.specs.declared.names.Call.TheVariants.{Read, Advance, ReadSlice, Write, WriteAdvance, WriteSlice, Remaining, Unknown}
use Rattle.bitcalls.specs.declared.names.Width.{Width}

-- ## The parts

ok-size : (n : ℕ) → length (ok_text n) ≤ 23
ok-size n = omega (arith, spaced-size n)

carried-size : (t : Bool) (n : ℕ) → length (carried_text t n) ≤ 21
carried-size true n = omega arith
carried-size false n = spaced-size n

all-carried-size : (t : Bool) (ns : List ℕ) → length (carried_texts t ns) ≤ 21 * length ns
unfolding carried_texts
all-carried-size t [] = omega arith
all-carried-size t (n ∷ ns) = omega (arith, length-append (carried_text t n) (carried_texts false ns), carried-size t n, all-carried-size false ns)

few : (e : BitRefusal) → length (carried_of e) ≤ 2
few (TooLongForType max asked) = omega arith
few (OutOfBits asked available) = omega arith
few (OutOfBytes asked available) = omega arith
few (NonAlignedBit cursor) = omega arith
few (BufferTooLong len) = omega arith

refused-size : (number : ℕ) (ns : List ℕ) → length ns ≤ 2 → length (refused_text number ns) ≤ 64
refused-size number ns l =
    let rest = carried_texts (eqb number table_refused) ns in
    omega (arith, length-append (spaced number) rest, spaced-size number, all-carried-size (eqb number table_refused) ns)

refusal-size : (e : BitRefusal) → length (refusal_text e) ≤ 64
refusal-size e = refused-size (number_of e) (carried_of e) (few e)

-- ## The answers

read-size : (r : Result (BitRead ℕ) BitRefusal) → length (read_text r) ≤ 64
read-size (Ok a) = omega (arith, length-append (ok_text (place a.next)) (spaced_hex a.value), ok-size (place a.next), (hex-size a.value).1)
read-size (Err e) = refusal-size e

moved-size : (m : Result Cursor BitRefusal) → length (moved_text m) ≤ 64
moved-size (Ok next) = omega (arith, ok-size (place next))
moved-size (Err e) = refusal-size e

written-size : (m : Result Cursor BitRefusal) (s : List ℕ) → length (written_text m s) ≤ 70 + 2 * length s
written-size m s = omega (arith, length-append (moved_text m) (32 ∷ 124 ∷ part_text s), moved-size m, bytes-size s)

cut : (n a : ℕ) (s : List ℕ) → length (take n (drop a s)) ≤ length s
cut n a s = omega (arith, length-take n (drop a s), length-drop a s)

slice-size : (s : List ℕ) (r : Result (BitRead Part) BitRefusal) → length (slice_text s r) ≤ 70 + 2 * length s
slice-size s (Ok a) =
    omega
    (arith, length-append (ok_text (place a.next)) (part_text (part_of s a.value)), ok-size (place a.next), bytes-size (part_of s a.value), cut a.value.len.0 a.value.start.0 s)
slice-size s (Err e) = omega (arith, refusal-size e)

-- a buffer keeps its length
sliced-length : (s : List ℕ) (c : Cursor) (src : List ℕ) → length (sliced_of s c src) ≡ length s
sliced-length s c src = go (slice_room_of (length s) (place c) (length src)) refl
  where
    go : (r : Result ⊤ BitRefusal) → slice_room_of (length s) (place c) (length src) ≡ r → length (sliced_in r s c src) ≡ length s
    go (Ok u) q = length-pasted s src (place c / 8) (whole _ _ _ q).inside
    go (Err e) q = refl

module _ (c : Cursor) (s : List ℕ) (n : ℕ) where
  abbrev most : ℕ
  most = 70 + 2 * length s

  remaining-size : length (remaining_text c s n) ≤ most
  remaining-size =
      let left = (remaining_of (length s) c).0 in
      either (eqb n 0) (ok_text (place c) ++ spaced left) malformed_text most (omega (arith, length-append (ok_text (place c)) (spaced left), ok-size (place c), spaced-size left)) (omega arith)

  write-size : (w : Width) (value : List ℕ) → length (write_text w c s n value) ≤ most
  write-size w value =
      let v = unwrap_or (hex_in value) 0 in
      let new = written_of s c n (widest w) v in
      let m = advance_of (length s) c n (widest w) in
      either (is_some (hex_in value) && leb v (largest w)) (written_text m new) malformed_text most (omega (arith, written-size m new, length-written_of s c n (widest w) v)) (omega arith)

  write-slice-size : (value : List ℕ) → length (write_slice_text c s n value) ≤ most
  write-slice-size value =
      let src = bytes_of value in
      let m = write_slice_of (length s) c (length src) in
      either (is_bytes bytes_max value && eqb (length src) n) (written_text m (sliced_of s c src)) malformed_text most
      (omega (arith, written-size m (sliced_of s c src), sliced-length s c src)) (omega arith)

  call-size : (x : Call) (value : List ℕ) → length (call_text x c s n value) ≤ most
  call-size (Read w) value = omega (arith, read-size (read_of s c n (widest w)))
  call-size Advance value = omega (arith, moved-size (advance_of (length s) c n 64))
  call-size ReadSlice value = slice-size s (read_slice_of (length s) c n)
  call-size (Write w) value = write-size w value
  call-size WriteAdvance value = written-size (advance_of (length s) c n 64) s
  call-size WriteSlice value = write-slice-size value
  call-size Remaining value = remaining-size
  call-size Unknown value = omega arith

  form-size : (line : List ℕ) → length (form_text line c s n) ≤ most
  form-size line =
      let x = call_of (field line 0) in
      either (eqb (marks_in space line) (spaces_of_lem x)) (counted_text x c s n (field line 4)) malformed_text most
      (either (leb n (count_max_lem x)) (call_text x c s n (field line 4)) malformed_text most (call-size x (field line 4)) (omega arith)) (omega arith)

-- ## A line

few_bytes : (field : List ℕ) → is_bytes bytes_max field ≡ true → length (bytes_of field) ≤ bytes_max
few_bytes [] e = omega arith
few_bytes (b ∷ []) e = omega arith
few_bytes (b ∷ c ∷ bs) e =
    let field = b ∷ c ∷ bs in
    let h = (both (eqb (length field % 2) 0 && leb (length field / 2) bytes_max) (all_digits_lem field) e).0 in
    let k = (both (eqb (length field % 2) 0) (leb (length field / 2) bytes_max) h).1 in
    omega (arith, length_pairs field, leb-true (length field / 2) bytes_max k)

-- no answer has more bytes, without its newline
abbrev text_max : ℕ
text_max = 70 + 2 * bytes_max

head-size : (cursor count buffer : List ℕ) (rest : Cursor → List ℕ → ℕ → List ℕ)
    → ((c : Cursor) (s : List ℕ) (n : ℕ) → length (rest c s n) ≤ 70 + 2 * length s) → length (head_text cursor count buffer rest) ≤ text_max
head-size cursor count buffer rest l = go (is_some (decimal_in cursor) && is_some (decimal_in count)) (is_bytes bytes_max buffer) refl
  where
    go : (g t : Bool) → is_bytes bytes_max buffer ≡ t
        → length (pick (g && t) (rest (cursor_at (unwrap_or (decimal_in cursor) 0)) (bytes_of buffer) (unwrap_or (decimal_in count) 0)) malformed_text) ≤ text_max
    go true true e = omega (arith, l (cursor_at (unwrap_or (decimal_in cursor) 0)) (bytes_of buffer) (unwrap_or (decimal_in count) 0), few_bytes buffer e)
    go true false e = omega arith
    go false t e = omega arith

pub answer-size : (line : List ℕ) → length (answered line) ≤ 583
unfolding answered
answer-size line = omega (arith, length-append (answer_text line) (newline ∷ []), head-size (field line 1) (field line 2) (field line 3) (form_text line) (λ c s n. form-size c s n line))
