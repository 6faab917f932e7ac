-- The text of a bit call's answer: src/main.rt, "'ok CURSOR' and what was read, or 'F NUMBER' and what the refusal carries".
use Rattle.std.specs.Prelude.{ℕ, List, ◌∷◌, ◌++◌, ◌&&◌, eqb, leb, length, is_some, unwrap_or, Result, Ok, Err}
use Rattle.bits.specs.Bits.{pick}
use Rattle.bits.specs.Refusals.{number_of, carried_of}
use Rattle.bits.specs.Calls.{place, advance_of, written_of, part_of, write_slice_of, sliced_of, remaining_of}
use Rattle.bits.specs.declared.BitRefusal.{BitRefusal}
use Rattle.bits.specs.declared.Cursor.{Cursor}
use Rattle.bits.specs.declared.Part.{Part}
use Rattle.bits.specs.declared.Read.{Read}
use Rattle.text.specs.Digits.{spaced, spaced_hex, bytes_text}
use Rattle.text.specs.Refusals.{refused_text, malformed_text}
use Rattle.columns.specs.Numbers.{hex_in}
use Rattle.columns.specs.Runs.{is_bytes, bytes_of}
use Rattle.bitcalls.specs.Names.{widest, largest}
use Rattle.bitcalls.specs.declared.names.Width.{Width}

-- 'ok CURSOR'
abbrev pub ok_text : ℕ → List ℕ
ok_text cursor = 111 ∷ 107 ∷ spaced cursor

-- 'F NUMBER' and what the refusal carries
abbrev pub refusal_text : BitRefusal → List ℕ
refusal_text e = refused_text (number_of e) (carried_of e)

abbrev pub part_text : List ℕ → List ℕ
part_text s = 32 ∷ bytes_text s

abbrev pub read_text : Result (Read ℕ) BitRefusal → List ℕ
read_text (Ok a) = ok_text (place a.next) ++ spaced_hex a.value
read_text (Err e) = refusal_text e

abbrev pub slice_text : List ℕ → Result (Read Part) BitRefusal → List ℕ
slice_text s (Ok a) = ok_text (place a.next) ++ part_text (part_of s a.value)
slice_text s (Err e) = refusal_text e

abbrev pub moved_text : Result Cursor BitRefusal → List ℕ
moved_text (Ok next) = ok_text (place next)
moved_text (Err e) = refusal_text e

-- "after a write call ' | BUFFER' follows"
abbrev pub written_text : Result Cursor BitRefusal → List ℕ → List ℕ
written_text m s = moved_text m ++ 32 ∷ 124 ∷ part_text s

-- COUNT is 0 in bits_remaining
abbrev pub remaining_text : Cursor → List ℕ → ℕ → List ℕ
remaining_text c s n = pick (eqb n 0) (ok_text (place c) ++ spaced (remaining_of (length s) c).0) malformed_text

-- ## A VALUE

-- "a number", of the call's width
abbrev pub write_text : Width → Cursor → List ℕ → ℕ → List ℕ → List ℕ
write_text w c s n value =
    pick (is_some (hex_in value) && leb (unwrap_or (hex_in value) 0) (largest w))
    (written_text (advance_of (length s) c n (widest w)) (written_of s c n (widest w) (unwrap_or (hex_in value) 0)))
    malformed_text

-- no BUFFER and no VALUE has more bytes: "capital hexadecimal, two digits a byte, or '-' where it is empty"
abbrev pub bytes_max : ℕ
bytes_max = 256

-- "bytes as in BUFFER", COUNT of them
abbrev pub write_slice_text : Cursor → List ℕ → ℕ → List ℕ → List ℕ
write_slice_text c s n value =
    pick (is_bytes bytes_max value && eqb (length (bytes_of value)) n)
    (written_text (write_slice_of (length s) c (length (bytes_of value))) (sliced_of s c (bytes_of value)))
    malformed_text
