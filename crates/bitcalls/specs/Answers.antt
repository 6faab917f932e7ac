-- What a line is answered: src/main.rt, "CALL CURSOR COUNT BUFFER [VALUE]".
use Rattle.std.specs.Prelude.{ℕ, List, [], ◌∷◌, ◌++◌, ◌&&◌, eqb, leb, length, is_some, unwrap_or}
use Rattle.bits.specs.Bits.{pick}
use Rattle.bits.specs.Calls.{cursor_at, read_of, advance_of, read_slice_of}
use Rattle.bits.specs.declared.Cursor.{Cursor}
use Rattle.text.specs.Refusals.{malformed_text}
use Rattle.columns.specs.Parts.{space, field, marks_in}
use Rattle.columns.specs.Numbers.{decimal_in}
use Rattle.columns.specs.Runs.{is_bytes, bytes_of}
use Rattle.lines.specs.Machine.{newline, text_of}
use Rattle.lines.specs.Held.{capped}
use Rattle.bitcalls.specs.Names.{call_of, spaces_of_lem, count_max_lem, widest}
use Rattle.bitcalls.specs.Text.{read_text, slice_text, moved_text, written_text, remaining_text, write_text, bytes_max, write_slice_text}
use Rattle.bitcalls.specs.declared.names.Call.{Call}
use Rattle.bitcalls.specs.declared.names.Call.TheVariants.{Read, Advance, ReadSlice, Write, WriteAdvance, WriteSlice, Remaining, Unknown}

-- the answer of a call, by its cursor, its buffer, its COUNT and the VALUE, if there is one
abbrev pub call_text : Call → Cursor → List ℕ → ℕ → List ℕ → List ℕ
call_text (Read w) c s n value = read_text (read_of s c n (widest w))
call_text Advance c s n value = moved_text (advance_of (length s) c n 64)
call_text ReadSlice c s n value = slice_text s (read_slice_of (length s) c n)
call_text (Write w) c s n value = write_text w c s n value
call_text WriteAdvance c s n value = written_text (advance_of (length s) c n 64) s
call_text WriteSlice c s n value = write_slice_text c s n value
call_text Remaining c s n value = remaining_text c s n
call_text Unknown c s n value = malformed_text

-- .. if the COUNT is one
abbrev pub counted_text : Call → Cursor → List ℕ → ℕ → List ℕ → List ℕ
counted_text call c s n value = pick (leb n (count_max_lem call)) (call_text call c s n value) malformed_text

-- .. if the line has as many fields as its call: "a line that is no call [..] is answered F 14"
abbrev pub form_text : List ℕ → Cursor → List ℕ → ℕ → List ℕ
form_text line c s n =
    pick (eqb (marks_in space line) (spaces_of_lem (call_of (field line 0)))) (counted_text (call_of (field line 0)) c s n (field line 4)) malformed_text

-- "CURSOR and COUNT are decimal. [..] BUFFER is capital hexadecimal"; what follows goes by them
abbrev pub head_text : List ℕ → List ℕ → List ℕ → (Cursor → List ℕ → ℕ → List ℕ) → List ℕ
head_text cursor count buffer rest =
    pick (is_some (decimal_in cursor) && is_some (decimal_in count) && is_bytes bytes_max buffer) (rest (cursor_at (unwrap_or (decimal_in cursor) 0)) (bytes_of buffer) (unwrap_or (decimal_in count) 0))
    malformed_text

-- "CALL CURSOR COUNT BUFFER [VALUE]"
abbrev pub answer_text : List ℕ → List ℕ
answer_text line = head_text (field line 1) (field line 2) (field line 3) (form_text line)

unfoldable pub answered : List ℕ → List ℕ
answered line = answer_text line ++ newline ∷ []

-- a line of more bytes is answered as an empty one, which is F 14
abbrev pub line_max : ℕ
line_max = 1024

-- all that is printed for an input
abbrev pub printed : List ℕ → List ℕ
printed input = text_of (capped line_max answered) input
