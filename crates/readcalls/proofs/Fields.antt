-- A line by its fields, as they were read: whether it is a case, and its answer. Assumes nothing.
use mathlib.Core.Path.{◌≡◌}
use mathlib.Core.Bool.{true, false, and-false}
use mathlib.Core.List.{List, [], ◌∷◌, ◌++◌}
use Prim.Native.Nat.{ℕ, ◌≤◌, ◌<◌}
use borrow.Author.Tests.{eq-eqb, ne_eqb, le-leb, lt-leb}
use lib.ListN.{replicate}
use Rattle.std.specs.Prelude.{Some, None}
use Rattle.text.specs.Refusals.{malformed_text}
use Rattle.columns.specs.Parts.{space, parts_of, marks_in, field}
use Rattle.columns.specs.Numbers.{decimal_in}
use Rattle.columns.specs.Runs.{is_bytes, bytes_of, values_of, is_words}
use Rattle.lines.specs.Machine.{newline}
use Rattle.tables.specs.Table.{table_of}
use Rattle.readcalls.specs.Lines.{untouched, decode_text}
use Rattle.readcalls.specs.Answers.{padding_max, words_max, comma, payload_most, is_case_lem, answered}

-- ROOM, PADDING, WORDS and PAYLOAD
module _ (line : List ℕ) where
  pub no_room : decimal_in (field line 0) ≡ None → is_case_lem line ≡ false
  no_room e = rw (e, and-false)

  pub no_padding : decimal_in (field line 1) ≡ None → is_case_lem line ≡ false
  no_padding e = rw (e, and-false)

  pub padding-large : {n : ℕ} → decimal_in (field line 1) ≡ Some n → padding_max < n → is_case_lem line ≡ false
  padding-large {n} e l = rw (e, lt-leb n padding_max l, and-false)

  pub no_words : is_words comma words_max (field line 2) ≡ false → is_case_lem line ≡ false
  no_words e = rw (e, and-false)

  pub no_bytes : is_bytes payload_most (field line 3) ≡ false → is_case_lem line ≡ false
  no_bytes e = rw (e, and-false)

  pub spaced-other : {n : ℕ} → n ≡ marks_in space line → (n ≡ 3 → ⊥) → is_case_lem line ≡ false
  spaced-other {n} e h = rw (← e, ne_eqb n 3 h)

  pub no-case : is_case_lem line ≡ false → malformed_text ++ newline ∷ [] ≡ answered line
  unfolding answered
  no-case e = rw e

  -- each of its form, as they were read
  pub by-case : {spaces room padding : ℕ} → spaces ≡ marks_in space line → spaces ≡ 3 → decimal_in (field line 0) ≡ Some room → decimal_in (field line 1) ≡ Some padding → padding ≤ padding_max
      → is_words comma words_max (field line 2) ≡ true → is_bytes payload_most (field line 3) ≡ true
      → {words bytes : List ℕ} {p n : ℕ} → words ≡ values_of (parts_of comma (field line 2)) → bytes ≡ bytes_of (field line 3) → p ≡ padding → n ≡ room
      → decode_text (table_of words) bytes (replicate p untouched) n ≡ answered line
  unfolding answered
  by-case {spaces} {room} {padding} marks three first second small third fourth e f g h =
      rw (← marks, eq-eqb spaces 3 three, first, second, le-leb padding padding_max small, third, fourth, e, f, g, h)
