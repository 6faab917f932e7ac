-- A line by its fields: what the fields that every line has were read as, and the answer. Assumes nothing.
use mathlib.Core.Path.{◌≡◌}
use mathlib.Core.Bool.{true, false, and-false}
use mathlib.Core.List.{List}
use Prim.Native.Nat.{ℕ}
use Rattle.std.specs.Prelude.{Some}
use Rattle.bits.specs.Calls.{cursor_at}
use Rattle.bits.specs.declared.Cursor.{Cursor}
use Rattle.text.specs.Refusals.{malformed_text}
use Rattle.columns.specs.Parts.{field}
use Rattle.columns.specs.Numbers.{decimal_in}
use Rattle.columns.specs.Runs.{is_bytes, bytes_of}
use Rattle.bitcalls.specs.Text.{bytes_max}
use Rattle.bitcalls.specs.Answers.{form_text, answer_text}

module _ (line : List ℕ) where
  -- BUFFER is no bytes
  pub no_bytes : is_bytes bytes_max (field line 3) ≡ false → malformed_text ≡ answer_text line
  no_bytes e = rw (e, and-false)

  -- the fields that every line has, as they were read: CURSOR, COUNT, and the bytes of BUFFER
  pub by_form : {cursor count : ℕ} → decimal_in (field line 1) ≡ Some cursor → decimal_in (field line 2) ≡ Some count → is_bytes bytes_max (field line 3) ≡ true
      → {c : Cursor} {n : ℕ} {bytes : List ℕ} → c ≡ cursor_at cursor → n ≡ count → bytes ≡ bytes_of (field line 3) → form_text line c bytes n ≡ answer_text line
  by_form first second third e f g = rw (first, second, third, e, f, g)
