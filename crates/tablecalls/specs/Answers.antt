-- What a line is answered: src/main.rt, "each line [..] is one table in words", with document 01's text of a refusal.
use Rattle.std.specs.Prelude.{ℕ, List, [], ◌∷◌, ◌++◌, Bool, Ok, Err}
use Rattle.bits.specs.Bits.{pick}
use Rattle.text.specs.Refusals.{table_refused, refused_text, malformed_text}
use Rattle.columns.specs.Parts.{space, parts_of}
use Rattle.columns.specs.Runs.{values_of, is_words}
use Rattle.lines.specs.Machine.{newline, text_of}
use Rattle.tables.specs.Table.{table_of}
use Rattle.tables.specs.Check.{Checked, check_of, letter_of}

-- no line has more words
abbrev pub words_max : ℕ
words_max = 200

-- 'ok', or 8 with "the rule that is broken, a to h, and the field or the set that breaks it"
abbrev pub checked_text : Checked → List ℕ
checked_text (Ok tt) = 111 ∷ 107 ∷ []
checked_text (Err b) = refused_text table_refused (letter_of b.rule ∷ b.index ∷ [])

-- "1 to 200 words of 1 to 16 capital hexadecimal digits, set apart by one space"
abbrev pub is_table : List ℕ → Bool
is_table line = is_words space words_max line

-- the table's check; "a line that is no table in words is answered F 14"
abbrev pub answer_text : List ℕ → List ℕ
answer_text line = pick (is_table line) (checked_text (check_of (table_of (values_of (parts_of space line))))) malformed_text

unfoldable pub answered : List ℕ → List ℕ
answered line = answer_text line ++ newline ∷ []

-- all that is printed for an input
abbrev pub printed : List ℕ → List ℕ
printed input = text_of answered input

-- the bytes of the line's buffer: no table has more (proofs/Short.antt)
abbrev pub line_max : ℕ
line_max = 3400
