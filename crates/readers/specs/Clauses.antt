-- What each call that moves a reader answers and leaves, as its contract says it: its answer is that of the call of `bits`, and the reader is of the same slice, at the
-- cursor after that answer.
use Rattle.std.specs.Prelude.{◌≡◌}
use Rattle.bits.specs.declared.Cursor.{Cursor}
use Rattle.readers.specs.declared.BitReader.{BitReader}
use Rattle.readers.specs.Reader.{at_cursor}

-- `read_u64`, ..: `after` is where the cursor is after an answer, x the answer of the call of `bits`
abbrev pub Reads : {A : Type 0} → (A → Cursor → Cursor) → A → BitReader → BitReader → A → Type 0
Reads after a left r x = (a ≡ x) × (left ≡ at_cursor r (after a r.cursor))
