-- Where a reader stands after a call: document 01, "the moved cursor comes back", and "A refused bit call changes neither
-- cursor nor buffer".
use Rattle.std.specs.Prelude.{Result, Ok, Err}
use Rattle.bits.specs.declared.BitRefusal.{BitRefusal}
use Rattle.bits.specs.declared.Cursor.{Cursor}
use Rattle.bits.specs.declared.Read.{Read}
use Rattle.readers.specs.declared.BitReader.{BitReader}

-- the reader r, of the same slice, at the cursor c
abbrev pub at_cursor : BitReader → Cursor → BitReader
at_cursor r c = record { src = r.src; cursor = c }

-- the cursor after a call at c that answered as said: a read of a number or of a slice, and a move
abbrev pub after_read_lem : {A : Type 0} → Result (Read A) BitRefusal → Cursor → Cursor
after_read_lem (Ok a) c = a.next
after_read_lem (Err e) c = c

abbrev pub after_moved_lem : Result Cursor BitRefusal → Cursor → Cursor
after_moved_lem (Ok next) c = next
after_moved_lem (Err e) c = c
