-- What a writer is after a call: document 01, "the moved cursor comes back", "A refused bit call changes neither cursor nor
-- buffer", and "Writing puts v mod 2^n and keeps every other bit".
use Rattle.std.specs.Prelude.{ℕ, List, Result, Ok, Err}
use denote.Ref.{at_last}
use Rattle.bits.specs.declared.BitRefusal.{BitRefusal}
use Rattle.bits.specs.declared.Cursor.{Cursor}
use Rattle.writers.specs.declared.BitWriter.{BitWriter}

-- the writer w, of the same slice with the bytes s in it, at the cursor c
abbrev pub wrote : BitWriter → List ℕ → Cursor → BitWriter
wrote w s c = record { dest = at_last w.dest s; cursor = c }

-- the cursor after a call at c that answered as said
abbrev pub after_moved_lem : Result Cursor BitRefusal → Cursor → Cursor
after_moved_lem (Ok next) c = next
after_moved_lem (Err e) c = c
