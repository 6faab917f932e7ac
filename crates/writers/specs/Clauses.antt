-- What each call that moves a writer answers and leaves, as its contract says it: its answer is that of the call of `bits`, and the writer is of the same slice, with the
-- bytes that this call leaves in it, at the cursor after that answer.
use Rattle.std.specs.Prelude.{◌≡◌, ℕ, List, length, Result}
use Rattle.bits.specs.declared.BitRefusal.{BitRefusal}
use Rattle.bits.specs.declared.Cursor.{Cursor}
use Rattle.bits.specs.Calls.{cursor_at, advance_of, written_of, write_slice_of, sliced_of}
use Rattle.writers.specs.declared.BitWriter.{BitWriter}
use Rattle.writers.specs.Writer.{wrote, after_moved_lem}

-- `write_u64`, .. of a type of so many bits
abbrev pub Writes : Result Cursor BitRefusal → BitWriter → BitWriter → ℕ → ℕ → ℕ → Type 0
Writes a left w most value n =
    (a ≡ advance_of (length w.dest.now) w.cursor n most)
    × (left ≡ wrote w (written_of w.dest.now w.cursor n most value) (after_moved_lem a w.cursor))

-- `advance`
abbrev pub Advances : Result Cursor BitRefusal → BitWriter → BitWriter → ℕ → Type 0
Advances a left w n =
    (a ≡ advance_of (length w.dest.now) w.cursor n 64)
    × (left ≡ wrote w w.dest.now (after_moved_lem a w.cursor))

-- `write_slice`
abbrev pub WritesSlice : Result Cursor BitRefusal → BitWriter → BitWriter → List ℕ → Type 0
WritesSlice a left w src =
    (a ≡ write_slice_of (length w.dest.now) w.cursor (length src))
    × (left ≡ wrote w (sliced_of w.dest.now w.cursor src) (after_moved_lem a w.cursor))

-- `first_bits`: the slice of a writer that is gone
abbrev pub FirstBits : Result Cursor BitRefusal → List ℕ → List ℕ → ℕ → ℕ → Type 0
FirstBits a left dest value n =
    (a ≡ advance_of (length dest) (cursor_at 0) n 64) × (left ≡ written_of dest (cursor_at 0) n 64 value)
