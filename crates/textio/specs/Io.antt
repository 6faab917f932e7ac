-- Where a program stands with its input and output: what is handed on from call to call. What is read and written is said where the bytes of the reader and the writer are known.
use Rattle.std.specs.Prelude.{◌≡◌, ℕ, ◌-◌, ◌<◌, List, Bool, true, false, not, ◌||◌, ◌&&◌, ◌⊎◌, [], if◌then◌else◌, take, eqb, leb, ltb, length, get_or}
use Rattle.std.specs.Prelude.{Option, Some, None, Result, Ok, Err}
use Rattle.std.specs.Io.KnownBytes.{Appends, IsAtEnd}
use Rattle.textio.specs.declared.Io.{Io}

-- nothing is read yet
abbrev pub start_io : Io
start_io = record { from = 0; to = 0; waits = false; inside = false; ended = false }

-- a call is due before more is read: a line waits for its answer, or a part of the chunk, which is in a buffer of so many bytes, is not taken yet
abbrev pub due_in : Io → ℕ → Bool
due_in at size = (at.waits || ltb at.from at.to) && (leb at.from at.to && leb at.to size)

-- the same chunk, of which all before a place is taken, and whether a line waits then
abbrev pub moved_to : Io → ℕ → Bool → Io
moved_to at from waits = record { from = from; to = at.to; waits = waits; inside = at.inside; ended = at.ended }

-- so many bytes were read: the input so far ends within a line, unless the last of them is a newline
abbrev pub read_io : Io → ℕ → List ℕ → Io
read_io at n chunk = record { from = 0; to = n; waits = at.waits; inside = not (eqb (get_or chunk (n - 1) 0) 10); ended = false }

-- the input has ended within a line, which gets a newline
abbrev pub last_io : Io → Io
last_io at = record { from = 0; to = 1; waits = at.waits; inside = false; ended = true }

-- what a read leaves, where it doesn't fail: no more to do, at the end of the input; the newline that the last line lacks; or a chunk of at least a byte
abbrev pub Reads : {E : Type 0} → Result (Option Io) E → List ℕ → Io → Type 0
Reads (Err e) chunk at = Unit {0}
Reads (Ok None) chunk at = Unit {0}
Reads (Ok (Some r)) chunk at = ((r ≡ last_io at) × ((at.inside ≡ true) × (get_or chunk 0 0 ≡ 10))) ⊎ ((r ≡ read_io at r.to chunk) × (0 < r.to))

-- `fetch`: what is left of a chunk is handed on before anything is read, and so is a line that waits; what is read is a chunk from its start
pub record Fetches {E : Type 0} (r : Result (Option Io) E) (new : List ℕ) (at : Io) (old : List ℕ) : Type 0 where
  pub due : due_in at (length old) ≡ true → (r ≡ Ok (Some at)) × (new ≡ old)
  pub fresh : due_in at (length old) ≡ false → Reads r new at
  pub over : due_in at (length old) ≡ false → at.ended ≡ true → r ≡ Ok None

-- the bytes of a chunk that was read; there is none where the input has ended or fails
abbrev pub chunk_of : {E : Type 0} → Result (Option Io) E → List ℕ → List ℕ
chunk_of (Err e) chunk = []
chunk_of (Ok None) chunk = []
chunk_of (Ok (Some r)) chunk = if r.ended then [] else take r.to chunk

-- the bytes that `fetch` reads: none while a call is due
abbrev pub fetched : {E : Type 0} → Bool → Result (Option Io) E → List ℕ → List ℕ
fetched due r chunk = if due then [] else chunk_of r chunk

-- the chunk is the newline that the last line lacked, and nothing is left of the input
abbrev pub IsLast : {E : Type 0} → Result (Option Io) E → Option (List ℕ) → Type 0
IsLast (Err e) left = Unit {0}
IsLast (Ok None) left = Unit {0}
IsLast (Ok (Some r)) left = r.ended ≡ true → IsAtEnd left

-- nothing is left of the input after so much of it, and its last line has its newline
abbrev pub IsOver : Io → Option (List ℕ) → Type 0
IsOver at left = (at.ended ≡ true) ⊎ ((at.inside ≡ false) × IsAtEnd left)

-- a beginning of a text was written
abbrev pub Begins : Option (List ℕ) → Option (List ℕ) → List ℕ → Type 0
Begins old new text = (n : ℕ) × Appends old new (take n text)
