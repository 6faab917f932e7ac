-- How the answers of the bit calls cross the boundary: a status, 0 or document 01's number of the refusal, and three
-- cells: the cursor after the call and two numbers.
use Rattle.std.specs.Prelude.{◌≡◌, ℕ, List, [], ◌∷◌, get_or, Result, Ok, Err}
use Rattle.bits.specs.Refusals.{number_of, carried_of}
use Rattle.bits.specs.Calls.{place}
use Rattle.bits.specs.declared.BitRefusal.{BitRefusal}
use Rattle.bits.specs.declared.Cursor.{Cursor}
use Rattle.bits.specs.declared.Part.{Part}
use Rattle.bits.specs.declared.Read.{Read}

-- an answer: the moved cursor and two numbers, or a refusal
pub data Told : Type 0 where
  done : Cursor → ℕ → ℕ → Told
  refused : BitRefusal → Told

-- 0, or the refusal's number
abbrev pub status : Told → ℕ
status (done next a b) = 0
status (refused e) = number_of e

-- of a call at bit `at`: the moved cursor and the two numbers, or the cursor as it was and what the refusal carries, 0
-- where it carries less
abbrev pub cells : ℕ → Told → List ℕ
cells at (done next a b) = place next ∷ a ∷ b ∷ []
cells at (refused e) = at ∷ get_or (carried_of e) 0 0 ∷ get_or (carried_of e) 1 0 ∷ []

-- how an answer leaves a call: the status, and the cells in the lent `answer`
abbrev pub Laid : ℕ → List ℕ → ℕ → Told → Type 0
Laid r answer at told = (r ≡ status told) × (answer ≡ cells at told)

-- a number that was read, and 0
abbrev pub of_read : Result (Read ℕ) BitRefusal → Told
of_read (Ok a) = done a.next a.value 0
of_read (Err e) = refused e

-- a part: its start and its length in bytes
abbrev pub of_slice : Result (Read Part) BitRefusal → Told
of_slice (Ok a) = done a.next a.value.start.0 a.value.len.0
of_slice (Err e) = refused e

-- no number
abbrev pub of_moved : Result Cursor BitRefusal → Told
of_moved (Ok next) = done next 0 0
of_moved (Err e) = refused e
