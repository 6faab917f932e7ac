-- What a lent run of readings holds after a decode.
use Rattle.std.specs.Prelude.{ℕ, List, [], ◌∷◌, ◌++◌, length, drop, map, set, Result}
use Rattle.tables.specs.Table.{Table}
use Rattle.fields.specs.declared.DecodeRefusal.{DecodeRefusal}
use Rattle.reading.specs.declared.Answer.{Answer}
use Rattle.reading.specs.declared.Reading.{Reading}
use Rattle.reading.specs.Decode.{readings_of}
use Rattle.reading.specs.Steps.{handed}

-- what is stored, and the entries after it as they were
abbrev pub entries_of : {X : Type 0} → List X → List X → List X
entries_of xs out = xs ++ drop (length xs) out

-- "leaves the readings made before the fault, in order [..]; later entries are unchanged": the readings of what was received, with a padding run of
-- so many bytes; refusals 7 and 8 make none
abbrev pub entries_after : Table → List ℕ → ℕ → List Reading → List Reading
entries_after t received padded out = entries_of (readings_of t received padded (length out)) out

-- the same of what is made of each reading
abbrev pub entries_as : {X : Type 0} → (Reading → X) → Table → List ℕ → ℕ → List X → List X
entries_as one t received padded out = entries_of (map one (readings_of t received padded (length out))) out

-- the first of these, if there is one, at its place
abbrev pub first_at : {X : Type 0} → List X → ℕ → List X → List X
first_at out place [] = out
first_at out place (x ∷ xs) = set out place x

-- what is made of the reading that a turn hands out, if it does
abbrev pub placed : {X : Type 0} → (Reading → X) → List X → ℕ → Result Answer DecodeRefusal → List X
placed one out place a = first_at out place (map one (handed a))
