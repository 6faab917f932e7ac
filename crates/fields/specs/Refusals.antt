-- The refusals of a decode as document 01 counts them: "What each number means".
use Rattle.std.specs.Prelude.{ℕ, List, [], ◌∷◌, Bool, ◌||◌, eqb}
use Rattle.bits.specs.Refusals as bit
use Rattle.tables.specs.Check.{letter_of}
use Rattle.fields.specs.declared.DecodeRefusal.{DecodeRefusal}
use Rattle.fields.specs.declared.DecodeRefusal.TheVariants.{BitReaderError, InvalidDataLength, RepetitionsExceedCapacity, WrongLength, TableRefused, NoRoom}

-- the paper's number
abbrev pub number_of : DecodeRefusal → ℕ
number_of (BitReaderError field refusal) = bit.number_of refusal
number_of (InvalidDataLength field) = 4
number_of (RepetitionsExceedCapacity set count maximum) = 5
number_of (WrongLength length) = 7
number_of (TableRefused rule index) = 8
number_of (NoRoom field) = 9

-- "Refusals 7 and 8 touch no buffer": the numbers that a decode gives before its walk
abbrev pub touches_nothing_lem : ℕ → Bool
touches_nothing_lem n = eqb n 7 || eqb n 8

-- those that its walk gives: 1 would take a width that no accepted table has, 6 a payload that 7 refuses
abbrev pub given_in_walk : ℕ → Bool
given_in_walk n = eqb n 2 || eqb n 3 || eqb n 4 || eqb n 5 || eqb n 9

-- the numbers that a decode can give: "No refusal is given otherwise"
abbrev pub given_by_decode : ℕ → Bool
given_by_decode n = given_in_walk n || touches_nothing_lem n

-- what it carries: 4 field; 5 set, count, maximum; 7 length; 8 rule letter, index; 9 field. "Inside decode and encode, 1 to 3 also name
-- the field", which comes first
abbrev pub carried_of : DecodeRefusal → List ℕ
carried_of (BitReaderError field refusal) = field ∷ bit.carried_of refusal
carried_of (InvalidDataLength field) = field ∷ []
carried_of (RepetitionsExceedCapacity set count maximum) = set ∷ count ∷ maximum ∷ []
carried_of (WrongLength length) = length.0 ∷ []
carried_of (TableRefused rule index) = letter_of rule ∷ index ∷ []
carried_of (NoRoom field) = field ∷ []

-- what refusal 2 counts, in bits: that of the bit call that gave it; any other counts nothing
abbrev pub unit_of : DecodeRefusal → ℕ
unit_of (BitReaderError field refusal) = bit.unit_of refusal
unit_of (InvalidDataLength field) = 0
unit_of (RepetitionsExceedCapacity set count maximum) = 0
unit_of (WrongLength length) = 0
unit_of (TableRefused rule index) = 0
unit_of (NoRoom field) = 0
