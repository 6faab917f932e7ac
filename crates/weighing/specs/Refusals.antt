-- The refusals of an encode as document 01 counts them: "What each number means".
use Rattle.std.specs.Prelude.{ℕ, List, [], ◌∷◌, Bool, ◌||◌, eqb}
use Rattle.bits.specs.Refusals as bit
use Rattle.tables.specs.Check.{letter_of}
use Rattle.weighing.specs.declared.EncodeRefusal.{EncodeRefusal}
use Rattle.weighing.specs.declared.EncodeRefusal.TheVariants.{BitWriteError, RepetitionsExceedCapacity, WrongLength, TableRefused, OutOfRange, WrongKind, ValueCount, TextTooLong}

-- the paper's number
abbrev pub number_of : EncodeRefusal → ℕ
number_of (BitWriteError field refusal) = bit.number_of refusal
number_of (RepetitionsExceedCapacity set count maximum) = 5
number_of (WrongLength length) = 7
number_of (TableRefused rule index) = 8
number_of (OutOfRange field) = 10
number_of (WrongKind field) = 11
number_of (ValueCount field) = 12
number_of (TextTooLong field) = 13

-- the numbers that an encode can give: "No refusal is given otherwise". 1 would take a width that no accepted table has, 6 a buffer that 7
-- refuses; 4 and 9 are of decode
abbrev pub given_by_encode : ℕ → Bool
given_by_encode n = eqb n 2 || eqb n 3 || eqb n 5 || eqb n 7 || eqb n 8 || eqb n 10 || eqb n 11 || eqb n 12 || eqb n 13

-- what it carries: 5 set, count, maximum; 7 length; 8 rule letter, index; 10, 11 and 13 field; 12 field, or field count. "Inside decode and
-- encode, 1 to 3 also name the field", which comes first
abbrev pub carried_of : EncodeRefusal → List ℕ
carried_of (BitWriteError field refusal) = field ∷ bit.carried_of refusal
carried_of (RepetitionsExceedCapacity set count maximum) = set ∷ count ∷ maximum ∷ []
carried_of (WrongLength length) = length.0 ∷ []
carried_of (TableRefused rule index) = letter_of rule ∷ index ∷ []
carried_of (OutOfRange field) = field ∷ []
carried_of (WrongKind field) = field ∷ []
carried_of (ValueCount field) = field ∷ []
carried_of (TextTooLong field) = field ∷ []
