-- The refusals of a number as document 01 counts them: "What each number means". A field has no place in a table here, so 10 and 11 carry nothing.
use Rattle.std.specs.Prelude.{ℕ, List, [], ◌∷◌, Result, Ok, Err}
use Rattle.bits.specs.Calls.{width_max}
use Rattle.numbers.specs.declared.NumberRefusal.{NumberRefusal}
use Rattle.numbers.specs.declared.NumberRefusal.TheVariants.{BadWidth, OutOfRange, WrongKind}

-- the paper's number; 0 of a raw
abbrev pub number_of : Result ℕ NumberRefusal → ℕ
number_of (Ok raw) = 0
number_of (Err (BadWidth width)) = 1
number_of (Err OutOfRange) = 10
number_of (Err WrongKind) = 11

-- what it carries: 1 maximum, width
abbrev pub carried_of : Result ℕ NumberRefusal → List ℕ
carried_of (Ok raw) = []
carried_of (Err (BadWidth width)) = width_max ∷ width ∷ []
carried_of (Err OutOfRange) = []
carried_of (Err WrongKind) = []
