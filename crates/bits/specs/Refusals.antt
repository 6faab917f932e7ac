-- The refusals of a bit call as document 01 counts them: "What each number means".
use Rattle.std.specs.Prelude.{ℕ, List, [], ◌∷◌}
use Rattle.bits.specs.declared.BitRefusal.{BitRefusal}
use Rattle.bits.specs.declared.BitRefusal.TheVariants.{BufferTooLong, TooLongForType, NonAlignedBit, OutOfBits, OutOfBytes}

-- the paper's number
abbrev pub number_of : BitRefusal → ℕ
number_of (TooLongForType max asked) = 1
number_of (OutOfBits asked available) = 2
number_of (OutOfBytes asked available) = 2
number_of (NonAlignedBit cursor) = 3
number_of (BufferTooLong len) = 6

-- what it carries: 1 maximum, width; 2 asked, available; 3 cursor; 6 length
abbrev pub carried_of : BitRefusal → List ℕ
carried_of (TooLongForType max asked) = max ∷ asked ∷ []
carried_of (OutOfBits asked available) = asked.0 ∷ available.0 ∷ []
carried_of (OutOfBytes asked available) = asked.0 ∷ available.0 ∷ []
carried_of (NonAlignedBit cursor) = cursor.0 ∷ []
carried_of (BufferTooLong len) = len.0 ∷ []

-- "Refusal 2 counts bits in number calls. In slice calls it counts bytes": how many bits are one of what it counts; any other counts nothing
abbrev pub unit_of : BitRefusal → ℕ
unit_of (TooLongForType max asked) = 0
unit_of (OutOfBits asked available) = 1
unit_of (OutOfBytes asked available) = 8
unit_of (NonAlignedBit cursor) = 0
unit_of (BufferTooLong len) = 0
