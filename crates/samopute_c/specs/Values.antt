-- How fields and values cross the boundary: a field as five numbers, a value as a code for its kind and 64 bits (specs/Records.antt of
-- `offers`).
use Rattle.std.specs.Prelude.{ℕ, not, List, [], ◌∷◌, eqb, Result, Ok, Err}
use Rattle.bits.specs.Calls.{width_max}
use Rattle.descriptor.specs.Kinds.{kind_of, resolution_of_lem}
use Rattle.descriptor.specs.declared.FieldDescriptor.{FieldDescriptor}
use Rattle.numbers.specs.Holds.{holds_of}
use Rattle.numbers.specs.Refusals.{number_of}
use Rattle.numbers.specs.Conversions.{if_held, raw_of_lem}
use Rattle.numbers.specs.Scaling.{bits_of, scale_of}
use Rattle.numbers.specs.Special.{number_availability_of, elements_of}
use Rattle.numbers.specs.Words.{code_of, word_of_lem, silence_of_lem}
use Rattle.numbers.specs.declared.NumberRefusal.{NumberRefusal}
use Rattle.numbers.specs.declared.NumberRefusal.TheVariants.{BadWidth, OutOfRange, WrongKind}
use Rattle.offers.specs.declared.Offer.{Offer}
use Rattle.offers.specs.declared.Offer.TheVariants.{Nothing, NoKind, Value}

-- a field by its kind's code, its width, 0 if it is unsigned, its resolution's mark and bits
abbrev pub field_of : ℕ → ℕ → ℕ → ℕ → ℕ → FieldDescriptor
field_of kind width sign mark bits =
    record { kind = kind_of kind; width = width; signed = not (eqb sign 0); resolution = resolution_of_lem mark bits }

-- what a field that holds no number refuses every number with; a raw of 0 where it holds one
abbrev pub refused_by : Result (Unit {0}) NumberRefusal → Result ℕ NumberRefusal
refused_by h = if_held h (Ok 0)

-- `samopute_scale`: 0, or the refusal's number
abbrev pub scale_status : FieldDescriptor → ℕ
scale_status f = number_of (refused_by (holds_of f))

-- what it lays out: the code of the value's kind, its bits, whether it says nothing, and the elements that a counter means; or what the refusal
-- carries, 0 where it carries less
abbrev pub scaled_cells : FieldDescriptor → ℕ → List ℕ
scaled_cells f raw = code_of (scale_of f raw) ∷ word_of_lem (scale_of f raw) ∷ silence_of_lem (number_availability_of f raw) ∷ elements_of (bits_of f) raw ∷ []

abbrev pub scale_cells_by : Result (Unit {0}) NumberRefusal → FieldDescriptor → ℕ → List ℕ
scale_cells_by (Ok held) f raw = scaled_cells f raw
scale_cells_by (Err OutOfRange) f raw = 0 ∷ 0 ∷ 0 ∷ 0 ∷ []
scale_cells_by (Err WrongKind) f raw = 0 ∷ 0 ∷ 0 ∷ 0 ∷ []
scale_cells_by (Err (BadWidth w)) f raw = width_max ∷ w ∷ 0 ∷ 0 ∷ []

abbrev pub scale_cells : FieldDescriptor → ℕ → List ℕ
scale_cells f raw = scale_cells_by (holds_of f) f raw

-- the raw of what is offered: what is no value of any kind is one of another kind
abbrev pub raw_offered : FieldDescriptor → Offer → Result ℕ NumberRefusal
raw_offered f Nothing = Err WrongKind
raw_offered f NoKind = Err WrongKind
raw_offered f (Value v) = raw_of_lem f v

-- what `samopute_raw_of` lays out: the raw, or what the refusal carries, 0 where it carries less
abbrev pub raw_cells : Result ℕ NumberRefusal → List ℕ
raw_cells (Ok raw) = raw ∷ 0 ∷ 0 ∷ []
raw_cells (Err (BadWidth w)) = width_max ∷ w ∷ 0 ∷ []
raw_cells (Err OutOfRange) = 0 ∷ 0 ∷ 0 ∷ []
raw_cells (Err WrongKind) = 0 ∷ 0 ∷ 0 ∷ []
