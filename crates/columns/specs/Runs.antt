-- Numbers and bytes that a text has, at the start of a lent buffer: all of them, or the buffer as it was.
use Rattle.std.specs.Prelude.{ℕ, ◌/◌, ◌%◌, List, [], ◌∷◌, ◌++◌, map, Bool, true, false, ◌&&◌, leb, eqb, length, drop, Option, Some, None, is_some, unwrap_or}
use Rattle.hexadecimal.specs.Digits.{all_digits_lem, pairs_of}
use Rattle.columns.specs.Parts.{parts_of}
use Rattle.columns.specs.Numbers.{hex_in}

-- how many values were stored
abbrev pub run : ℕ → Option ℕ
run n = Some n

-- .. and where none was
abbrev pub no_run : Option ℕ
no_run = None

-- a count, if the test holds
abbrev pub run_if : Bool → ℕ → Option ℕ
run_if true n = run n
run_if false n = no_run

-- what a call answers, and what the buffer then holds
pub data Filled : Type 0 where
  filled : Option ℕ → List ℕ → Filled

-- values in place of the first ones of a buffer
abbrev pub over : List ℕ → List ℕ → List ℕ
over xs old = xs ++ drop (length xs) old

-- the same, if the test holds; else the buffer stays as it was
abbrev pub filled_if : Bool → List ℕ → List ℕ → Filled
filled_if true xs old = filled (run (length xs)) (over xs old)
filled_if false xs old = filled no_run old

-- bytes, two digits each, where there is room for them
unfoldable pub pairs_in : List ℕ → List ℕ → Filled
pairs_in s old = filled_if (eqb (length s % 2) 0 && leb (length s / 2) (length old) && all_digits_lem s) (pairs_of s) old

-- '-', for no bytes
abbrev pub dash : ℕ
dash = 45

-- bytes, at least one, or '-' for none
unfoldable pub bytes_in_lem : List ℕ → List ℕ → Filled
bytes_in_lem [] old = filled no_run old
bytes_in_lem (b ∷ []) old = filled_if (eqb b dash) [] old
bytes_in_lem (b ∷ c ∷ bs) old = pairs_in (b ∷ c ∷ bs) old

-- the same as a test and what it finds: at most so many bytes
abbrev pub is_bytes : ℕ → List ℕ → Bool
is_bytes most [] = false
is_bytes most (b ∷ []) = eqb b dash
is_bytes most (b ∷ c ∷ bs) = eqb (length (b ∷ c ∷ bs) % 2) 0 && leb (length (b ∷ c ∷ bs) / 2) most && all_digits_lem (b ∷ c ∷ bs)

-- .. and these are the bytes
abbrev pub bytes_of : List ℕ → List ℕ
bytes_of [] = []
bytes_of (b ∷ []) = []
bytes_of (b ∷ c ∷ bs) = pairs_of (b ∷ c ∷ bs)

-- each part is a number, in hexadecimal
unfoldable pub all_numbers : List (List ℕ) → Bool
all_numbers [] = true
all_numbers (p ∷ ps) = is_some (hex_in p) && all_numbers ps

-- .. and these are the numbers
abbrev pub values_of : List (List ℕ) → List ℕ
values_of ps = map (λ (p : List ℕ). unwrap_or (hex_in p) 0) ps

-- numbers in hexadecimal, which a mark sets apart, where there is room for them
unfoldable pub words_in : ℕ → List ℕ → List ℕ → Filled
words_in mark s old = filled_if (all_numbers (parts_of mark s) && leb (length (parts_of mark s)) (length old)) (values_of (parts_of mark s)) old

-- the same as a test: at most so many numbers, which are `values_of` the parts
abbrev pub is_words : ℕ → ℕ → List ℕ → Bool
is_words mark most s = all_numbers (parts_of mark s) && leb (length (parts_of mark s)) most
