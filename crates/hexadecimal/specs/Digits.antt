-- Hexadecimal digits, capitals only: document 01, the end of "Cases".
use Rattle.std.specs.Prelude.{ℕ, ◌+◌, ◌-◌, ◌*◌, ◌/◌, ◌%◌, List, [], ◌∷◌, Bool, true, ◌&&◌, ltb}
use Rattle.bits.specs.Bits.{pick}

-- "digits 0 to 9, A to F": the value of one, and 16 of any other byte
abbrev pub value_of : ℕ → ℕ
value_of b = pick (ltb b 48) 16 (pick (ltb b 58) (b - 48) (pick (ltb b 65) 16 (pick (ltb b 71) (b - 55) 16)))

abbrev pub is_digit : ℕ → Bool
is_digit b = ltb (value_of b) 16

unfoldable pub all_digits_lem : List ℕ → Bool
all_digits_lem [] = true
all_digits_lem (b ∷ bs) = is_digit b && all_digits_lem bs

-- the digit of a value, or of the last four bits of any number
abbrev pub digit_of_lem : ℕ → ℕ
digit_of_lem n = pick (ltb (n % 16) 10) (48 + n % 16) (55 + n % 16)

-- ## Numbers and bytes

-- the number that digits spell after those of n
unfoldable pub spelled_from : ℕ → List ℕ → ℕ
spelled_from n [] = n
spelled_from n (b ∷ bs) = spelled_from (n * 16 + value_of b) bs

-- the bytes that digits spell, two digits each
unfoldable pub pairs_of : List ℕ → List ℕ
pairs_of [] = []
pairs_of (h ∷ []) = []
pairs_of (h ∷ l ∷ bs) = (value_of h * 16 + value_of l) ∷ pairs_of bs

-- the digits of bytes, two each
unfoldable pub digits_of : List ℕ → List ℕ
digits_of [] = []
digits_of (x ∷ xs) = digit_of_lem (x / 16) ∷ digit_of_lem x ∷ digits_of xs
