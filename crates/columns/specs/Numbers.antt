-- Numbers that digits spell, in any base up to 16: document 01, the end of "Cases", "digits 0 to 9, A to F", "Raws are hexadecimal", "in decimal".
use Rattle.std.specs.Prelude.{ℕ, ◌+◌, ◌*◌, ◌^◌, List, [], ◌∷◌, Bool, true, false, ◌&&◌, leb, ltb, length, Option, Some, None}
use Rattle.hexadecimal.specs.Digits.{value_of}

-- a number that was read
abbrev pub number : ℕ → Option ℕ
number n = Some n

-- .. and where there was none
abbrev pub no_number_lem : Option ℕ
no_number_lem = None

-- a number, if the test holds
abbrev pub number_if : Bool → ℕ → Option ℕ
number_if true n = number n
number_if false n = no_number_lem

-- each byte is a digit of the base
unfoldable pub all_below : ℕ → List ℕ → Bool
all_below base [] = true
all_below base (b ∷ bs) = ltb (value_of b) base && all_below base bs

-- the number that digits spell after those of n
unfoldable pub spelled_in : ℕ → ℕ → List ℕ → ℕ
spelled_in base n [] = n
spelled_in base n (b ∷ bs) = spelled_in base (n * base + value_of b) bs

-- 1 to `most` digits of the base, and a number of 64 bits
unfoldable pub number_in : ℕ → ℕ → List ℕ → Option ℕ
number_in base most s =
    number_if (ltb 0 (length s) && leb (length s) most && all_below base s && ltb (spelled_in base 0 s) (2 ^ 64)) (spelled_in base 0 s)

-- a number of 64 bits has at most 20 digits in decimal, 16 in hexadecimal
abbrev pub decimal_digits : ℕ
decimal_digits = 20

abbrev pub hex_digits : ℕ
hex_digits = 16

-- a text as a number in decimal
abbrev pub decimal_in : List ℕ → Option ℕ
decimal_in s = number_in 10 decimal_digits s

-- .. in hexadecimal
abbrev pub hex_in : List ℕ → Option ℕ
hex_in s = number_in 16 hex_digits s
