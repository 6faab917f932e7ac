-- Numbers in digits: document 01, the end of "Cases": "Raws are hexadecimal", "in decimal", "a PGN in 6 digits".
use Rattle.std.specs.Prelude.{ℕ, zero, suc, ◌/◌, ◌%◌, List, [], ◌∷◌, ◌++◌, Bool, true, false, eqb}
use Rattle.hexadecimal.specs.Digits.{digit_of_lem, digits_of}

abbrev pub unless : Bool → List ℕ → List ℕ
unless true text = []
unless false text = text

-- the digits of m in base b, at most w of them; none of 0
unfoldable pub higher : ℕ → ℕ → ℕ → List ℕ
higher b zero m = []
higher b (suc w) m = unless (eqb m 0) (higher b w (m / b) ++ digit_of_lem (m % b) ∷ [])

-- n in as few digits as it needs, at least one
abbrev pub shortest : ℕ → ℕ → ℕ → List ℕ
shortest b w n = higher b w (n / b) ++ digit_of_lem (n % b) ∷ []

-- a number of 64 bits has at most 20 digits
abbrev pub digits_max : ℕ
digits_max = 20

-- n in decimal
abbrev pub decimal_of : ℕ → List ℕ
decimal_of n = shortest 10 19 n

-- n in hexadecimal
abbrev pub hex_of : ℕ → List ℕ
hex_of n = shortest 16 19 n

-- the last w digits of n, zeros too
unfoldable pub fixed : ℕ → ℕ → ℕ → List ℕ
fixed b zero n = []
fixed b (suc w) n = fixed b w (n / b) ++ digit_of_lem (n % b) ∷ []

-- ## Parts of a line

-- a number after a space, in decimal
abbrev pub spaced : ℕ → List ℕ
spaced n = 32 ∷ decimal_of n

-- a number after a space, in hexadecimal
abbrev pub spaced_hex : ℕ → List ℕ
spaced_hex n = 32 ∷ hex_of n

-- bytes, two digits each, or '-' where there are none
abbrev pub bytes_text : List ℕ → List ℕ
bytes_text [] = 45 ∷ []
bytes_text (x ∷ xs) = digits_of (x ∷ xs)
