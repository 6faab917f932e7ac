-- The values of a line: docs/PROGRAMS.md, "Values in, frames out", the table of values, in its order.
use Rattle.std.specs.Prelude.{ℕ, ◌+◌, ◌*◌, ◌%◌, ◌^◌, List, [], ◌∷◌, Bool, ◌&&◌, eqb, leb, length, Option, is_some, unwrap_or}
use Rattle.bits.specs.Bits.{pick}
use Rattle.hexadecimal.specs.Digits.{all_digits_lem, pairs_of}
use Rattle.columns.specs.Numbers.{decimal_in, hex_in}
use Rattle.compose.specs.Decimals.{is_marked, head_of, tail_of, signed_in, double_in}

-- a number by its kind's code and its 64 bits; a text by the first word of its record and its bytes; or nothing of these
pub data Value : Type 0 where
  number : ℕ → ℕ → Value
  text : ℕ → List ℕ → Value
  none : Value

-- a number of a kind, if there is one
abbrev pub numbered : ℕ → Option ℕ → Value
numbered kind n = pick (is_some n) (number kind (unwrap_or n 0)) none

-- "u42": "an unsigned integer below 2^64, at most 20 digits"
abbrev pub unsigned_value_lem : List ℕ → Value
unsigned_value_lem s = numbered 1 (decimal_in s)

-- "i-42"
abbrev pub signed_value_lem : List ℕ → Value
signed_value_lem s = numbered 5 (signed_in s)

-- "f-0.25"
abbrev pub double_value : List ℕ → Value
double_value s = numbered 9 (double_in s)

-- "text or bytes, two digits each", with the first word of their record
abbrev pub text_value : ℕ → List ℕ → Value
text_value head s = pick (eqb (length s % 2) 0 && all_digits_lem s) (text head (pairs_of s)) none

-- "t4142": 11 is the code of a text
abbrev pub plain_value : List ℕ → Value
plain_value s = text_value 11 s

-- ':'
abbrev pub colon : ℕ
colon = 58

-- two digits before a colon
abbrev pub is_encoding : List ℕ → Bool
is_encoding s = is_marked colon s && eqb (length (head_of colon s)) 2 && is_some (hex_in (head_of colon s))

-- byte 1 of the record says that byte 2 is the encoding byte
abbrev pub encoding_head : ℕ → ℕ
encoding_head x = 11 + 2 ^ 8 + x * 2 ^ 16

-- "e01:4142": "text with its encoding byte"
abbrev pub encoded_value : List ℕ → Value
encoded_value s = pick (is_encoding s) (text_value (encoding_head (unwrap_or (hex_in (head_of colon s)) 0)) (tail_of colon s)) none

-- the largest code of a kind
abbrev pub kind_max : ℕ
kind_max = 255

-- "v10:3F800000": "64 bits by the code of their kind"
abbrev pub coded_value : List ℕ → Value
coded_value s =
    pick (is_some (decimal_in (head_of colon s)) && leb (unwrap_or (decimal_in (head_of colon s)) 0) kind_max && is_some (hex_in (tail_of colon s)))
    (number (unwrap_or (decimal_in (head_of colon s)) 0) (unwrap_or (hex_in (tail_of colon s)) 0))
    none

-- a value, by its letter
abbrev pub by_letter : ℕ → List ℕ → Value
by_letter letter s =
    pick (eqb letter 117) (unsigned_value_lem s)
    (pick (eqb letter 105) (signed_value_lem s)
    (pick (eqb letter 102) (double_value s)
    (pick (eqb letter 116) (plain_value s) (pick (eqb letter 101) (encoded_value s) (pick (eqb letter 118) (coded_value s) none)))))

-- a field as a value
unfoldable pub value_of : List ℕ → Value
value_of [] = none
value_of (letter ∷ s) = by_letter letter s
