-- Signed and decimal numbers, as 64 bits: docs/PROGRAMS.md, "Values in, frames out", the values `i-42` and `f-0.25`.
use Rattle.std.specs.Prelude.{ℕ, suc, ◌+◌, ◌-◌, ◌*◌, ◌%◌, ◌^◌, List, Bool, not, ◌&&◌, ◌||◌, eqb, leb, ltb, pos, Float, length, take, drop, get_or, Option, is_some, unwrap_or}
use Rattle.std.specs.Float.{binary64}
use Rattle.std.specs.Float.Ieee.{div, neg, of_int, to_bits}
use Rattle.bits.specs.Bits.{pick}
use Rattle.columns.specs.Parts.{before}
use Rattle.columns.specs.Numbers.{number_if, decimal_in}

-- '-' and '.'
abbrev pub minus : ℕ
minus = 45

abbrev pub point : ℕ
point = 46

-- whether a sign comes first
abbrev pub is_negative_lem : List ℕ → Bool
is_negative_lem s = eqb (get_or s 0 0) minus

-- what comes after the sign, if there is one
abbrev pub unsigned : List ℕ → List ℕ
unsigned s = pick (is_negative_lem s) (drop 1 s) s

-- what stands before the first mark: all where there is none
abbrev pub head_of : ℕ → List ℕ → List ℕ
head_of mark s = take (before mark s) s

-- .. and after it: nothing where there is none
abbrev pub tail_of : ℕ → List ℕ → List ℕ
tail_of mark s = drop (suc (before mark s)) s

-- whether there is a mark
abbrev pub is_marked : ℕ → List ℕ → Bool
is_marked mark s = ltb (length (head_of mark s)) (length s)

-- ## "a signed integer of 64 bits"

-- a number with its sign lies between -2^63 and 2^63 - 1
abbrev pub is_signed : Bool → ℕ → Bool
is_signed negative n = pick negative (leb n (2 ^ 63)) (ltb n (2 ^ 63))

-- in two's complement
abbrev pub complement : Bool → ℕ → ℕ
complement negative n = pick negative ((2 ^ 64 - n) % 2 ^ 64) n

-- .. if it is one
abbrev pub with_sign : Bool → Option ℕ → Option ℕ
with_sign negative n = number_if (is_some n && is_signed negative (unwrap_or n 0)) (complement negative (unwrap_or n 0))

-- a text as a signed number
abbrev pub signed_in : List ℕ → Option ℕ
signed_in s = with_sign (is_negative_lem s) (decimal_in (unsigned s))

-- ## "the f64 nearest to a decimal number"

-- "at most 15 digits in all": without its point the number is then below 2^53
abbrev pub digits_max : ℕ
digits_max = 15

-- "digits on both sides of a point", or no point
abbrev pub is_decimal : List ℕ → Bool
is_decimal s =
    is_some (decimal_in (head_of point s)) && (is_some (decimal_in (tail_of point s)) || not (is_marked point s)) && leb (length (head_of point s) + length (tail_of point s)) digits_max

-- how many digits stand after its point
abbrev pub places_in : List ℕ → ℕ
places_in s = length (tail_of point s)

-- the number without its point
abbrev pub whole_in_lem : List ℕ → ℕ
whole_in_lem s = unwrap_or (decimal_in (head_of point s)) 0 * 10 ^ places_in s + unwrap_or (decimal_in (tail_of point s)) 0

-- n over a power of ten, each of them an f64: the one division rounds
abbrev pub quotient_of : ℕ → ℕ → Float
quotient_of n places = div binary64 (of_int binary64 (pos n)) (of_int binary64 (pos (10 ^ places)))

-- with its sign, in bits
abbrev pub pattern_of : Bool → Float → ℕ
pattern_of negative x = to_bits binary64 (pick negative (neg x) x)

-- .. if it is one
abbrev pub double_of : Bool → List ℕ → Option ℕ
double_of negative s = number_if (is_decimal s) (pattern_of negative (quotient_of (whole_in_lem s) (places_in s)))

-- a text as a decimal number
abbrev pub double_in : List ℕ → Option ℕ
double_in s = double_of (is_negative_lem s) (unsigned s)
