-- From a value to a raw: document 01, "Raw numbers and floats", "Quantizing".
use Rattle.std.specs.Prelude.{ℕ, suc, ◌+◌, ◌-◌, ◌*◌, ◌/◌, ◌%◌, ◌^◌, Bool, true, false, Result, Ok, Err, leb, ltb, ℤ, pos, negsuc, Float}
use Rattle.std.specs.Float.{nan, inf, fin, binary64}
use Rattle.std.specs.Float.Ieee.{div, up, down}
use Rattle.bits.specs.Bits.{pick}
use Rattle.rounding.specs.Truncation.{half_away_of}
use Rattle.numbers.specs.Special.{top_of}
use Rattle.numbers.specs.Holds.{is_width_lem}
use Rattle.numbers.specs.declared.NumberRefusal.{NumberRefusal}
use Rattle.numbers.specs.declared.NumberRefusal.TheVariants.{BadWidth, OutOfRange}

-- the limits of n bits, as the largest magnitude at or above zero and below it
abbrev pub limit_of_lem : ℕ → Bool → Bool → ℕ
limit_of_lem n signed false = top_of n signed
limit_of_lem n true true = 2 ^ (n - 1)
limit_of_lem n false true = 0

-- the raw of a whole number, by its sign and magnitude: "raw − 2^n" is the number, so raw is the number + 2^n
abbrev pub complement_of : ℕ → Bool → ℕ → ℕ
complement_of n false magnitude = magnitude
complement_of n true magnitude = (2 ^ n - magnitude) % 2 ^ n

-- a whole number in range is its raw: "Out of range is 10"
abbrev pub exactly_of : ℕ → Bool → Bool → ℕ → Result ℕ NumberRefusal
exactly_of n signed negative magnitude =
    pick (leb magnitude (limit_of_lem n signed negative)) (Ok (complement_of n negative magnitude)) (Err OutOfRange)

-- "but above 53 bits a result within 2^(bits−53) beyond a limit becomes that limit"
abbrev pub nearly_of : ℕ → Bool → Bool → ℕ → Result ℕ NumberRefusal
nearly_of n signed negative magnitude =
    pick (leb magnitude (limit_of_lem n signed negative)) (Ok (complement_of n negative magnitude))
    (pick (ltb 53 n)
    (pick (leb magnitude (limit_of_lem n signed negative + 2 ^ (n - 53))) (Ok (complement_of n negative (limit_of_lem n signed negative))) (Err OutOfRange))
    (Err OutOfRange))

-- "cut toward zero": of a float, its whole part by sign and magnitude
abbrev pub cut_of : ℕ → Bool → Float → Result ℕ NumberRefusal
cut_of n signed nan = Err OutOfRange
cut_of n signed (inf s) = Err OutOfRange
cut_of n signed (fin s m e) = nearly_of n signed s (m * up e / down e)

-- "refused 10 if not finite; plus 0.5 if at least 0, else minus 0.5, in f64; cut toward zero"
abbrev pub rounded_of : ℕ → Bool → Float → Result ℕ NumberRefusal
rounded_of n signed nan = Err OutOfRange
rounded_of n signed (inf s) = Err OutOfRange
rounded_of n signed (fin s m e) = cut_of n signed (half_away_of (fin s m e))

-- "the f64 quotient value / resolution", into n bits
abbrev pub quotient_of : Float → Float → ℕ → Bool → Result ℕ NumberRefusal
quotient_of value resolution n signed = rounded_of n signed (div binary64 value resolution)

-- `quantize`: 1 where n is no width
abbrev pub quantize_of : Float → Float → ℕ → Bool → Result ℕ NumberRefusal
quantize_of value resolution n signed = pick (is_width_lem n) (quotient_of value resolution n signed) (Err (BadWidth n))

-- an integer for an unscaled field of n bits
abbrev pub integer_of : ℕ → Bool → ℤ → Result ℕ NumberRefusal
integer_of n signed (pos m) = exactly_of n signed false m
integer_of n signed (negsuc m) = exactly_of n signed true (suc m)
