-- The steps from a quotient to a whole number: document 01, "Quantizing". Definitions only.
use Rattle.std.specs.Prelude.{ℕ, ◌*◌, ◌/◌, ◌^◌, Bool, true, false, cond, Option, Some, None, pos, negsuc, ltb, Float}
use Rattle.std.specs.Float.{nan, inf, fin, binary64}
use Rattle.std.specs.Float.Ieee.{up, down, le, add, sub}
use Rattle.rounding.specs.declared.Truncated.{Truncated}

-- 0 and "0.5": 0 * 2 ^ 0 and 1 * 2 ^ -1
abbrev pub zero : Float
zero = fin false 0 (pos 0)

abbrev pub half : Float
half = fin false 1 (negsuc 0)

-- "plus 0.5 if at least 0, else minus 0.5, in f64"
unfoldable pub half_away_of : Float → Float
half_away_of q = cond (le zero q) (add binary64 q half) (sub binary64 q half)

-- a whole number by sign and magnitude
abbrev pub cut_to : Bool → ℕ → Option Truncated
cut_to s m = Some (record { negative = s; magnitude = m })

-- a whole number whose magnitude is below 2 ^ 64, or none
abbrev pub below64 : Bool → Option Truncated → Option Truncated
below64 true w = w
below64 false w = None

-- "cut toward zero": the integer part of y = m * up e / down e, by sign and magnitude; a NaN and an infinity have none
unfoldable pub truncated_of : Float → Option Truncated
truncated_of nan = None
truncated_of (inf s) = None
truncated_of (fin s m e) = below64 (ltb (m * up e / down e) (2 ^ 64)) (cut_to s (m * up e / down e))
