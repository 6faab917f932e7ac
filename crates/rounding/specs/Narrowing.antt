-- An `f64` as the `f32` nearest to it: document 01, "Raw numbers and floats". Definitions only.
use Rattle.std.specs.Prelude.{ℕ, ◌+◌, ◌-◌, ◌*◌, ◌^◌, cond, ltb, Float}
use Rattle.std.specs.Float.{nan, inf, fin, binary32}
use Rattle.std.specs.Float.Ieee.{up, down, round}
use Rattle.std.specs.Float.Ieee.Nearest.{closest}

-- "narrows once": m * 2 ^ e, which is m * up e / down e, to nearest, ties to even; a NaN to a NaN
unfoldable pub narrow_of : Float → Float
narrow_of nan = nan
narrow_of (inf s) = inf s
narrow_of (fin s m e) = round binary32 s (m * up e) (down e)

-- the same in bits, without the sign's, by the exponent's field e and the digits t: zero, subnormal, normal or infinite
unfoldable pub pattern_of : ℕ → ℕ → ℕ
pattern_of e t =
    cond (ltb e 873) 0
    (cond (ltb e 897) (closest (2 ^ 52 + t) (2 ^ (926 - e)))
    (cond (ltb e 1151) ((e - 897) * 2 ^ 23 + closest (2 ^ 52 + t) (2 ^ 29)) (255 * 2 ^ 23)))
