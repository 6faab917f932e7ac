-- The one NaN: how the code makes it. Assumes nothing.
use mathlib.Core.Path.{◌≡◌, refl}
use lib.Ieee.{nan, binary32, binary64, div, of_bits}

-- 0.0 / 0.0
pub nan32 : div binary32 (of_bits binary32 0) (of_bits binary32 0) ≡ nan
unfolding div of_bits
nan32 = refl

pub nan64 : div binary64 (of_bits binary64 0) (of_bits binary64 0) ≡ nan
unfolding div of_bits
nan64 = refl
