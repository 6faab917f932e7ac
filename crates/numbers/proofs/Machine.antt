-- Signed numbers as the machine reads them back from their bits, after a cast to 64 bits too. Assumes nothing.
use mathlib.Core.Path.{◌≡◌, sym, ◌∙◌, subst}
use Prim.Native.Nat.{◌<◌, ◌^◌, ◌≤◌}
use native.Mathlib.Nat.{lt_of_lt_of_le}
use lib.IntN.{ℤ}
use lib.Pow.{pow_mono}
use lib.Signed.{mag}
use mir.Syntax.{Width, w64}
use mir.Val.{SFits, to_z, of_z, hbits}
use mir.ValLaws.{to_z-of_z}

module _ (w : Width) (narrow : hbits w ≤ 63) (z : ℤ) (h : mag z < 2 ^ hbits w) where
  back : to_z w (of_z w z) ≡ z
  back = to_z-of_z w z (record { sfits = h })

  -- the cast to 64 bits loses nothing ..
  pub wide_fits : SFits w64 (to_z w (of_z w z))
  wide_fits = record { sfits = subst (λ (x : ℤ). mag x < 2 ^ 63) (sym back) (lt_of_lt_of_le h (pow_mono {j = 63} narrow)) }

  -- .. and what is read back is the number
  pub wide_back : to_z w64 (of_z w64 (to_z w (of_z w z))) ≡ z
  wide_back = to_z-of_z w64 (to_z w (of_z w z)) wide_fits ∙ back
