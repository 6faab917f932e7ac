-- "Not available: [..] NaN in Float", and nothing else in Float: by the value that the raw is. Assumes nothing.
use mathlib.Core.Path.{◌≡◌, sym, ap, ◌∙◌}
use mathlib.Core.Bool.{Bool}
use Prim.Native.Nat.{ℕ}
use lib.Ieee.{binary32, is_nan, of_bits}
use lib.Ieee.Bits.{nan_bits_is, nan_bits_above}
use Rattle.bits.specs.Bits.{pick}
use Rattle.descriptor.specs.declared.Availability.TheVariants.{Available, NotAvailable}
use Rattle.numbers.specs.Special.{float_availability_of}

pub silent-nan : (raw : ℕ) → float_availability_of raw ≡ pick (is_nan (of_bits binary32 raw)) NotAvailable Available
silent-nan raw = ap (λ (b : Bool). pick b NotAvailable Available) (sym (nan_bits_above binary32 raw) ∙ nan_bits_is binary32 raw)
