-- The bits are those of a NaN.
use mathlib.Core.Path.{ap}
use lib.Ieee.{of_bits}
use Rattle.descriptor.specs.declared.Resolution.TheVariants.{Single}
use Rattle.descriptor.proofs.kinds.broken_resolution.Goals as goal

pub returns : goal.returns
unfolding of_bits
returns c = ap Single c.f32_of_bits.ensures
