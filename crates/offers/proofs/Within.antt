-- A value is offered where its size is below the limit of its kind. Assumes nothing.
use mathlib.Core.Path.{◌≡◌, sym, ap}
use mathlib.Core.Bool.{Bool}
use Prim.Native.Nat.{ℕ, ◌<◌}
use borrow.Author.Tests.{lt-ltb}
use Rattle.bits.specs.Bits.{pick}
use Rattle.descriptor.specs.declared.PgnValue.{PgnValue}
use Rattle.offers.specs.declared.Offer.TheVariants.{NoKind, Value}
use Rattle.offers.specs.Records.{within}

module _ (size limit : ℕ) (v : PgnValue) where
  pub held : size < limit → Value v ≡ within size limit v
  held h = sym (ap (λ (b : Bool). pick b (Value v) NoKind) (lt-ltb size limit h))
