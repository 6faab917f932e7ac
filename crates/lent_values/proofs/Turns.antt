-- Lent values stand at the places below their count, and at no other. Assumes nothing.
use mathlib.Core.Path.{◌≡◌}
use mathlib.Core.Bool.{Bool, true, false}
use mathlib.Core.List.{List}
use lib.Dec.{ltb}
use lib.ListN.{length}
use borrow.Author.Tests.{lt-ltb, le-ltb}
use Rattle.bits.specs.Bits.{pick}
use Rattle.descriptor.specs.declared.PgnValue.{PgnValue}
use Rattle.offers.specs.declared.Offer.TheVariants.{Nothing, Value}
use Rattle.writing.proofs.Loops.{Listed}
use Rattle.lent_values.specs.Run.{values_of}

some : (b : Bool) (v : PgnValue) → b ≡ true → pick b (Value v) Nothing ≡ Nothing → ⊥
some true v h e = absurd cc
some false v h e = absurd cc

pub listed : (vs : List PgnValue) → Listed (values_of vs)
listed vs = record { past = λ j l. rw (le-ltb j (length vs) l); here = λ j l e. some (ltb j (length vs)) _ (lt-ltb j (length vs) l) e }
