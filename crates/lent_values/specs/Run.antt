-- The values of an encode, lent as values: document 01, "Writing a payload", "Values come in walk order". The rest of the contract of `encode`
-- is specs/Encode.antt of crate `writing`.
use Rattle.std.specs.Prelude.{ℕ, List, ltb, length, get_or}
use Rattle.bits.specs.Bits.{pick}
use Rattle.descriptor.specs.declared.PgnValue.{PgnValue}
use Rattle.descriptor.specs.declared.PgnValue.TheVariants.{U8}
use Rattle.offers.specs.declared.Offer.{Offer}
use Rattle.offers.specs.declared.Offer.TheVariants.{Nothing, Value}
use Rattle.offers.specs.Values.{Values}

-- each value at its place, and nothing past the last
abbrev pub offered_at : List PgnValue → ℕ → Offer
offered_at vs j = pick (ltb j (length vs)) (Value (get_or vs j (U8 0))) Nothing

abbrev pub values_of : List PgnValue → Values
values_of vs = record { count = length vs; offered = offered_at vs }
