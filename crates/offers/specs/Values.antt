-- The values of an encode: document 01, "Writing a payload", "Values come in walk order".
use Rattle.std.specs.Prelude.{ℕ}
use Rattle.offers.specs.declared.Offer.{Offer}

-- how many values there are, and what stands at a place among them: below the count a value or something of no kind, past it nothing. Of
-- records this is so: `listed` of crate `writing`, proofs/Listing.antt
pub record Values : Type 0 where
  pub count : ℕ
  pub offered : ℕ → Offer
