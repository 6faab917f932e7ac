-- The record from a byte on, where it is no text. Assumes nothing.
use mathlib.Core.Path.{◌≡◌, sym, ap}
use mathlib.Core.Bool.{Bool}
use mathlib.Core.List.{List}
use Prim.Native.Nat.{ℕ, ◌+◌}
use lib.ListN.{get_or}
use borrow.Author.Tests.{ne_eqb}
use Rattle.bits.specs.Bits.{pick}
use Rattle.descriptor.specs.declared.PgnValue.TheVariants.{Bytes}
use Rattle.offers.specs.declared.Offer.TheVariants.{Value}
use Rattle.offers.specs.Records.{word_at, text_at_lem, offer_of_lem, record_at_lem}

pub number : (s : List ℕ) (q : ℕ) → (get_or s q 0 ≡ 11 → ⊥) → offer_of_lem (get_or s q 0) (word_at s (q + 8)) ≡ record_at_lem s q
number s q e = sym (ap (λ (b : Bool). pick b (Value (Bytes (text_at_lem s q))) (offer_of_lem (get_or s q 0) (word_at s (q + 8)))) (ne_eqb (get_or s q 0) 11 e))
