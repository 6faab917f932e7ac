-- Two answers allowed for an input are equal: of the contract of each public call as the source states it, `Post`. Assumes nothing.
use Rattle.one_answer.proofs.Fixes.{Fixes, fixed}
use Rattle.offers.proofs.kinds.offer_of.Reads as offer-of
use Rattle.offers.proofs.rows.offer_count.Reads as offer-count
use Rattle.offers.proofs.rows.offer_at.Reads as offer-at

one-offer-of : Fixes offer-of.Post (λ κs x s. x)
one-offer-of = fixed (λ κs a x s p. p)

one-offer-count : Fixes offer-count.Post (λ κs x s. x)
one-offer-count = fixed (λ κs a x s p. p)

one-offer-at : Fixes offer-at.Post (λ κs x s. x)
one-offer-at = fixed (λ κs a x s p. p)
