-- Two answers allowed for an input are equal: of the contract of each public call as the source states it, `Post`.
-- Assumes nothing.
use Rattle.one_answer.proofs.Fixes.{Fixes, fixed}
use Rattle.descriptor.proofs.kinds.kind_of.Reads as kind-of
use Rattle.descriptor.proofs.kinds.resolution_of.Reads as resolution-of

one-kind-of : Fixes kind-of.Post (λ κs x s. x)
one-kind-of = fixed (λ κs a x s p. p)

one-resolution-of : Fixes resolution-of.Post (λ κs x s. x)
one-resolution-of = fixed (λ κs a x s p. p)
