-- Two answers allowed for an input are equal: of the contract of each public call as the source states it, `Post`. Assumes nothing.
use Rattle.one_answer.proofs.Fixes.{Fixes, fixed}
use Rattle.hexadecimal.proofs.value_of.Reads as value_of_lem
use Rattle.hexadecimal.proofs.digit_of.Reads as digit-of

one-value-of : Fixes value_of_lem.Post (λ κs x s. x)
one-value-of = fixed (λ κs a x s p. p)

one-digit-of : Fixes digit-of.Post (λ κs x s. x)
one-digit-of = fixed (λ κs a x s p. p)
