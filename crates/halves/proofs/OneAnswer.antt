-- Two answers allowed for an input are equal: of the contract of each public call as the source states it, `Post`. Assumes nothing.
use Rattle.one_answer.proofs.Fixes.{Fixes, fixed}
use Rattle.halves.proofs.right.Reads as right
use Rattle.halves.proofs.left.Reads as left
use Rattle.halves.proofs.ones.Reads as ones

one_right : Fixes right.Post (λ κs x s. x)
one_right = fixed (λ κs a x s p. p)

one_left : Fixes left.Post (λ κs x s. x)
one_left = fixed (λ κs a x s p. p)

one-ones : Fixes ones.Post (λ κs x s. x)
one-ones = fixed (λ κs a x s p. p)
