-- Two answers allowed for an input are equal: of the contract of each public call as the source states it, `Post`.
-- Assumes nothing.
use Rattle.one_answer.proofs.Fixes.{Fixes, fixed}
use Rattle.walking.proofs.looks.look_at.Reads as look_at
use Rattle.walking.proofs.places.place_at.Reads as place_at

one-place-at : Fixes place_at.Post (λ κs x s. x)
one-place-at = fixed (λ κs a x s p. p)

one-look-at : Fixes look_at.Post (λ κs x s. x)
one-look-at = fixed (λ κs a x s p. p)
