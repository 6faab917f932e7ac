-- Two answers allowed for an input are equal: of the contract of each public call as the source states it, `Post`.
-- Assumes nothing.
use Rattle.one_answer.proofs.Fixes.{Fixes, fixed}
use Rattle.weighing.proofs.weigh.weigh_field.Reads as weigh-field
use Rattle.weighing.proofs.weigh.weigh_gap.Reads as weigh-gap
use Rattle.weighing.proofs.EncodeRefusal.number.Reads as number
use Rattle.weighing.proofs.EncodeRefusal.carried_count.Reads as carried-count
use Rattle.weighing.proofs.EncodeRefusal.carried.Reads as carried
use Rattle.weighing.proofs.refusals.EncodeRefusalFromBrokenRule.from.Reads as refused_by

one-weigh-field : Fixes weigh-field.Post (λ κs x s. x)
one-weigh-field = fixed (λ κs a x s p. p)

one-weigh-gap : Fixes weigh-gap.Post (λ κs x s. x)
one-weigh-gap = fixed (λ κs a x s p. p)

one_number : Fixes number.Post (λ κs x s. x)
one_number = fixed (λ κs a x s p. p)

one-carried-count : Fixes carried-count.Post (λ κs x s. x)
one-carried-count = fixed (λ κs a x s p. p)

one-carried : Fixes carried.Post (λ κs x s. x)
one-carried = fixed (λ κs a x s p. p)

one-refused-by : Fixes refused_by.Post (λ κs x s. x)
one-refused-by = fixed (λ κs a x s p. p)
