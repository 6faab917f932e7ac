-- Two answers allowed for an input are equal: of the contract of each public call as the source states it, `Post`.
-- Assumes nothing.
use Rattle.one_answer.proofs.Fixes.{Fixes, fixed}
use Rattle.reading.proofs.groups.repeating_group_count.Reads as repeating-group-count
use Rattle.reading.proofs.groups.noted_by.Reads as noted-by
use Rattle.reading.proofs.groups.counter_at.Reads as counter_at
use Rattle.reading.proofs.filling.is_filled.Reads as is-filled
use Rattle.reading.proofs.turns.start.Reads as start
use Rattle.reading.proofs.turns.next_field.Reads as next_field
use Rattle.reading.proofs.turns.came_to.Reads as came-to
use Rattle.reading.proofs.filling.pad_to_min_length.Reads as pad-to-min-length
use Rattle.reading.proofs.filling.prepare.Reads as prepare
use Rattle.reading.proofs.decoding.for_each_field.Reads as for-each-field
use Rattle.reading.proofs.decoding.room_enough.Reads as room-enough

one-repeating-group-count : Fixes repeating-group-count.Post (λ κs x s. x)
one-repeating-group-count = fixed (λ κs a x s p. p)

one-start : Fixes start.Post (λ κs x s. x)
one-start = fixed (λ κs a x s p. p)

one-next-field : Fixes next_field.Post (λ κs x s. x)
one-next-field = fixed (λ κs a x s p. p)

one-came-to : Fixes came-to.Post (λ κs x s. x)
one-came-to = fixed (λ κs a x s p. p)

one-pad-to-min-length : Fixes pad-to-min-length.Post (λ κs x s. x.now)
one-pad-to-min-length = fixed (λ κs a x s p. p)

one-prepare : Fixes prepare.Post (λ κs x s. x)
one-prepare = fixed (λ κs a x s p. p.0)

same-prepare : Fixes prepare.Post (λ κs x s. s.1.1.0.now)
same-prepare = fixed (λ κs a x s p. p.1)

one-for-each-field : Fixes for-each-field.Post (λ κs x s. x)
one-for-each-field = fixed (λ κs a x s p. p.0)

same-for-each-field : Fixes for-each-field.Post (λ κs x s. s.1.1.0.now)
same-for-each-field = fixed (λ κs a x s p. p.1)

one-noted-by : Fixes noted-by.Post (λ κs x s. x)
one-noted-by = fixed (λ κs a x s p. p)

one-is-filled : Fixes is-filled.Post (λ κs x s. x)
one-is-filled = fixed (λ κs a x s p. p)

one-counter-at : Fixes counter_at.Post (λ κs x s. x)
one-counter-at = fixed (λ κs a x s p. p)

one-room-enough : Fixes room-enough.Post (λ κs x s. x)
one-room-enough = fixed (λ κs a x s p. p)
