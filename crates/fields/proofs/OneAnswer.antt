-- Two answers allowed for an input are equal: of the contract of each public call as the source states it, `Post`.
-- Assumes nothing.
use Rattle.one_answer.proofs.Fixes.{Fixes, fixed}
use Rattle.fields.proofs.shapes.is_number.Reads as is_number
use Rattle.fields.proofs.shapes.is_gap.Reads as is-gap
use Rattle.fields.proofs.shapes.shape_of.Reads as shape_of
use Rattle.fields.proofs.availability.field_availability.Reads as field-availability
use Rattle.fields.proofs.read.read_field_raw_and_value.Reads as read-field-raw-and-value
use Rattle.fields.proofs.refusals.touches_nothing.Reads as touches-nothing
use Rattle.fields.proofs.DecodeRefusal.number.Reads as number
use Rattle.fields.proofs.DecodeRefusal.carried_count.Reads as carried-count
use Rattle.fields.proofs.DecodeRefusal.carried.Reads as carried
use Rattle.fields.proofs.DecodeRefusal.unit.Reads as unit
use Rattle.fields.proofs.refusals.DecodeRefusalFromBrokenRule.from.Reads as refused_by

one-field-availability : Fixes field-availability.Post (λ κs x s. x)
one-field-availability = fixed (λ κs a x s p. p)

one-read-field-raw-and-value : Fixes read-field-raw-and-value.Post (λ κs x s. x)
one-read-field-raw-and-value = fixed (λ κs a x s p. p)

one_number : Fixes number.Post (λ κs x s. x)
one_number = fixed (λ κs a x s p. p)

one-touches-nothing : Fixes touches-nothing.Post (λ κs x s. x)
one-touches-nothing = fixed (λ κs a x s p. p)

one-carried-count : Fixes carried-count.Post (λ κs x s. x)
one-carried-count = fixed (λ κs a x s p. p)

one-carried : Fixes carried.Post (λ κs x s. x)
one-carried = fixed (λ κs a x s p. p)

one_unit : Fixes unit.Post (λ κs x s. x)
one_unit = fixed (λ κs a x s p. p)

one-is-number : Fixes is_number.Post (λ κs x s. x)
one-is-number = fixed (λ κs a x s p. p)

one-is-gap : Fixes is-gap.Post (λ κs x s. x)
one-is-gap = fixed (λ κs a x s p. p)

one-shape-of : Fixes shape_of.Post (λ κs x s. x)
one-shape-of = fixed (λ κs a x s p. p)

one-refused-by : Fixes refused_by.Post (λ κs x s. x)
one-refused-by = fixed (λ κs a x s p. p)
