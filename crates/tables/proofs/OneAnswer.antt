-- Two answers allowed for an input are equal: of the contract of each public call as the source states it, `Post`.
-- Assumes nothing.
use Rattle.one_answer.proofs.Fixes.{Fixes, fixed}
use Rattle.tables.proofs.checking.check.Reads as check
use Rattle.tables.proofs.sets.group_bits.Reads as group-bits
use Rattle.tables.proofs.sets.is_repetitive_field.Reads as is-repetitive-field
use Rattle.tables.proofs.words.field_at.Reads as field_at
use Rattle.tables.proofs.words.field_count.Reads as field-count
use Rattle.tables.proofs.words.set_at.Reads as set_at
use Rattle.tables.proofs.words.set_count.Reads as set-count
use Rattle.tables.proofs.words.length_of.Reads as length-of
use Rattle.tables.proofs.words.minimum_of.Reads as minimum-of
use Rattle.tables.proofs.words.simple_width.Reads as simple-width
use Rattle.tables.proofs.TableRule.letter.Reads as letter

one-check : Fixes check.Post (λ κs x s. x)
one-check = fixed (λ κs a x s p. p)

one-group-bits : Fixes group-bits.Post (λ κs x s. x)
one-group-bits = fixed (λ κs a x s p. p)

one-is-repetitive-field : Fixes is-repetitive-field.Post (λ κs x s. x)
one-is-repetitive-field = fixed (λ κs a x s p. p)

one-field-at : Fixes field_at.Post (λ κs x s. x)
one-field-at = fixed (λ κs a x s p. p)

one-field-count : Fixes field-count.Post (λ κs x s. x)
one-field-count = fixed (λ κs a x s p. p)

one-set-at : Fixes set_at.Post (λ κs x s. x)
one-set-at = fixed (λ κs a x s p. p)

one-set-count : Fixes set-count.Post (λ κs x s. x)
one-set-count = fixed (λ κs a x s p. p)

one-length-of : Fixes length-of.Post (λ κs x s. x)
one-length-of = fixed (λ κs a x s p. p)

one-minimum-of : Fixes minimum-of.Post (λ κs x s. x)
one-minimum-of = fixed (λ κs a x s p. p)

one-simple-width : Fixes simple-width.Post (λ κs x s. x)
one-simple-width = fixed (λ κs a x s p. p)

one-letter : Fixes letter.Post (λ κs x s. x)
one-letter = fixed (λ κs a x s p. p)
