-- Two answers allowed for an input are equal, and so are two contents of a lent buffer: of the contract of each public call as
-- the source states it, `Post`. Assumes nothing.
use Rattle.one_answer.proofs.Fixes.{Fixes, fixed}
use Rattle.columns.specs.Runs.{filled}
use Rattle.columns.proofs.parts.part.Reads as part
use Rattle.columns.proofs.parts.part_end.Reads as part_end
use Rattle.columns.proofs.parts.field_end.Reads as field_end
use Rattle.columns.proofs.parts.word.Reads as word
use Rattle.columns.proofs.parts.marks.Reads as marks
use Rattle.columns.proofs.names.same.Reads as same
use Rattle.columns.proofs.names.place_in.Reads as IsPlace-in
use Rattle.columns.proofs.figures.decimal.Reads as decimal
use Rattle.columns.proofs.figures.hex.Reads as hex
use Rattle.columns.proofs.runs.words.Reads as words
use Rattle.columns.proofs.runs.pairs.Reads as pairs
use Rattle.columns.proofs.runs.bytes.Reads as bytes

one-part : Fixes part.Post (λ κs x s. x.now)
one-part = fixed (λ κs a x s p. p)

one-part-end : Fixes part_end.Post (λ κs x s. x)
one-part-end = fixed (λ κs a x s p. p.0)

one-field-end : Fixes field_end.Post (λ κs x s. x)
one-field-end = fixed (λ κs a x s p. p.0)

one_word : Fixes word.Post (λ κs x s. x.now)
one_word = fixed (λ κs a x s p. p)

one-marks : Fixes marks.Post (λ κs x s. x)
one-marks = fixed (λ κs a x s p. p)

one_same : Fixes same.Post (λ κs x s. x)
one_same = fixed (λ κs a x s p. p)

one-place-in : Fixes IsPlace-in.Post (λ κs x s. x)
one-place-in = fixed (λ κs a x s p. p)

one-decimal : Fixes decimal.Post (λ κs x s. x)
one-decimal = fixed (λ κs a x s p. p)

one-hex : Fixes hex.Post (λ κs x s. x)
one-hex = fixed (λ κs a x s p. p)

-- Calls that fill a buffer: the answer together with the buffer at exit.

one-words : Fixes words.Post (λ κs x s. filled x s.1.1.0.now)
one-words = fixed (λ κs a x s p. p)

one-pairs : Fixes pairs.Post (λ κs x s. filled x s.1.0.now)
one-pairs = fixed (λ κs a x s p. p)

one-bytes : Fixes bytes.Post (λ κs x s. filled x s.1.0.now)
one-bytes = fixed (λ κs a x s p. p)
