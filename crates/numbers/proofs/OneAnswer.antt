-- Two answers allowed for an input are equal: of the contract of each public call as the source states it, `Post`.
-- Assumes nothing.
use Rattle.one_answer.proofs.Fixes.{Fixes, fixed}
use Rattle.numbers.proofs.raws.sign_extend.Reads as sign-extend
use Rattle.numbers.proofs.scale.scale_raw_field.Reads as scale-raw-field
use Rattle.numbers.proofs.special.number_availability.Reads as number-availability
use Rattle.numbers.proofs.special.counter_elements.Reads as counter-elements
use Rattle.numbers.proofs.quantizing.quantize.Reads as quantize
use Rattle.numbers.proofs.conversions.pgn_value_to_f64.Reads as pgn-value-to-f64
use Rattle.numbers.proofs.conversions.pgn_value_to_i64.Reads as pgn-value-to-i64
use Rattle.numbers.proofs.conversions.pgn_value_to_u64.Reads as pgn-value-to-u64
use Rattle.numbers.proofs.conversions.number_to_raw.Reads as number-to-raw
use Rattle.numbers.proofs.words.code_of.Reads as code_of_lem
use Rattle.numbers.proofs.words.word_of.Reads as word_of
use Rattle.numbers.proofs.words.silence_of.Reads as silence-of
use Rattle.numbers.proofs.words.simple_words.Reads as simple-words
use Rattle.numbers.proofs.words.number_words.Reads as number-words
use Rattle.numbers.proofs.holding.holds_number.Reads as holds-number
use Rattle.numbers.proofs.NumberRefusal.number.Reads as number
use Rattle.numbers.proofs.NumberRefusal.carried_count.Reads as carried-count
use Rattle.numbers.proofs.NumberRefusal.carried.Reads as carried
use Rattle.numbers.proofs.refusals.raw_number.Reads as raw-number
use Rattle.numbers.proofs.refusals.raw_carried_count.Reads as raw-carried-count
use Rattle.numbers.proofs.refusals.raw_carried.Reads as raw-carried

one-sign-extend : Fixes sign-extend.Post (λ κs x s. x)
one-sign-extend = fixed (λ κs a x s p. p)

one-scale-raw-field : Fixes scale-raw-field.Post (λ κs x s. x)
one-scale-raw-field = fixed (λ κs a x s p. p)

one-number-availability : Fixes number-availability.Post (λ κs x s. x)
one-number-availability = fixed (λ κs a x s p. p)

one-counter-elements : Fixes counter-elements.Post (λ κs x s. x)
one-counter-elements = fixed (λ κs a x s p. p)

one-quantize : Fixes quantize.Post (λ κs x s. x)
one-quantize = fixed (λ κs a x s p. p)

one-pgn-value-to-f64 : Fixes pgn-value-to-f64.Post (λ κs x s. x)
one-pgn-value-to-f64 = fixed (λ κs a x s p. p)

one-pgn-value-to-i64 : Fixes pgn-value-to-i64.Post (λ κs x s. x)
one-pgn-value-to-i64 = fixed (λ κs a x s p. p)

one-pgn-value-to-u64 : Fixes pgn-value-to-u64.Post (λ κs x s. x)
one-pgn-value-to-u64 = fixed (λ κs a x s p. p)

one-number-to-raw : Fixes number-to-raw.Post (λ κs x s. x)
one-number-to-raw = fixed (λ κs a x s p. p)

one-code-of : Fixes code_of_lem.Post (λ κs x s. x)
one-code-of = fixed (λ κs a x s p. p)

one-word-of : Fixes word_of.Post (λ κs x s. x)
one-word-of = fixed (λ κs a x s p. p)

one-silence-of : Fixes silence-of.Post (λ κs x s. x)
one-silence-of = fixed (λ κs a x s p. p)

one-simple-words : Fixes simple-words.Post (λ κs x s. x)
one-simple-words = fixed (λ κs a x s p. p)

one-number-words : Fixes number-words.Post (λ κs x s. x)
one-number-words = fixed (λ κs a x s p. p)

one-holds-number : Fixes holds-number.Post (λ κs x s. x)
one-holds-number = fixed (λ κs a x s p. p)

one-number : Fixes number.Post (λ κs x s. x)
one-number = fixed (λ κs a x s p. p)

one-carried-count : Fixes carried-count.Post (λ κs x s. x)
one-carried-count = fixed (λ κs a x s p. p)

one-carried : Fixes carried.Post (λ κs x s. x)
one-carried = fixed (λ κs a x s p. p)

one-raw-number : Fixes raw-number.Post (λ κs x s. x)
one-raw-number = fixed (λ κs a x s p. p)

one-raw-carried-count : Fixes raw-carried-count.Post (λ κs x s. x)
one-raw-carried-count = fixed (λ κs a x s p. p)

one-raw-carried : Fixes raw-carried.Post (λ κs x s. x)
one-raw-carried = fixed (λ κs a x s p. p)
