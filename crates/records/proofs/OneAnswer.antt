-- Two answers allowed for an input are equal, and so are two contents of what is lent: of the contract of each public call
-- as the source states it, `Post`. Assumes nothing.
use Rattle.one_answer.proofs.Fixes.{Fixes, fixed}
use Rattle.records.proofs.into.room_in.Reads as room_in
use Rattle.records.proofs.into.decode_into.Reads as decode-into
use Rattle.records.proofs.pgns.decode_pgn_into.Reads as decode-pgn-into
use Rattle.records.proofs.readings.element_word.Reads as element-word
use Rattle.records.proofs.readings.raw_word.Reads as raw_word
use Rattle.records.proofs.readings.raw_mark.Reads as raw-mark
use Rattle.records.proofs.readings.bytes_in.Reads as bytes-in
use Rattle.records.proofs.readings.value_word.Reads as value-word

one-room-in : Fixes room_in.Post (λ κs x s. x)
one-room-in = fixed (λ κs a x s p. p)

one-decode-into : Fixes decode-into.Post (λ κs x s. x)
one-decode-into = fixed (λ κs a x s p. p.0)

run-decode-into : Fixes decode-into.Post (λ κs x s. s.1.1.0.now)
run-decode-into = fixed (λ κs a x s p. p.1.0)

out-decode-into : Fixes decode-into.Post (λ κs x s. s.1.1.1.0.now)
out-decode-into = fixed (λ κs a x s p. p.1.1)

one-decode-pgn-into : Fixes decode-pgn-into.Post (λ κs x s. x)
one-decode-pgn-into = fixed (λ κs a x s p. p.0)

out-decode-pgn-into : Fixes decode-pgn-into.Post (λ κs x s. s.1.1.1.0.now)
out-decode-pgn-into = fixed (λ κs a x s p. p.1)

one-element-word : Fixes element-word.Post (λ κs x s. x)
one-element-word = fixed (λ κs a x s p. p)

one-raw-word : Fixes raw_word.Post (λ κs x s. x)
one-raw-word = fixed (λ κs a x s p. p)

one-raw-mark : Fixes raw-mark.Post (λ κs x s. x)
one-raw-mark = fixed (λ κs a x s p. p)

one-bytes-in : Fixes bytes-in.Post (λ κs x s. x)
one-bytes-in = fixed (λ κs a x s p. p)

one-value-word : Fixes value-word.Post (λ κs x s. x)
one-value-word = fixed (λ κs a x s p. p)
