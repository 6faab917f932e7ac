-- Two pages allowed after a call are equal, bytes and place: of the contract of each public call as the source states it, `Post`. Assumes nothing.
use Rattle.one_answer.proofs.Fixes.{Fixes, fixed}
use Rattle.frame_lines.proofs.rows.put_place.Reads as put-place
use Rattle.frame_lines.proofs.rows.put_head.Reads as put-head
use Rattle.frame_lines.proofs.rows.put_reading.Reads as put-reading
use Rattle.frame_lines.proofs.rows.put_frame.Reads as put-frame
use Rattle.frame_lines.proofs.rows.put_end.Reads as put-end
use Rattle.frame_lines.proofs.rows.put_refusal.Reads as put-refusal
use Rattle.frame_lines.proofs.rows.put_unknown.Reads as put-unknown
use Rattle.frame_lines.proofs.decodes.put_decode.Reads as put-decode

one-put-place : Fixes put-place.Post (λ κs x s. s.0.now)
one-put-place = fixed (λ κs a x s p. p.is)

one-put-head : Fixes put-head.Post (λ κs x s. s.0.now)
one-put-head = fixed (λ κs a x s p. p.is)

one-put-reading : Fixes put-reading.Post (λ κs x s. s.0.now)
one-put-reading = fixed (λ κs a x s p. p.is)

one-put-frame : Fixes put-frame.Post (λ κs x s. s.0.now)
one-put-frame = fixed (λ κs a x s p. p.is)

one-put-end : Fixes put-end.Post (λ κs x s. s.0.now)
one-put-end = fixed (λ κs a x s p. p.is)

one-put-refusal : Fixes put-refusal.Post (λ κs x s. s.0.now)
one-put-refusal = fixed (λ κs a x s p. p.is)

one-put-unknown : Fixes put-unknown.Post (λ κs x s. s.0.now)
one-put-unknown = fixed (λ κs a x s p. p.is)

one-put-decode : Fixes put-decode.Post (λ κs x s. s.1.1.0.now)
one-put-decode = fixed (λ κs a x s p. p.is)
