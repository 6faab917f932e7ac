-- Two answers allowed for an input are equal, and so are two contents of the lent buffer: of the contract of each public call
-- as the source states it, `Post`. Assumes nothing.
use Rattle.one_answer.proofs.Fixes.{Fixes, fixed}
use Rattle.writing.proofs.ink.write_field.Reads as write-field
use Rattle.writing.proofs.begins.begin.Reads as begin
use Rattle.writing.proofs.strokes.start.Reads as start
use Rattle.writing.proofs.strokes.weigh_next.Reads as weigh-next
use Rattle.writing.proofs.strokes.write_next.Reads as write-next
use Rattle.writing.proofs.encodes.bytes_used.Reads as bytes-used
use Rattle.writing.proofs.encodes.encode.Reads as encode

one-write-field : Fixes write-field.Post (λ κs x s. x)
one-write-field = fixed (λ κs a x s p. p.0)

same-write-field : Fixes write-field.Post (λ κs x s. s.0.now)
same-write-field = fixed (λ κs a x s p. p.1)

one-begin : Fixes begin.Post (λ κs x s. x)
one-begin = fixed (λ κs a x s p. p.0)

same-begin : Fixes begin.Post (λ κs x s. s.1.0.now)
same-begin = fixed (λ κs a x s p. p.1)

one-start : Fixes start.Post (λ κs x s. x)
one-start = fixed (λ κs a x s p. p)

one-weigh-next : Fixes weigh-next.Post (λ κs x s. x)
one-weigh-next = fixed (λ κs a x s p. p)

one-write-next : Fixes write-next.Post (λ κs x s. x)
one-write-next = fixed (λ κs a x s p. p.0)

same-write-next : Fixes write-next.Post (λ κs x s. s.1.0.now)
same-write-next = fixed (λ κs a x s p. p.1)

one-bytes-used : Fixes bytes-used.Post (λ κs x s. x)
one-bytes-used = fixed (λ κs a x s p. p)

one-encode : Fixes encode.Post (λ κs x s. x)
one-encode = fixed (λ κs a x s p. p.0)

same-encode : Fixes encode.Post (λ κs x s. s.1.1.1.0.now)
same-encode = fixed (λ κs a x s p. p.1)
