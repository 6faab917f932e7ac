-- Two answers allowed for an input are equal, and so are two contents of what is lent: of the contract of each public call as the source
-- states it, `Post`. Assumes nothing.
use Rattle.one_answer.proofs.Fixes.{Fixes, fixed}
use Rattle.frames.proofs.digest.empty_line.Reads as empty-line
use Rattle.frames.proofs.digest.feed.Reads as feed
use Rattle.frames.proofs.lookup.frame_of.Reads as frame-of

one-empty-line : Fixes empty-line.Post (λ κs x s. x)
one-empty-line = fixed (λ κs a x s p. p)

one-feed : Fixes feed.Post (λ κs x s. x)
one-feed = fixed (λ κs a x s p. p.0)

same-feed : Fixes feed.Post (λ κs x s. s.1.0.now)
same-feed = fixed (λ κs a x s p. p.1)

one-frame-of : Fixes frame-of.Post (λ κs x s. x)
one-frame-of = fixed (λ κs a x s p. p)
