-- Two answers allowed for an input are equal, and so are two contents of what is lent: of the contract of each public call, as the source states it,
-- `Post`. Assumes nothing.
use Rattle.one_answer.proofs.Fixes.{Fixes, fixed}
use Rattle.lines.specs.Machine.{passed}
use Rattle.lines.proofs.holding.nothing.Reads as nothing
use Rattle.lines.proofs.holding.feed.Reads as feed
use Rattle.lines.proofs.holding.line_of.Reads as Line-of
use Rattle.lines.proofs.program.Lines.new.Reads as new
use Rattle.lines.proofs.passing.pass.Reads as pass
use Rattle.lines.proofs.stepping.begin.Reads as begin
use Rattle.lines.proofs.stepping.next.Reads as next
use Rattle.lines.proofs.stepping.answered.Reads as answered

one-nothing : Fixes nothing.Post (λ κs x s. x)
one-nothing = fixed (λ κs a x s p. p)

one-feed : Fixes feed.Post (λ κs x s. x)
one-feed = fixed (λ κs a x s p. p.0)

same-feed : Fixes feed.Post (λ κs x s. s.1.0.now)
same-feed = fixed (λ κs a x s p. p.1)

one-line-of : Fixes Line-of.Post (λ κs x s. x.now)
one-line-of = fixed (λ κs a x s p. p)

one-begin : Fixes begin.Post (λ κs x s. x)
one-begin = fixed (λ κs a x s p. p)

one-next : Fixes next.Post (λ κs x s. x)
one-next = fixed (λ κs a x s p. p.0)

same_next : Fixes next.Post (λ κs x s. s.1.0.now)
same_next = fixed (λ κs a x s p. p.1)

one-answered : Fixes answered.Post (λ κs x s. x)
one-answered = fixed (λ κs a x s p. p)

-- the answer, what is kept and the page at once: what is fixed is all their parts
one-pass : (T : _) (laws : _) (P : _) (dict : _) → Fixes (pass.Post T laws P dict) (λ κs x s. passed (P.kept s.0.now) x.waits x.taken s.1.1.1.0.now x.to)
one-pass T laws P dict = fixed (λ κs a x s p. p)

one-new : (T : _) (n : _) (laws : _) (size : _) (A : _) (dict : _) → Fixes (new.Post T n laws size A dict) (λ κs x s. x.held)
one-new T n laws size A dict = fixed (λ κs a x s p. p.0)

one-new-line : (T : _) (n : _) (laws : _) (size : _) (A : _) (dict : _) → Fixes (new.Post T n laws size A dict) (λ κs x s. x.line)
one-new-line T n laws size A dict = fixed (λ κs a x s p. p.1.0)

one-new-answers : (T : _) (n : _) (laws : _) (size : _) (A : _) (dict : _) → Fixes (new.Post T n laws size A dict) (λ κs x s. x.answers)
one-new-answers T n laws size A dict = fixed (λ κs a x s p. p.1.1)
