-- Two answers allowed for an input are equal, and so are two contents of what is lent: of the contract of each public call as the source states it, `Post`. Assumes nothing.
use Rattle.one_answer.proofs.Fixes.{Fixes, fixed}
use Rattle.text.specs.Sheet.{sheet}
use Rattle.lines.specs.Machine.{passed}
use Rattle.printing.specs.Answers.{kept}
use Rattle.printing.proofs.answers.put_answer.Reads as put-answer
use Rattle.printing.proofs.passing.pass.Reads as pass
use Rattle.printing.proofs.program.Printing.new.Reads as new

one-put-answer : Fixes put-answer.Post (λ κs x s. sheet s.1.1.0.now x)
one-put-answer = fixed (λ κs a x s p. p.is)

-- the answer, the buffer and the page at once: what is fixed is all their parts
one-pass : Fixes pass.Post (λ κs x s. passed (kept x.line s.1.1.0.now) x.waits x.taken s.1.1.1.1.0.now x.to)
one-pass = fixed (λ κs a x s p. p)

one-new : (n : _) (size : _) → Fixes (new.Post n size) (λ κs x s. x.line)
one-new n size = fixed (λ κs a x s p. p.0)

one-new-buffer : (n : _) (size : _) → Fixes (new.Post n size) (λ κs x s. x.buffer)
one-new-buffer n size = fixed (λ κs a x s p. p.1)
