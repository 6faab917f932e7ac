-- The buffer holds what is fed.
use Rattle.std.proofs.Common.{sym}
use Rattle.lines.specs.Machine.{up_to_newline}
use Rattle.printing.proofs.Taking.{kept-fed}
use Rattle.printing.proofs.program.PrintingProgram.feed.Goals as goal

pub returns-clause-kept : goal.returns-clause-kept
returns-clause-kept g c = rw (c.feed-fed.ensures.0, c.feed-fed.ensures.1) (sym (kept-fed c.args.self.now.line c.args.self.now.buffer (up_to_newline c.args.input.now)))
