-- The buffer holds what is fed.
use Rattle.std.proofs.Common.{sym}
use Rattle.lines.specs.Machine.{up_to_newline}
use Rattle.lines.proofs.Chunk.{held-feds}
use Rattle.lines.proofs.program.LinesProgram.feed.Goals as goal

pub returns-clause-kept : goal.returns-clause-kept
returns-clause-kept g c = rw (c.feed-fed.ensures.0, c.feed-fed.ensures.1) (sym (held-feds g.A.Answers.answered c.args.self.now.held c.args.self.now.line (up_to_newline c.args.input.now)))
