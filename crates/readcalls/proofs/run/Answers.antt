-- What a program writes that holds its lines is the text of its lines alone.
use Rattle.std.proofs.Common.{rules}
use Rattle.textio.proofs.Turns.{printed-lines}
use Rattle.readcalls.specs.Answers.{answered, line_max}
use Rattle.readcalls.proofs.run.Goals as goal

pub returns : goal.returns
returns g c = printed-lines answered line_max _ _ _ _ _ _ c.new-program.ensures.held (search rules) c.run.ensures
