-- Both ways come to the same end and the same run.
use Rattle.text.proofs.Putting.{then, same}
use Rattle.tables.specs.Table.{table_of}
use Rattle.readcalls.proofs.Same.{whole-text}
use Rattle.readcalls.proofs.replies.put_both.Goals as goal

pub returns : goal.returns
returns c = same (whole-text (table_of c.args.words.now) c.args.received.now c.args.first.now c.args.room c.put_turns-decoded.ensures.1.0 c.put_turns-decoded.ensures.1.1) (then c.put_turns-decoded.ensures.0 c.put_outcome.ensures)
