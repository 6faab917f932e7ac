-- Both came to the same, so no line follows.
use Rattle.text.proofs.Putting.{then, same}
use Rattle.readcalls.specs.Lines.{last_line_lem, run_line}
use Rattle.readcalls.proofs.Same.{no_difference, outcome}
use Rattle.readcalls.proofs.replies.put_outcome.Goals as goal

pub returns : goal.returns
returns c =
    same (outcome (last_line_lem c.args.decoded) (run_line c.args.first.now) (no_difference c.is_same.ensures c.requires.0 (c.same.ensures.1 c.requires.1)))
    (then (then c.put_decoded.ensures c.put_run.ensures) c.put_difference.ensures)
