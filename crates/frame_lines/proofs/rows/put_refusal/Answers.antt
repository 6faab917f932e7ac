-- No refusal carries more than three values.
use Rattle.text.proofs.Putting.{then, same}
use Rattle.frame_lines.specs.Lines.{refusal_line}
use Rattle.frame_lines.proofs.Carried.{carried-all}
use Rattle.frame_lines.proofs.rows.put_refusal.Goals as goal

pub returns : goal.returns
unfolding refusal_line
returns c = then (same (carried-all c.args.e c.number-number.ensures c.carried_count-count.ensures c.carried-first.ensures c.carried-second.ensures c.carried-third.ensures) c.put_refused.ensures) c.put.ensures
