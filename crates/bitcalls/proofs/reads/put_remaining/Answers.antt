-- By the COUNT.
use Rattle.text.proofs.Putting.{then, same}
use Rattle.bitcalls.proofs.Values.{remaining}
use Rattle.bitcalls.proofs.reads.put_remaining.Goals as goal

pub returns : goal.returns
returns c = same (remaining c.args.c c.args.s.now c.args.count c.if-count-ne0.false c.bits_remaining-left.ensures) (then c.put_ok.ensures c.put_number.ensures)
