-- No field but the last is a counter of the sets before k.
use native.Mathlib.Omega.{arith}
use Rattle.tables.specs.Table.{table_of}
use Rattle.records.proofs.Noting.{quiets-all}
use Rattle.records.proofs.stretches.quiet_until.Goals as goal

pub returns : goal.returns
returns c = (c.loop-k.invariant.some, (c.loop-k.invariant.below, quiets-all (table_of c.args.words.now) c.args.i c.args.end c.loop-k.invariant (omega (arith, c.set_count-k-end.ensures))))
