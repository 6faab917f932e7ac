-- The fields up to the end are in none of the sets before k.
use native.Mathlib.Omega.{arith}
use Rattle.tables.specs.Table.{table_of}
use Rattle.records.proofs.Placed.{clears-more, clears-all}
use Rattle.records.proofs.stretches.plain_until.Goals as goal

pub loop-k-preserved : goal.loop-k-preserved
loop-k-preserved c = clears-more (table_of c.args.words.now) c.args.i c.loop-k.invariant c.clear_of-end.ensures

pub returns : goal.returns
returns c = clears-all (table_of c.args.words.now) c.args.i c.loop-k.invariant (omega (arith, c.set_count-k-end.ensures))
