-- The fields up to the end are in none of the sets before k.
use Rattle.tables.specs.Table.{table_of}
use Rattle.records.proofs.Placed.{Clears}
use Rattle.records.proofs.stretches.plain_until.Given as goal

abbrev pub invariant-loop-k : goal.invariant-loop-k
invariant-loop-k l = Clears (table_of l.words) l.i l.k l.end
