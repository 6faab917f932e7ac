-- The fields up to i are later fields of sets.
use Rattle.tables.specs.Table.{table_of}
use Rattle.records.specs.Stretches.{Insides}
use Rattle.records.proofs.stretches.past_inside.Given as goal

abbrev pub invariant-loop-i : goal.invariant-loop-i
invariant-loop-i l = Insides (table_of l.words) l.from l.i
