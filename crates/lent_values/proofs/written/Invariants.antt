-- Turn by turn, what is met and what is left are the walk, and the buffer is the image of what
-- is met.
use lib.ListN.{length}
use Rattle.tables.specs.Table.{table_of}
use Rattle.lent_values.specs.Run.{values_of}
use Rattle.writing.proofs.Loops.{Going, heft}
use Rattle.lent_values.proofs.written.Given as goal

abbrev pub invariant-loop : goal.invariant-loop
invariant-loop l = Going (table_of l.table.words.now) (values_of l.values) l.lent (length l.initial.buffer) l.draft l.buffer

abbrev pub decreases-loop : goal.decreases-loop
decreases-loop l = heft (table_of l.table.words.now) (values_of l.values) l.lent (length l.initial.buffer) l.draft
