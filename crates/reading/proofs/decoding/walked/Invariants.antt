-- Turn by turn, what is met and what is left are the walk.
use Rattle.tables.specs.Table.{table_of}
use Rattle.fields.specs.Payload.{payload_of}
use Rattle.reading.proofs.Looped.{Going, heft}
use Rattle.reading.proofs.decoding.walked.Given as goal

abbrev pub invariant-loop-decoded : goal.invariant-loop-decoded
invariant-loop-decoded l = Going (table_of l.table.words.now) (payload_of l.s) l.room l.walk

abbrev pub decreases-loop-decoded : goal.decreases-loop-decoded
decreases-loop-decoded l = heft (table_of l.table.words.now) (payload_of l.s) l.room l.walk
