-- What is stored are the readings made so far.
use Rattle.tables.specs.Table.{table_of}
use Rattle.fields.specs.Payload.{payload_of}
use Rattle.reading.proofs.Looped.{heft}
use Rattle.records.specs.Stretches.{Roomy}
use Rattle.records.proofs.Storing.{Storing}
use Rattle.records.proofs.walks.store.Given as goal

abbrev pub invariant-loop-decoded : goal.invariant-loop-decoded
invariant-loop-decoded l = Roomy l.room l.out × Storing (table_of l.table.words.now) (payload_of l.s) l.room l.initial.out l.walk l.out

abbrev pub decreases-loop-decoded : goal.decreases-loop-decoded
decreases-loop-decoded l = heft (table_of l.table.words.now) (payload_of l.s) l.room l.walk
