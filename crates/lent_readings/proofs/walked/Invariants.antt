-- What is stored is made of the readings so far.
use Rattle.tables.specs.Table.{table_of}
use Rattle.fields.specs.Payload.{payload_of}
use Rattle.reading.proofs.Looped.{heft}
use Rattle.lent_readings.proofs.Turns.{Storing}
use Rattle.lent_readings.proofs.walked.Given as goal

abbrev pub invariant-loop-decoded : goal.invariant-loop-decoded
invariant-loop-decoded g l = Storing g.E.Entry.one (table_of l.table.words.now) (payload_of l.s) l.room l.initial.out l.walk l.out

abbrev pub decreases-loop-decoded : goal.decreases-loop-decoded
decreases-loop-decoded g l = heft (table_of l.table.words.now) (payload_of l.s) l.room l.walk
