-- Turn by turn, the lines of the readings so far stand on the page. The measure is the weight of the walk.
use Rattle.tables.specs.Table.{table_of}
use Rattle.fields.specs.Payload.{payload_of}
use Rattle.reading.proofs.Looped.{heft}
use Rattle.frame_lines.proofs.Walked.{Printed}
use Rattle.readcalls.specs.Lines.{reading_line}
use Rattle.readcalls.proofs.turning.put_walk.Given as goal

abbrev pub invariant-loop-decoded : goal.invariant-loop-decoded
invariant-loop-decoded l = Printed reading_line (table_of l.table.words.now) (payload_of l.s) l.room l.initial.page l.page l.walk

abbrev pub decreases-loop-decoded : goal.decreases-loop-decoded
decreases-loop-decoded l = heft (table_of l.table.words.now) (payload_of l.s) l.room l.walk
