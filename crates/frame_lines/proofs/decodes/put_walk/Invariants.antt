-- Turn by turn, the lines of the readings so far stand on the page.
use Rattle.tables.specs.Table.{table_of}
use Rattle.fields.specs.Payload.{payload_of}
use Rattle.reading.proofs.Looped.{heft}
use Rattle.frame_lines.specs.Lines.{reading_line}
use Rattle.frame_lines.proofs.Walked.{Printed}
use Rattle.frame_lines.proofs.decodes.put_walk.Given as goal

abbrev pub invariant-loop-next : goal.invariant-loop-next
invariant-loop-next l = Printed reading_line (table_of l.table.words.now) (payload_of l.payload) l.room l.initial.page l.page l.walk

abbrev pub decreases-loop-next : goal.decreases-loop-next
decreases-loop-next l = heft (table_of l.table.words.now) (payload_of l.payload) l.room l.walk
