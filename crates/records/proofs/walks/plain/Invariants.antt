-- Stretch by stretch, with the last field of each noted.
use Prim.Native.Nat.{◌-◌}
use Rattle.std.specs.Prelude.{None}
use Rattle.tables.specs.Table.{table_of}
use Rattle.fields.specs.Payload.{payload_of}
use Rattle.reading.specs.Decode.{progress_at}
use Rattle.records.specs.Stretches.{Roomy, Ran}
use Rattle.records.proofs.walks.plain.Given as goal

abbrev pub invariant-loop-i : goal.invariant-loop-i
invariant-loop-i l = Roomy l.room l.out × Ran (table_of l.words) (payload_of l.s) l.room None l.from l.end (progress_at l.initial.at l.initial.made l.initial.counters) l.initial.out l.i (progress_at l.at l.made l.counters) l.out

abbrev pub decreases-loop-i : goal.decreases-loop-i
decreases-loop-i l = l.end - l.i
