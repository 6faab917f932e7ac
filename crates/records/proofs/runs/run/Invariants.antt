-- What was hit so far, and one field more.
use Prim.Native.Nat.{◌-◌}
use Rattle.tables.specs.Table.{table_of}
use Rattle.fields.specs.Payload.{payload_of}
use Rattle.records.specs.Stretches.{Roomy}
use Rattle.records.proofs.Noting.{Passing}
use Rattle.records.proofs.runs.run.Given as goal

abbrev pub invariant-loop-i : goal.invariant-loop-i
invariant-loop-i l = Roomy l.room l.out × Passing (table_of l.words) (payload_of l.s) l.room l.e l.from l.end l.bit l.count l.initial.out l.i l.at l.made l.last l.out

abbrev pub decreases-loop-i : goal.decreases-loop-i
decreases-loop-i l = l.end - l.i
