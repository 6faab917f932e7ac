-- Element by element.
use mathlib.Core.Path.{◌≡◌}
use Prim.Native.Nat.{◌-◌}
use Rattle.tables.specs.Table.{table_of}
use Rattle.walking.specs.declared.Spot.TheVariants as spot
use Rattle.fields.specs.Payload.{payload_of}
use Rattle.reading.specs.Decode.{progress_at}
use Rattle.reading.specs.Steps.{walk_at_lem}
use Rattle.records.specs.Stretches.{Roomy, Leads}
use Rattle.records.proofs.walks.elements.Given as goal

abbrev pub invariant-loop-e : goal.invariant-loop-e
invariant-loop-e l = Roomy l.room l.out × (((l.start ≡ ((table_of l.words).set l.k).start) × (l.size ≡ ((table_of l.words).set l.k).size)) × Leads (table_of l.words) (payload_of l.s) l.room (walk_at_lem (spot.Within l.k l.n l.first l.offset) (progress_at l.initial.at l.initial.made l.counters)) l.initial.out (walk_at_lem (spot.Within l.k l.n l.e l.j) (progress_at l.at l.made l.counters)) l.out)

abbrev pub decreases-loop-e : goal.decreases-loop-e
decreases-loop-e l = l.n - l.e
