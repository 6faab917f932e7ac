-- The counters of the first k sets are noted.
use mathlib.Core.Path.{◌≡◌}
use Rattle.tables.specs.Table.{table_of}
use Rattle.reading.specs.Groups.{noted_to}
use Rattle.reading.proofs.groups.noted.Given as goal

abbrev pub invariant-loop-k : goal.invariant-loop-k
invariant-loop-k l = l.counters ≡ noted_to (table_of l.words) l.i l.r l.initial.counters l.k
