-- No field but the last is a counter of the sets before k.
use Rattle.tables.specs.Table.{table_of}
use Rattle.records.proofs.Noting.{Quiets}
use Rattle.records.proofs.stretches.quiet_until.Given as goal

abbrev pub invariant-loop-k : goal.invariant-loop-k
invariant-loop-k l = Quiets (table_of l.words) l.i l.end l.k l.to
