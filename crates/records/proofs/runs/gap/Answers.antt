-- By what the call says.
use mathlib.Core.Path.{sym, ◌∙◌}
use Rattle.tables.specs.Table.{table_of}
use Rattle.records.proofs.Quickly.{gap_of}
use Rattle.records.proofs.runs.gap.Goals as goal

pub returns-in-Ok : goal.returns-in-Ok
returns-in-Ok c = gap_of (table_of c.args.words.now) c.args.s.now c.args.room c.args.i c.args.e c.args.at c.args.made c.args.out.now c.args.f c.requires.0 _ c.requires.1 (sym c.advance.ensures ∙ c.in-Ok.is)
