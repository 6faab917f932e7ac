-- By what the read says.
use mathlib.Core.Path.{sym, ◌∙◌}
use Rattle.tables.specs.Table.{table_of}
use Rattle.records.proofs.Quickly.{number_of}
use Rattle.records.proofs.runs.number.Goals as goal

pub returns-in-Ok : goal.returns-in-Ok
returns-in-Ok c = (
  number_of (table_of c.args.words.now) c.args.s.now c.args.room c.args.i c.args.e c.args.at c.args.made c.args.out.now c.args.f c.requires.0 _ c.requires.1.0
      (sym c.read_u64.ensures ∙ c.in-Ok.is) _ c.if-made-room.true c.put_number.ensures,
  c.if-made-room.true,
)
