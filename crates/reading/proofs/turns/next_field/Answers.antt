-- By what is to be done at the spot.
use mathlib.Core.Path.{sym, ◌∙◌}
use Rattle.tables.specs.Table.{table_of}
use Rattle.fields.specs.Payload.{payload_of}
use Rattle.reading.proofs.Turned.{look-shown}
use Rattle.reading.proofs.turns.next_field.Goals as goal

pub returns-in-End : goal.returns-in-End
returns-in-End c = look-shown (table_of c.args.words.now) (payload_of c.args.s.now) c.args.room c.args.walk _ (sym c.in-End.is ∙ c.look_at.ensures)

pub returns-in-Pass : goal.returns-in-Pass
returns-in-Pass c = c.next.ensures ∙ look-shown (table_of c.args.words.now) (payload_of c.args.s.now) c.args.room c.args.walk _ (sym c.in-Pass.is ∙ c.look_at.ensures)

pub returns-in-Enter : goal.returns-in-Enter
returns-in-Enter c = c.enter.ensures ∙ look-shown (table_of c.args.words.now) (payload_of c.args.s.now) c.args.room c.args.walk _ (sym c.in-Enter.is ∙ c.look_at.ensures)

pub returns-in-Meet : goal.returns-in-Meet
returns-in-Meet c = c.see.ensures ∙ look-shown (table_of c.args.words.now) (payload_of c.args.s.now) c.args.room c.args.walk _ (sym c.in-Meet.is ∙ c.look_at.ensures)
