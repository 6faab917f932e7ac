-- By what is to be done at the spot.
use Rattle.std.specs.Prelude.{Result}
use mathlib.Core.Path.{sym, ap, ◌∙◌}
use Rattle.weighing.specs.declared.EncodeRefusal.{EncodeRefusal}
use Rattle.tables.specs.Table.{table_of}
use Rattle.writing.specs.declared.Stroke.{Stroke}
use Rattle.writing.specs.declared.Stroked.{Stroked}
use Rattle.writing.specs.Strokes.{stroked_to, nothing, weighing_to}
use Rattle.writing.proofs.Turning.{look-weighed}
use Rattle.writing.proofs.strokes.weigh_next.Goals as goal

pub returns-in-End : goal.returns-in-End
returns-in-End c =
    c.unmet.ensures
    ∙ ap (λ (x : Stroked). weighing_to x nothing) (c.stroked.ensures ∙ ap (λ (k : Result Stroke EncodeRefusal). stroked_to k c.args.draft.spot c.args.draft.pen) c.end_of.ensures)
    ∙ look-weighed (table_of c.args.words.now) c.args.offer c.args.draft _ (sym c.in-End.is ∙ c.look_at.ensures) c.args.lent c.args.size

pub returns-in-Pass : goal.returns-in-Pass
returns-in-Pass c =
    c.unmet-in-Pass.ensures ∙ ap (λ (x : Stroked). weighing_to x nothing) c.stroked-in-Pass.ensures
    ∙ look-weighed (table_of c.args.words.now) c.args.offer c.args.draft _ (sym c.in-Pass.is ∙ c.look_at.ensures) c.args.lent c.args.size

pub returns-in-Enter : goal.returns-in-Enter
returns-in-Enter c =
    c.unmet-in-Enter.ensures ∙ ap (λ (x : Stroked). weighing_to x nothing) c.enter.ensures
    ∙ look-weighed (table_of c.args.words.now) c.args.offer c.args.draft _ (sym c.in-Enter.is ∙ c.look_at.ensures) c.args.lent c.args.size

pub returns-in-Meet : goal.returns-in-Meet
returns-in-Meet c = c.meet.ensures ∙ look-weighed (table_of c.args.words.now) c.args.offer c.args.draft _ (sym c.in-Meet.is ∙ c.look_at.ensures) c.args.lent c.args.size
