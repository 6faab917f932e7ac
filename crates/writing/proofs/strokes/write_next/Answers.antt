-- What was weighed is put.
use Rattle.std.specs.Prelude.{Result}
use mathlib.Core.Path.{◌≡◌, sym, ap, ◌∙◌, subst}
use mathlib.Core.Bool.{true}
use lib.ListN.{length}
use Rattle.tables.specs.Table.{table_of}
use Rattle.walking.specs.Looks.{look_of}
use Rattle.weighing.specs.declared.EncodeRefusal.{EncodeRefusal}
use Rattle.weighing.specs.declared.Weighed.{Weighed}
use Rattle.writing.specs.declared.Weighing.{Weighing}
use Rattle.writing.specs.Ink.{inked, Puttable}
use Rattle.writing.specs.Ones.{inks}
use Rattle.writing.proofs.Contents.{put-room}
use Rattle.writing.proofs.Turning.{left-inked}
use Rattle.writing.proofs.strokes.write_next.Goals as goal
use Rattle.writing.proofs.strokes.write_next.Goals.{in-Ok, in_default}

pub put_weighed-requires : goal.put_weighed-requires
put_weighed-requires c =
    let t = table_of c.args.words.now in
    let size = length c.args.buffer.now in
    let lent = length c.args.lent.now in
    let e = sym c.in-Ok.is ∙ ap (λ (x : Weighing). x.content) c.weigh_next-next.ensures in
    subst (λ (x : Result Weighed EncodeRefusal). inks x ≡ true → Puttable size c.args.draft.pen.at.0 x lent) (sym e) (put-room t c.args.offer lent size c.args.draft.pen (look_of t c.args.draft.spot))

pub returns : goal.returns
returns c =
    let a = c.args in
    let e = ap (λ (x : Weighing). x.content) c.weigh_next-next.ensures in
    let left = ap (λ (x : Result Weighed EncodeRefusal). inked a.buffer.now a.draft.pen.at.0 x a.lent.now) e ∙ left-inked (table_of a.words.now) a.offer a.draft a.lent.now a.buffer.now in (
      ap (λ (x : Weighing). x.stroked) c.weigh_next-next.ensures,
      elim c.match-next.branch [
        | in-Ok w ↦ w.buffer-is ∙ w.put_weighed.ensures ∙ ap (λ (x : Result Weighed EncodeRefusal). inked a.buffer.now a.draft.pen.at.0 x a.lent.now) (sym w.in-Ok.is) ∙ left
        | in_default w ↦ w.buffer-is ∙ ap (λ (x : Result Weighed EncodeRefusal). inked a.buffer.now a.draft.pen.at.0 x a.lent.now) (sym w.in_default.is) ∙ left
      ],
    )
