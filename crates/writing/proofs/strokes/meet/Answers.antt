-- The walk stands after what was weighed.
use Rattle.std.specs.Prelude.{Result, Ok, Err}
use mathlib.Core.Path.{◌≡◌, sym, ap, ap₂, ◌∙◌, subst}
use Prim.Native.Nat.{ℕ}
use Rattle.weighing.specs.declared.EncodeRefusal.{EncodeRefusal}
use Rattle.bits.specs.declared.BitPos.{BitPos}
use Rattle.descriptor.specs.declared.FieldDescriptor.{FieldDescriptor}
use Rattle.tables.specs.Table.{table_of}
use Rattle.offers.specs.declared.Offer.{Offer}
use Rattle.weighing.specs.declared.Weighed.{Weighed}
use Rattle.writing.specs.Encode.{content_of_lem, settled}
use Rattle.walking.specs.Turns.{seen}
use Rattle.writing.specs.declared.Pen.{Pen}
use Rattle.writing.specs.declared.Stroke.{Stroke}
use Rattle.writing.specs.declared.Stroked.{Stroked}
use Rattle.writing.specs.Strokes.{Reaches, stroked_to, stroke_by, shown, weighing_to}
use Rattle.writing.proofs.Contents.{content-in}
use Rattle.writing.proofs.Turning.{settled-shown}
use Rattle.writing.proofs.strokes.meet.Goals as goal

-- what was weighed, once the field is known to be the table's
weighed : (o : Offer) {f g : FieldDescriptor} (i lent size at : ℕ) {v : Result Weighed EncodeRefusal}
    → v ≡ content_of_lem o f i lent size at → f ≡ g → v ≡ content_of_lem o g i lent size at
weighed o i lent size at e h = e ∙ ap (λ (d : FieldDescriptor). content_of_lem o d i lent size at) h

pub pen_after-after-requires : goal.pen_after-after-requires
pen_after-after-requires c =
    let a = c.args in
    let was = weighed a.offer a.i a.lent a.size a.draft.pen.at.0 (sym c.in-Ok.is ∙ c.content_of.ensures) c.field_at-f.ensures in
    subst (λ (x : Result Weighed EncodeRefusal). Reaches a.draft.pen.at.0 x) (sym was) (content-in a.size a.draft.pen.at.0 a.lent a.offer ((table_of a.words.now).field a.i) a.i)

pub returns-in-Ok : goal.returns-in-Ok
returns-in-Ok c =
    let a = c.args in
    let t = table_of a.words.now in
    let content : Result Weighed EncodeRefusal = Ok c.in-Ok.weighed in
    let was = weighed a.offer a.i a.lent a.size a.draft.pen.at.0 (sym c.in-Ok.is ∙ c.content_of.ensures) c.field_at-f.ensures in
    let stroke = c.stroke_of-stroke.ensures ∙ ap (λ (b : BitPos). stroke_by content (record { field = a.i; element = a.e; start = a.draft.pen.at; bits = b })) c.size_of-bits.ensures in
    ap (λ (k : Stroked). weighing_to k content)
    (c.stroked.ensures ∙ ap₂ (λ (k : Result Stroke EncodeRefusal) (v : Pen). stroked_to k a.to v) stroke c.pen_after-after.ensures
    ∙ settled-shown t a.offer a.draft.spot a.i a.e a.draft.pen a.to content)
    ∙ ap (λ (v : Result Weighed EncodeRefusal). weighing_to (shown t a.offer a.draft.spot (seen a.to a.draft.pen (settled t a.i a.e a.draft.pen v))) v) was

pub returns-in-Err : goal.returns-in-Err
returns-in-Err c =
    let a = c.args in
    let t = table_of a.words.now in
    let content : Result Weighed EncodeRefusal = Err c.in-Err.refusal in
    let was = weighed a.offer a.i a.lent a.size a.draft.pen.at.0 (sym c.in-Err.is ∙ c.content_of.ensures) c.field_at-f.ensures in
    ap (λ (k : Stroked). weighing_to k content) (c.stroked-in-Err.ensures ∙ settled-shown t a.offer a.draft.spot a.i a.e a.draft.pen a.to content)
    ∙ ap (λ (v : Result Weighed EncodeRefusal). weighing_to (shown t a.offer a.draft.spot (seen a.to a.draft.pen (settled t a.i a.e a.draft.pen v))) v) was
