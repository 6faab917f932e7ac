-- Turn by turn, the lines of the readings so far stand on the page.
use mathlib.Core.Path.{◌≡◌, refl, sym, ap, ◌∙◌, subst}
use Rattle.std.specs.Prelude.{Bool, not, Option, is_some, Result, Ok, Err}
use Rattle.tables.specs.Table.{table_of}
use Rattle.fields.specs.declared.DecodeRefusal.{DecodeRefusal}
use Rattle.fields.specs.Payload.{payload_of}
use Rattle.reading.specs.declared.Walk.{Walk}
use Rattle.reading.specs.declared.Answer.{Answer}
use Rattle.reading.specs.declared.Answer.TheVariants.{Met, Skipped, Moved, Ended}
use Rattle.reading.specs.declared.Decoded.{Decoded}
use Rattle.reading.specs.declared.Next.{Next}
use Rattle.reading.specs.declared.Progress.{Progress}
use Rattle.reading.specs.Steps.{goes_on_lem, came_by, came_to_lem}
use Rattle.reading.proofs.Looped.{leaves}
use Rattle.text.proofs.Putting.{same}
use Rattle.frame_lines.specs.Lines.{reading_line}
use Rattle.frame_lines.proofs.Walked.{Printed, begins, goes, turn_lines, ends}
use Rattle.frame_lines.proofs.decodes.put_walk.Goals as goal

-- whether the walk goes on, by the test of what a turn came to
on-by : (a : Result Answer DecodeRefusal) (s : Progress) → goes_on_lem a ≡ not (is_some (came_by a s))
on-by (Ok (Met r)) s = refl
on-by (Ok (Skipped v)) s = refl
on-by (Ok Moved) s = refl
on-by (Ok Ended) s = refl
on-by (Err f) s = refl

still-on : (n : Next) {m : Option Decoded} {b t : Bool} → m ≡ came_to_lem n → b ≡ is_some m → b ≡ t → goes_on_lem n.answer ≡ not t
still-on n e h k = on-by n.answer n.walk.progress ∙ ap not (sym (ap is_some e) ∙ sym h ∙ k)

pub loop-next-init : goal.loop-next-init
loop-next-init c =
    let t = table_of c.args.table.words.now in
    let p = payload_of c.args.payload.now in
    subst (λ (w : Walk). Printed reading_line t p c.args.room c.args.page.now c.args.page.now w) (sym c.start-walk.ensures) (begins reading_line t p c.args.room c.args.page.now)

pub loop-next-smaller : goal.loop-next-smaller
loop-next-smaller c = ((leaves _ _ _ c.args.table.accepted c.loop-next.invariant.going c.next_field-next.ensures).on (still-on c.next_field-next.result c.came_to.ensures c.is_some.ensures c.if-is_some.false)).less

pub loop-next-preserved : goal.loop-next-preserved
loop-next-preserved c =
    let on = still-on c.next_field-next.result c.came_to.ensures c.is_some.ensures c.if-is_some.false in
    goes reading_line _ _ _ c.loop-next.invariant (leaves _ _ _ c.args.table.accepted c.loop-next.invariant.going c.next_field-next.ensures) on (same (turn_lines c.next_field-next.result.answer _ on) c.put_turn.ensures)

pub returns-then-is_some : goal.returns-then-is_some
returns-then-is_some c =
    let last = still-on c.next_field-next.result c.came_to.ensures c.is_some.ensures c.if-is_some.true in
    ends _ _ _ c.loop-next.invariant (leaves _ _ _ c.args.table.accepted c.loop-next.invariant.going c.next_field-next.ensures) last c.put_turn.ensures
