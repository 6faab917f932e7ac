-- Turn by turn, the lines of the readings so far stand on the page. The measure is the weight of the walk.
use mathlib.Core.Path.{sym, ◌∙◌, subst}
use Rattle.tables.specs.Table.{table_of}
use Rattle.fields.specs.Payload.{payload_of}
use Rattle.reading.specs.declared.Walk.{Walk}
use Rattle.reading.proofs.Looped.{goes-on, came-last, leaves, comes-to}
use Rattle.frame_lines.proofs.Walked.{Printed, begins, goes, ended}
use Rattle.readcalls.specs.Lines.{reading_line}
use Rattle.readcalls.proofs.turning.put_walk.Goals as goal

pub loop-decoded-init : goal.loop-decoded-init
loop-decoded-init c =
    let t = table_of c.args.table.words.now in
    let p = payload_of c.args.s.now in
    subst (λ (w : Walk). Printed reading_line t p c.args.room c.args.page.now c.args.page.now w) (sym c.start-walk.ensures) (begins reading_line t p c.args.room c.args.page.now)

pub loop-decoded-smaller : goal.loop-decoded-smaller
loop-decoded-smaller c = ((leaves _ _ _ c.args.table.accepted c.loop-decoded.invariant.going c.next_field-next.ensures).on (goes-on c.next_field-next.result c.came_to.ensures c.in_default.is)).less

pub loop-decoded-preserved : goal.loop-decoded-preserved
loop-decoded-preserved c = goes reading_line _ _ _ c.loop-decoded.invariant (leaves _ _ _ c.args.table.accepted c.loop-decoded.invariant.going c.next_field-next.ensures) (goes-on c.next_field-next.result c.came_to.ensures c.in_default.is) c.put_turn.ensures

pub returns-in-Some : goal.returns-in-Some
returns-in-Some c =
    let left = leaves _ _ _ c.args.table.accepted c.loop-decoded.invariant.going c.next_field-next.ensures in
    let came = sym c.came_to.ensures ∙ c.in-Some.is in
    let last = came-last c.next_field-next.result.answer c.next_field-next.result.walk.progress _ came in
    (ended reading_line _ _ _ c.loop-decoded.invariant left last c.put_turn.ensures, sym (comes-to _ _ _ c.args.table.accepted c.loop-decoded.walk c.loop-decoded.invariant.going c.next_field-next.result left _ came))
