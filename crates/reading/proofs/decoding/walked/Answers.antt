-- Turn by turn, what is met and what is left are the walk.
use mathlib.Core.Path.{sym, ◌∙◌, subst}
use Rattle.tables.specs.Table.{table_of}
use Rattle.fields.specs.Payload.{payload_of}
use Rattle.reading.specs.declared.Walk.{Walk}
use Rattle.reading.proofs.Looped.{Going, going, goes-on, leaves, comes-to}
use Rattle.reading.proofs.decoding.walked.Goals as goal

pub loop-decoded-init : goal.loop-decoded-init
loop-decoded-init c =
    let t = table_of c.args.table.words.now in
    let p = payload_of c.args.s.now in
    subst (λ (w : Walk). Going t p c.args.room w) (sym c.start-walk.ensures) (going t p c.args.room)

pub loop-decoded-smaller : goal.loop-decoded-smaller
loop-decoded-smaller c = ((leaves _ _ _ c.args.table.accepted c.loop-decoded.invariant c.next_field-next.ensures).on (goes-on c.next_field-next.result c.came_to.ensures c.in_default.is)).less

pub loop-decoded-preserved : goal.loop-decoded-preserved
loop-decoded-preserved c = ((leaves _ _ _ c.args.table.accepted c.loop-decoded.invariant c.next_field-next.ensures).on (goes-on c.next_field-next.result c.came_to.ensures c.in_default.is)).still

pub returns-in-Some : goal.returns-in-Some
returns-in-Some c = sym (comes-to _ _ _ c.args.table.accepted c.loop-decoded.walk c.loop-decoded.invariant c.next_field-next.result (leaves _ _ _ c.args.table.accepted c.loop-decoded.invariant c.next_field-next.ensures) _ (sym c.came_to.ensures ∙ c.in-Some.is))
