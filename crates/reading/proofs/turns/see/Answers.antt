-- By what was read.
use mathlib.Core.Path.{◌≡◌, sym, ap, ap₂, ◌∙◌}
use mathlib.Core.Bool.{Bool}
use mathlib.Core.List.{List}
use Prim.Native.Nat.{ℕ, ◌+◌}
use Rattle.std.specs.Prelude.{Ok, Result}
use native.Mathlib.Omega.{arith}
use Rattle.tables.specs.Table.{table_of}
use Rattle.fields.specs.declared.DecodeRefusal.{DecodeRefusal}
use Rattle.fields.specs.declared.FieldRead.{FieldRead}
use Rattle.fields.specs.Payload.{Payload, payload_of}
use Rattle.descriptor.specs.declared.FieldDescriptor.{FieldDescriptor}
use Rattle.reading.specs.declared.Reading.{Reading}
use Rattle.reading.specs.declared.Answer.TheVariants.{Met}
use Rattle.fields.specs.Content.{field_read_of}
use Rattle.reading.specs.Decode.{progress_at}
use Rattle.reading.specs.Steps.{next_to}
use Rattle.reading.proofs.Told.{told, lies_in}
use Rattle.reading.proofs.Turned.{see-met, see-full, see-gone, see-refused}
use Rattle.reading.proofs.turns.see.Goals as goal

-- a field's answer, once code has it by the field's descriptor
was : (p : Payload) (i : ℕ) (last : Bool) (at : ℕ) {f g : FieldDescriptor} {r v : Result FieldRead DecodeRefusal} → g ≡ f → r ≡ field_read_of p g i last at → r ≡ v → field_read_of p f i last at ≡ v
was p i last at e h k = sym (ap (λ (x : FieldDescriptor). field_read_of p x i last at) e) ∙ sym h ∙ k

pub reading_of-reading-requires : goal.reading_of-reading-requires
reading_of-reading-requires c =
    let p = payload_of c.args.s.now in
    let f = (table_of c.args.words.now).field c.args.i in
    let h = told f p c.args.walk.progress.at.0 c.in-Ok-Got.bits c.args.i c.args.last c.in-Ok-Got.raw c.in-Ok-Got.value (was _ _ _ _ c.field_at-f.ensures c.read_field_raw_and_value.ensures (c.in-Ok-Got.is ∙ ap Ok c.in-Ok-Got.field-0-is)) in
    (h.raw, h.value)

pub overflow_add-to_at : goal.overflow_add-to_at
overflow_add-to_at c =
    let p = payload_of c.args.s.now in
    let f = (table_of c.args.words.now).field c.args.i in
    let h = told f p c.args.walk.progress.at.0 c.in-Ok-Got.bits c.args.i c.args.last c.in-Ok-Got.raw c.in-Ok-Got.value (was _ _ _ _ c.field_at-f.ensures c.read_field_raw_and_value.ensures (c.in-Ok-Got.is ∙ ap Ok c.in-Ok-Got.field-0-is)) in
    let l = lies_in f p c.args.walk.progress.at.0 c.in-Ok-Got.bits c.args.i c.args.last h.took in
    record { fits = omega (arith, l.0, l.1) }

pub returns-then-made-room : goal.returns-then-made-room
returns-then-made-room c =
    let t = table_of c.args.words.now in
    let p = payload_of c.args.s.now in
    c.next.ensures
    ∙ ap₂ (λ (r : Reading) (cs : List ℕ). next_to (Ok (Met r)) c.args.to (progress_at (c.args.walk.progress.at.0 + c.in-Ok-Got.bits.0) (c.args.walk.progress.made + 1) cs)) c.reading_of-reading.ensures c.noted_by-counters.ensures
    ∙ see-met t p c.args.room c.args.walk.spot c.args.to c.args.i c.args.e c.args.last c.args.walk.progress c.in-Ok-Got.bits c.in-Ok-Got.raw c.in-Ok-Got.value (was _ _ _ _ c.field_at-f.ensures c.read_field_raw_and_value.ensures (c.in-Ok-Got.is ∙ ap Ok c.in-Ok-Got.field-0-is)) c.if-made-room.true

pub returns-else-made-room : goal.returns-else-made-room
returns-else-made-room c =
    let t = table_of c.args.words.now in
    let p = payload_of c.args.s.now in
    see-full t p c.args.room c.args.walk.spot c.args.to c.args.i c.args.e c.args.last c.args.walk.progress c.in-Ok-Got.bits c.in-Ok-Got.raw c.in-Ok-Got.value (was _ _ _ _ c.field_at-f.ensures c.read_field_raw_and_value.ensures (c.in-Ok-Got.is ∙ ap Ok c.in-Ok-Got.field-0-is)) c.if-made-room.false

pub returns-in-Ok-Skipped : goal.returns-in-Ok-Skipped
returns-in-Ok-Skipped c =
    let t = table_of c.args.words.now in
    let p = payload_of c.args.s.now in
    c.next-in-Ok-Skipped.ensures
    ∙ see-gone t p c.args.room c.args.walk.spot c.args.to c.args.i c.args.e c.args.last c.args.walk.progress c.in-Ok-Skipped.bits (was _ _ _ _ c.field_at-f.ensures c.read_field_raw_and_value.ensures (c.in-Ok-Skipped.is ∙ ap Ok c.in-Ok-Skipped.field-0-is))

pub returns-in-Err : goal.returns-in-Err
returns-in-Err c =
    let t = table_of c.args.words.now in
    let p = payload_of c.args.s.now in
    see-refused t p c.args.room c.args.walk.spot c.args.to c.args.i c.args.e c.args.last c.args.walk.progress _ (was _ _ _ _ c.field_at-f.ensures c.read_field_raw_and_value.ensures c.in-Err.is)
