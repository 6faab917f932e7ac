-- The reading that was handed out is stored.
use mathlib.Core.Path.{◌≡◌, sym, ap, ◌∙◌}
use mathlib.Core.List.{List}
use Prim.Native.Nat.{ℕ, ◌+◌, ◌≤◌}
use native.Mathlib.Omega.{arith}
use lib.ListN.{length}
use Rattle.std.specs.Prelude.{Result, Ok}
use Rattle.tables.specs.Table.{Table, table_of}
use Rattle.fields.specs.Payload.{Payload, payload_of}
use Rattle.fields.specs.declared.DecodeRefusal.{DecodeRefusal}
use Rattle.reading.specs.declared.Answer.{Answer}
use Rattle.reading.specs.declared.Answer.TheVariants.{Met}
use Rattle.reading.specs.declared.Next.{Next}
use Rattle.reading.specs.declared.Reading.{Reading}
use Rattle.reading.specs.declared.Walk.{Walk}
use Rattle.reading.specs.Steps.{handed, next_of}
use Rattle.records.specs.Layout.{record_bytes}
use Rattle.records.specs.Stretches.{Roomy, place_at_lem, stored}
use Rattle.records.proofs.Quickly.{stored_one}
use Rattle.reading.proofs.Seated.{met-room}
use Rattle.records.proofs.walks.turn.Goals as goal

-- a reading that was met has its place
seat : (t : Table) (p : Payload) (room : ℕ) (walk : Walk) (out : List ℕ) (n : Next) (r : Reading) → Roomy room out → n ≡ next_of t p room walk → n.answer ≡ Ok (Met r)
    → place_at_lem walk.progress.made + record_bytes ≤ length out
seat t p room walk out n r roomy e m = roomy.fits walk.progress.made (met-room t p room walk r (sym (ap (λ (x : Next). x.answer) e) ∙ m))

-- the reading that was met
was : {a : Result Answer DecodeRefusal} {x y : Answer} → a ≡ Ok x → x ≡ y → a ≡ Ok y
was e h = e ∙ ap Ok h

pub overflow_mul-made : goal.overflow_mul-made
overflow_mul-made c =
    let met = was c.in-Ok-Met.is (rw c.in-Ok-Met.is at c.in-Ok-Met.field-0-is) in
    record { fits = omega (arith, seat (table_of c.args.words.now) (payload_of c.args.s.now) c.args.room c.args.walk c.args.out.now _ _ c.requires c.next_field-next.ensures met) }

pub overflow_add-made : goal.overflow_add-made
overflow_add-made c =
    let met = was c.in-Ok-Met.is (rw c.in-Ok-Met.is at c.in-Ok-Met.field-0-is) in
    record { fits = omega (arith, seat (table_of c.args.words.now) (payload_of c.args.s.now) c.args.room c.args.walk c.args.out.now _ _ c.requires c.next_field-next.ensures met) }

pub put_reading-requires : goal.put_reading-requires
put_reading-requires c =
    let met = was c.in-Ok-Met.is (rw c.in-Ok-Met.is at c.in-Ok-Met.field-0-is) in
    seat (table_of c.args.words.now) (payload_of c.args.s.now) c.args.room c.args.walk c.args.out.now _ _ c.requires c.next_field-next.ensures met

pub returns-in-Ok-Met : goal.returns-in-Ok-Met
returns-in-Ok-Met c =
    let met = was c.in-Ok-Met.is (rw c.in-Ok-Met.is at c.in-Ok-Met.field-0-is) in (
      c.next_field-next.ensures,
      c.put_reading.ensures ∙ sym (ap (λ (x : Result Answer DecodeRefusal). stored c.args.out.now c.args.walk.progress.made (handed x)) met ∙ stored_one c.args.out.now c.args.walk.progress.made _),
    )
