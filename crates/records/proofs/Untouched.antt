-- "Refusals 7 and 8 touch no buffer": a decode that is refused with a number that touches nothing leaves the padding run and the buffer of readings as they were. Assumes
-- nothing.
use mathlib.Core.Path.{◌≡◌, ap}
use mathlib.Core.Bool.{true}
use mathlib.Core.List.{List}
use Prim.Native.Nat.{ℕ}
use lib.ListN.{length}
use Rattle.std.specs.Prelude.{Result}
use Rattle.tables.specs.Table.{Table}
use Rattle.fields.specs.declared.DecodeRefusal.{DecodeRefusal}
use Rattle.fields.specs.Refusals.{number_of, touches_nothing_lem}
use Rattle.reading.specs.Filling.{kept_unless, run_after}
use Rattle.reading.specs.Decode.{refused_with, readings_of}
use Rattle.reading.proofs.Working.{run-refused}
use Rattle.reading.proofs.Given.{before-walk}
use Rattle.records.specs.Layout.{room_in_lem, stored_in}
use Rattle.records.specs.Into.{decoded_into, out_after}

pub untouched : (t : Table) (received padded out : List ℕ) (f : DecodeRefusal) (n : ℕ)
    → decoded_into t received (length padded) (length out) ≡ refused_with f n → touches_nothing_lem (number_of f) ≡ true
    → (run_after t received padded ≡ padded) × (out_after t received (length padded) out ≡ out)
untouched t received padded out f n h z =
    let room = room_in_lem (length out) in
    let q = before-walk t received padded room f n h z in
    (run-refused t received padded q, ap (λ (p : Result (Unit {0}) DecodeRefusal). kept_unless p (stored_in (readings_of t received (length padded) room) out) out) q)
