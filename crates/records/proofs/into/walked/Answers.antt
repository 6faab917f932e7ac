-- The records, then their count.
use mathlib.Core.Path.{◌≡◌, ap, ap₂, ◌∙◌}
use Prim.Native.Nat.{ℕ}
use lib.ListN.{length}
use Rattle.tables.specs.Table.{table_of}
use Rattle.fields.specs.Payload.{payload_of}
use Rattle.reading.specs.declared.Decoded.{Decoded}
use Rattle.reading.specs.Decode.{walk_of, readings, spans_of, end_of}
use Rattle.records.specs.Layout.{room_in_lem}
use Rattle.records.specs.Stretches.{stored, counted}
use Rattle.reading.proofs.Seated.{few}
use Rattle.records.proofs.Counting.{count-end, stored-in}
use Rattle.records.proofs.into.walked.Goals as goal

pub returns : goal.returns
returns c =
    let t = table_of c.args.table.words.now in
    let p = payload_of c.args.s.now in
    let room = room_in_lem (length c.args.out.now) in
    let ended : c.store-decoded.result ≡ end_of t p (walk_of t p room) = c.store-decoded.ensures.0 ∙ ap (λ (k : ℕ). end_of t p (walk_of t p k)) c.room_in-room.ensures in
    let rs = readings t p (spans_of (walk_of t p room)) in (
      ended,
      c.put_count.ensures
          ∙ ap₂ counted (c.store-decoded.ensures.1 ∙ ap (λ (k : ℕ). stored c.args.out.now 0 (readings t p (spans_of (walk_of t p k)))) c.room_in-room.ensures)
          (ap (λ (d : Decoded). d.count) ended ∙ count-end t p (walk_of t p room))
          ∙ stored-in rs c.args.out.now (few t p room),
    )
