-- Past later fields of sets, then along those in none.
use Rattle.tables.specs.Table.{table_of}
use Rattle.walking.specs.declared.Spot.TheVariants as spot
use Rattle.fields.specs.Payload.{payload_of}
use Rattle.reading.specs.Steps.{walk_at_lem}
use Rattle.records.proofs.Leading.{leads-then, leads-inside}
use Rattle.records.proofs.walks.along.Goals as goal

pub returns-then-from-end : goal.returns-then-from-end
returns-then-from-end c =
    let t = table_of c.args.words.now in
    let p = payload_of c.args.s.now in
    leads-then t p c.args.room (walk_at_lem (spot.Field c.args.i) c.args.p) c.args.out.now (walk_at_lem (spot.Field c.past_inside-from.result) c.args.p) c.args.out.now c.plain.result _
    (leads-inside t p c.args.room c.args.i c.past_inside-from.result c.args.p c.args.out.now c.past_inside-from.ensures)
    c.plain.ensures

pub returns : goal.returns
returns c = leads-inside (table_of c.args.words.now) (payload_of c.args.s.now) c.args.room c.args.i _ c.args.p c.args.out.now c.past_inside-from.ensures
