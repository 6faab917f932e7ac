-- A run of fields in the set.
use mathlib.Core.Path.{sym, subst}
use mathlib.Core.List.{[]}
use native.Mathlib.Omega.{arith}
use Rattle.tables.specs.Table.{table_of}
use Rattle.fields.specs.Payload.{payload_of}
use Rattle.records.specs.declared.Stretch.{Stretch}
use Rattle.records.specs.Stretches.{LeadsIn}
use Rattle.records.proofs.Leading.{leads-within, leads-still}
use Rattle.records.proofs.walks.element.Goals as goal

pub overflow_sub-field : goal.overflow_sub-field
overflow_sub-field c = let h = (c.run-ran.ensures.all []).low in omega (arith, h)

pub returns-then-j-size : goal.returns-then-j-size
returns-then-j-size c =
    let t = table_of c.args.words.now in
    let p = payload_of c.args.s.now in
    subst (λ (r : Stretch). LeadsIn t p c.args.room c.args.k c.args.e c.args.j c.args.at c.args.made c.args.out.now r c.run-ran.new.out) (sym c.stretch.ensures)
    (leads-within t p c.args.room c.args.k c.args.e c.args.j c.args.at c.args.made c.args.out.now c.set_at-set.result c.run-ran.result c.run-ran.new.out c.set_at-set.ensures c.run-ran.ensures)

pub returns : goal.returns
returns c =
    let t = table_of c.args.words.now in
    let p = payload_of c.args.s.now in
    subst (λ (r : Stretch). LeadsIn t p c.args.room c.args.k c.args.e c.args.j c.args.at c.args.made c.args.out.now r c.args.out.now) (sym c.stretch-2.ensures)
    (leads-still t p c.args.room c.args.k c.args.e c.args.j c.args.at c.args.made c.args.out.now)
