-- Element by element.
use mathlib.Core.Path.{sym, ap, subst}
use mathlib.Core.List.{List}
use Prim.Native.Nat.{ℕ, ◌+◌, ◌≤◌, ◌<◌}
use Rattle.tables.specs.Table.{Table, table_of}
use Rattle.tables.specs.declared.RepeatingFieldSet.{RepeatingFieldSet}
use Rattle.walking.specs.declared.Spot.TheVariants as spot
use Rattle.fields.specs.Payload.{Payload, payload_of}
use Rattle.reading.specs.declared.Walk.{Walk}
use Rattle.reading.specs.Decode.{progress_at}
use Rattle.reading.specs.Steps.{walk_at_lem}
use Rattle.records.specs.declared.Stretch.{Stretch}
use Rattle.records.specs.Stretches.{Leads, LeadsIn}
use Rattle.records.proofs.Quickly.{roomy-on}
use Rattle.records.proofs.Leading.{leads-then, leads-here, leads-next, leads-out}
use Rattle.records.proofs.walks.elements.Goals as goal

-- one element more, or a part of it
element-on : {t : Table} {p : Payload} {room k e j at made : ℕ} {w : Walk} {out mid new : List ℕ} {r : Stretch} (n : ℕ) (cs : List ℕ)
    → Leads t p room w out (walk_at_lem (spot.Within k n e j) (progress_at at made cs)) mid → LeadsIn t p room k e j at made mid r new → e < n
    → Leads t p room w out (walk_at_lem (spot.Within k n e r.field) (progress_at r.at r.made cs)) new
element-on n cs h g l = leads-then _ _ _ _ _ _ _ _ _ h (g.all n cs l)

pub loop-e-init : goal.loop-e-init
loop-e-init c = (
  c.requires,
  (
    (ap (λ (g : RepeatingFieldSet). g.start) c.set_at-set.ensures, ap (λ (g : RepeatingFieldSet). g.size) c.set_at-set.ensures),
    leads-here (table_of c.args.words.now) (payload_of c.args.s.now) c.args.room (walk_at_lem (spot.Within c.args.k c.args.n c.args.first c.args.offset) c.args.p) c.args.out.now,
  ),
)

pub returns-then-field-size : goal.returns-then-field-size
returns-then-field-size c = rw c.within_at.ensures (element-on _ _ c.loop-e.invariant.1.1 c.element-ran.ensures c.loop-e-test.true)

pub loop-e-preserved : goal.loop-e-preserved
loop-e-preserved c =
    let r = element-on _ _ c.loop-e.invariant.1.1 c.element-ran.ensures c.loop-e-test.true in
    let m : ((table_of c.args.words.now).set c.args.k).size ≤ c.element-ran.result.field = subst (λ (n : ℕ). n ≤ c.element-ran.result.field) c.loop-e.invariant.1.0.1 c.if-field-size.false in (
      roomy-on c.args.room c.args.out.now _ _ c.element-ran.new.out c.requires r.puts,
      (c.loop-e.invariant.1.0, leads-then _ _ _ _ _ _ _ _ _ r (leads-next _ _ _ c.args.k c.args.n c.loop-e.e _ _ _ c.loop-e-test.true m)),
    )

pub returns : goal.returns
returns c =
    let t = table_of c.args.words.now in
    let p = payload_of c.args.s.now in
    let w = walk_at_lem (spot.Within c.args.k c.args.n c.args.first c.args.offset) c.args.p in
    let y = progress_at c.loop-e.at c.loop-e.made c.args.p.counters in
    subst (λ (x : Walk). Leads t p c.args.room w c.args.out.now x c.loop-e.out) (sym c.walk_at.ensures)
    (subst (λ (n : ℕ). Leads t p c.args.room w c.args.out.now (walk_at_lem (spot.Field (n + 1)) y) c.loop-e.out) (sym c.loop-e.invariant.1.0.0)
    (leads-then t p c.args.room w c.args.out.now (walk_at_lem (spot.Within c.args.k c.args.n c.loop-e.e c.loop-e.j) y) c.loop-e.out
    (walk_at_lem (spot.Field ((t.set c.args.k).start + 1)) y) c.loop-e.out c.loop-e.invariant.1.1
    (leads-out t p c.args.room c.args.k c.args.n c.loop-e.e c.loop-e.j y c.loop-e.out c.loop-e-test.false)))
