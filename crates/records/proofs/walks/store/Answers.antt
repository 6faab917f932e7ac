-- What is stored are the readings made so far.
use mathlib.Core.Path.{◌≡◌, sym, ◌∙◌, subst}
use mathlib.Core.List.{List}
use Prim.Native.Nat.{ℕ}
use native.Mathlib.Omega.{arith}
use Rattle.std.specs.Prelude.{Ok, Option, Some, None}
use Rattle.tables.specs.Table.{Table, table_of}
use Rattle.tables.specs.Check.{check_of}
use Rattle.fields.specs.Payload.{Payload, payload_of}
use Rattle.reading.specs.declared.Walk.{Walk}
use Rattle.reading.specs.declared.Next.{Next}
use Rattle.reading.specs.declared.Decoded.{Decoded}
use Rattle.reading.specs.Steps.{next_of, came_to_lem, handed}
use Rattle.records.specs.Stretches.{Leads, stored}
use Rattle.records.proofs.Quickly.{roomy-on}
use Rattle.records.proofs.Storing.{Storing, storing-none, On, storing-on, Next-on, next-on, Next-last, next_last}
use Rattle.records.proofs.walks.store.Goals as goal

module _ {t : Table} {p : Payload} {room : ℕ} {out₀ : List ℕ} (ok : check_of t ≡ Ok tt) {w z : Walk} {out mid : List ℕ} (h : Storing t p room out₀ w out) (l : Leads t p room w out z mid) where
  -- after the quick way
  on : On t p room out₀ ok w z mid
  on = storing-on t p room out₀ ok w out z mid h l

  module _ {n : Next} {new : List ℕ} {a : Option Decoded} (e : n ≡ next_of t p room z) (s : new ≡ stored mid z.progress.made (handed n.answer)) (q : a ≡ came_to_lem n) where
    -- after a turn that goes on
    step : a ≡ None → Next-on t p room out₀ ok z n new
    step o = next-on t p room out₀ ok z mid on.storing n e new s (sym q ∙ o)

    -- after the last turn
    stop : {d : Decoded} → a ≡ Some d → Next-last t p room out₀ ok d new
    stop {d} o = next_last t p room out₀ ok z mid on.storing n e new s d (sym q ∙ o)

pub loop-decoded-init : goal.loop-decoded-init
loop-decoded-init c =
    let t = table_of c.args.table.words.now in
    let p = payload_of c.args.s.now in
    (c.requires, subst (λ (w : Walk). Storing t p c.args.room c.args.out.now w c.args.out.now) (sym c.start-walk.ensures) (storing-none t p c.args.room c.args.out.now))

pub loop-decoded-smaller : goal.loop-decoded-smaller
loop-decoded-smaller c =
    let d = (on c.args.table.accepted c.loop-decoded.invariant.1 c.quickly-walk.ensures).less in
    let e = (step c.args.table.accepted c.loop-decoded.invariant.1 c.quickly-walk.ensures c.turn-next.ensures.0 c.turn-next.ensures.1 c.came_to.ensures c.in_default.is).less in
    omega (arith, d, e)

pub loop-decoded-preserved : goal.loop-decoded-preserved
loop-decoded-preserved c =
    let roomy = roomy-on _ _ _ _ _ c.loop-decoded.invariant.0 c.quickly-walk.ensures.puts in (
      roomy-on _ _ _ _ _ roomy c.turn-next.ensures.1,
      (step c.args.table.accepted c.loop-decoded.invariant.1 c.quickly-walk.ensures c.turn-next.ensures.0 c.turn-next.ensures.1 c.came_to.ensures c.in_default.is).storing,
    )

pub returns-in-Some : goal.returns-in-Some
returns-in-Some c =
    let y = stop c.args.table.accepted c.loop-decoded.invariant.1 c.quickly-walk.ensures c.turn-next.ensures.0 c.turn-next.ensures.1 c.came_to.ensures c.in-Some.is in (sym y.ends, y.puts)
