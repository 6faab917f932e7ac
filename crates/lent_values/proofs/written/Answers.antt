-- Turn by turn, what is met and what is left are the walk, and the buffer is the image of what is met.
use Rattle.std.specs.Prelude.{Ok, Err}
use mathlib.Core.Path.{◌≡◌, refl, sym, ap, ◌∙◌, subst}
use mathlib.Core.Bool.{true}
use mathlib.Core.List.{List}
use Prim.Native.Nat.{ℕ, ◌<◌}
use borrow.Author.Rules.{rules}
use lib.ListN.{length}
use Rattle.tables.specs.Table.{table_of}
use Rattle.tables.specs.Check.{check_of}
use Rattle.descriptor.specs.declared.PgnValue.{PgnValue}
use Rattle.offers.specs.declared.Offer.{Offer}
use Rattle.lent_values.specs.Run.{values_of}
use Rattle.writing.specs.declared.Draft.{Draft}
use Rattle.writing.specs.declared.Stroke.{Stroke}
use Rattle.writing.specs.declared.Stroke.TheVariants.{Wrote, Skipped, Moved, Ended}
use Rattle.writing.specs.declared.Stroked.{Stroked}
use Rattle.writing.specs.Strokes.{start_of, stroked_of, left_of}
use Rattle.writing.proofs.Loops.{Going, heft, going, goes_on_lem, Turned, turned}
use Rattle.lent_values.proofs.Turns.{listed}
use Rattle.lent_values.proofs.written.Goals as goal

-- what a turn of the loop leaves: of the offer, the answer and the buffer that its calls are known to give
left : (words : List ℕ) (values : List PgnValue) {lent : List ℕ} {n : ℕ} {d : Draft} {b : List ℕ} {o : Offer} {x : Stroked} {after : List ℕ}
    → check_of (table_of words) ≡ Ok tt → Going (table_of words) (values_of values) lent n d b
    → o ≡ (values_of values).offered d.pen.used
    → x ≡ stroked_of (table_of words) o (length lent) (length b) d
    → after ≡ left_of (table_of words) o lent b d
    → Turned (table_of words) (values_of values) lent n d x after
left words values {lent} {n} {d} {b} {o} {x} {after} accepted g eo ex ea =
    let t = table_of words in
    let vs = values_of values in
    let e = ex ∙ ap (λ (y : Offer). stroked_of t y (length lent) (length b) d) eo in
    let f = ea ∙ ap (λ (y : Offer). left_of t y lent b d) eo in
    subst (λ (y : Stroked). Turned t vs lent n d y after) (sym e)
    (subst (λ (y : List ℕ). Turned t vs lent n d (stroked_of t (vs.offered d.pen.used) (length lent) (length b) d) y) (sym f)
    (turned t vs lent n accepted (listed values) d b g))

pub loop-init : goal.loop-init
loop-init c =
    let t = table_of c.args.table.words.now in
    let vs = values_of c.args.values.now in
    let n = length c.args.buffer.now in
    subst (λ (d : Draft). Going t vs c.args.lent.now n d c.args.buffer.now) (sym c.start-draft.ensures) (subst (λ (b : List ℕ). Going t vs c.args.lent.now n start_of b) (sym c.requires) (going t vs c.args.lent.now n))

-- the walk has not ended
goes : (k : Stroke) → (k ≡ Ended → ⊥) → goes_on_lem (Ok k) ≡ true
goes (Wrote v) h = refl
goes (Skipped v) h = refl
goes Moved h = refl
goes Ended h = absurd (h refl)

abbrev on : goal.In_default → Type 0
on c = Going (table_of c.args.table.words.now) (values_of c.args.values.now) c.args.lent.now (length c.args.buffer.now) c.write_next-next.result.draft c.write_next-next.new.buffer
    × (heft (table_of c.args.table.words.now) (values_of c.args.values.now) c.args.lent.now (length c.args.buffer.now) c.write_next-next.result.draft
    < heft (table_of c.args.table.words.now) (values_of c.args.values.now) c.args.lent.now (length c.args.buffer.now) c.loop.draft)

more : (c : goal.In_default) → on c
more c =
    let l = left c.args.table.words.now c.args.values.now c.args.table.accepted c.loop.invariant c.offer_at-offer.ensures c.write_next-next.ensures.0 c.write_next-next.ensures.1 in
    l.on (ap goes_on_lem c.in_ok-next.was ∙ goes c.in_ok-next.field-0 c.in_default.not-Ended)

pub loop-smaller : goal.loop-smaller
loop-smaller c = (more c).1

pub loop-preserved : goal.loop-preserved
loop-preserved c = (more c).0

pub returns-in-Ended : goal.returns-in-Ended
returns-in-Ended c =
    let l = left c.args.table.words.now c.args.values.now c.args.table.accepted c.loop.invariant c.offer_at-offer.ensures c.write_next-next.ensures.0 c.write_next-next.ensures.1 in
    let h = l.ends (c.in_ok-next.was ∙ ap Ok c.in-Ended.is) in
    (ap Ok c.bytes_used.ensures ∙ sym h.0, h.1)

pub returns-in_err-next : goal.returns-in_err-next
returns-in_err-next c =
    let l = left c.args.table.words.now c.args.values.now c.args.table.accepted c.loop.invariant c.offer_at-offer.ensures c.write_next-next.ensures.0 c.write_next-next.ensures.1 in
    let h = l.stops _ c.in_err-next.was in
    let e : c.from_residual.result ≡ Err c.in_err-next.field-0.0 = search rules in
    (e ∙ sym h.0, h.1)
