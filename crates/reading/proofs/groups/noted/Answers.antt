-- The counters of the first k sets are noted.
use mathlib.Core.Path.{sym, ap, ◌∙◌}
use mathlib.Core.List.{List}
use Prim.Native.Nat.{ℕ}
use lib.ListN.{set}
use borrow.Author.Tests.{eq-eqb, ne_eqb}
use Rattle.tables.specs.Table.{table_of}
use Rattle.tables.specs.declared.RepeatingFieldSet.{RepeatingFieldSet}
use Rattle.reading.proofs.Counted.{noted_here, noted-past, noted-none}
use Rattle.reading.proofs.groups.noted.Goals as goal
use Rattle.reading.proofs.groups.noted.Goals.{then-set_at-i, else-set_at-i}

pub loop-k-init : goal.loop-k-init
loop-k-init c = noted-none (table_of c.args.words.now) c.args.i c.args.r c.args.cs

pub loop-k-preserved : goal.loop-k-preserved
loop-k-preserved c =
    let t = table_of c.args.words.now in
    elim c.if-set_at-i.branch [
      | then-set_at-i w ↦
          w.counters-is ∙ ap (λ (x : List ℕ). set x c.loop-k.k c.args.r) c.loop-k.invariant
          ∙ noted_here t c.args.i c.args.r c.args.cs c.loop-k.k (eq-eqb _ _ (sym (ap (λ (x : RepeatingFieldSet). x.counter) c.set_at.ensures) ∙ w.if-set_at-i.true))
      | else-set_at-i w ↦
          w.counters-is ∙ c.loop-k.invariant
          ∙ noted-past t c.args.i c.args.r c.args.cs c.loop-k.k (ne_eqb _ _ (λ e. w.if-set_at-i.false (ap (λ (x : RepeatingFieldSet). x.counter) c.set_at.ensures ∙ e)))
    ]
