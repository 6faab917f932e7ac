-- Where each keeps its rules.
use mathlib.Core.Path.{sym, subst}
use Prim.Native.Nat.{ℕ, ◌<◌}
use Rattle.tables.specs.Table.{table_of}
use Rattle.tables.proofs.Chain.{clean}
use Rattle.tables.proofs.checking.is_clean.Goals as goal

pub returns-then-fields_are_kept : goal.returns-then-fields_are_kept
returns-then-fields_are_kept c h =
    let t = table_of c.args.words.now in
    clean t
    (λ i l. c.fields_are_kept.ensures c.if-fields_are_kept.true i (subst (λ (n : ℕ). i < n) (sym c.field_count.ensures) l))
    (λ k l. c.sets_are_kept.ensures h k (subst (λ (n : ℕ). k < n) (sym c.set_count.ensures) l))
