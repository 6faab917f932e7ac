-- The sum is that of the first j fields.
use mathlib.Core.Path.{refl, sym, ap, ap₂, ◌∙◌, subst}
use Prim.Native.Nat.{ℕ, ◌+◌, ◌<◌}
use native.Mathlib.Omega.{arith}
use Rattle.tables.specs.Table.{table_of}
use Rattle.descriptor.specs.declared.FieldDescriptor.{FieldDescriptor}
use Rattle.tables.specs.Rules.{declared_bits_lem}
use Rattle.tables.proofs.Searches.{bits-more}
use Rattle.tables.proofs.Missing.{width-lt}
use Rattle.tables.proofs.sets.declared_bits.Goals as goal

pub loop-j-init : goal.loop-j-init
unfolding declared_bits_lem
loop-j-init c = (omega arith, refl)

pub loop-j-preserved : goal.loop-j-preserved
loop-j-preserved c =
    let t = table_of c.args.words.now in
    let w : c.field_at.result.width < 65536 =
    subst (λ (f : FieldDescriptor). f.width < 65536) (sym c.field_at.ensures) (width-lt c.args.words.now (c.args.i + c.loop-j.j)) in
    (omega (arith, w), ap₂ (λ (x y : ℕ). x + y) c.loop-j.invariant.1 (ap (λ (d : FieldDescriptor). d.width) c.field_at.ensures) ∙ sym (bits-more t c.args.i c.loop-j.j))
