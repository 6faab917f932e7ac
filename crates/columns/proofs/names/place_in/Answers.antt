-- The i words passed are other names, and the others start at `from`; the measure is how many bytes are left.
use mathlib.Core.Path.{◌≡◌, sym, ap, ◌∙◌}
use mathlib.Core.Bool.{Bool}
use mathlib.Core.List.{List}
use Prim.Native.Nat.{ℕ, ◌≤◌, ◌<◌}
use native.Mathlib.Omega.{arith}
use lib.ListN.{length}
use Rattle.columns.specs.Parts.{space}
use Rattle.columns.specs.Names.{same}
use Rattle.columns.proofs.Naming.{at_name, at_last, at_other}
use Rattle.columns.proofs.names.place_in.Goals as goal

-- whether the word at hand is the name
is_name : (name : List ℕ) {w v : List ℕ} {t : Bool} → t ≡ same name w → w ≡ v → same name v ≡ t
is_name name h k = sym (h ∙ ap (same name) k)

pub returns-then-same : goal.returns-then-same
returns-then-same c =
    let k = at_name c.args.name.now space c.args.text.now c.loop-from.from c.field_end-end.result c.loop-from.invariant.0 c.field_end-end.ensures.value c.field_end-end.ensures.upper_bound (is_name c.args.name.now c.same.ensures c.part.ensures ∙ c.if-same.true) in
    omega (arith, c.loop-from.invariant.1.1, k)

pub returns-then-end-text : goal.returns-then-end-text
returns-then-end-text c =
    let k = at_last c.args.name.now space c.args.text.now c.loop-from.from c.field_end-end.result c.loop-from.invariant.0 c.field_end-end.ensures.value c.if-end-text.true (is_name c.args.name.now c.same.ensures c.part.ensures ∙ c.if-same.false) in
    omega (arith, c.loop-from.invariant.1.1, k)

pub loop-from-preserved : goal.loop-from-preserved
loop-from-preserved c =
    let far : c.field_end-end.result < length c.args.text.now = omega (arith, c.if-end-text.false, c.field_end-end.ensures.upper_bound) in
    let k = at_other c.args.name.now space c.args.text.now c.loop-from.from c.field_end-end.result c.loop-from.invariant.0 c.field_end-end.ensures.value far (is_name c.args.name.now c.same.ensures c.part.ensures ∙ c.if-same.false) in
    let on : c.loop-from.from ≤ c.field_end-end.result = omega (arith, c.field_end-end.ensures.value, c.loop-from.invariant.0) in
    (omega arith, (omega (arith, on, c.loop-from.invariant.1.0), omega (arith, c.loop-from.invariant.1.1, k)))
