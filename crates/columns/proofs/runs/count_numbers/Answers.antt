-- The invariant: the n parts passed are numbers, and the others start at `from`.
use mathlib.Core.Path.{◌≡◌, sym, ap, ap₂, ◌∙◌}
use mathlib.Core.Bool.{Bool}
use mathlib.Core.List.{List}
use Prim.Native.Nat.{ℕ, ◌≤◌, ◌<◌}
use native.Mathlib.Omega.{arith}
use lib.ListN.{length}
use Rattle.std.specs.Prelude.{Option, is_some}
use Rattle.columns.specs.Parts.{parts_of}
use Rattle.columns.specs.Numbers.{hex_in}
use Rattle.columns.specs.Runs.{run_if}
use Rattle.columns.proofs.Filling.{count-other, count-last, count-more}
use Rattle.columns.proofs.runs.count_numbers.Goals as goal

-- whether the part at hand is a number
good : {w v : List ℕ} {x y : Option ℕ} → x ≡ hex_in w → w ≡ v → x ≡ y → is_some (hex_in v) ≡ is_some y
good h k e = ap is_some (sym (ap hex_in k) ∙ sym h ∙ e)

pub returns-in_err-hex : goal.returns-in_err-hex
returns-in_err-hex c =
    let no = count-other c.args.mark c.args.s.now c.loop-n.from c.part_end-end.result c.loop-n.invariant.0 c.part_end-end.ensures.value c.part_end-end.ensures.upper_bound (good c.hex.ensures c.part.ensures c.in_err-hex.was) in
    c.from_residual.ensures ∙ ap (λ (t : Bool). run_if t (length (parts_of c.args.mark c.args.s.now))) (sym (c.loop-n.invariant.1.1.0 ∙ no))

pub returns-then-end-s : goal.returns-then-end-s
returns-then-end-s c =
    let k = count-last c.args.mark c.args.s.now c.loop-n.from c.part_end-end.result c.loop-n.invariant.0 c.part_end-end.ensures.value c.if-end-s.true (good c.hex.ensures c.part.ensures c.in_ok-hex.was) in
    ap₂ run_if (sym (c.loop-n.invariant.1.1.0 ∙ k.0)) (omega (arith, c.loop-n.invariant.1.1.1, k.1))

pub loop-n-preserved : goal.loop-n-preserved
loop-n-preserved c =
    let far : c.part_end-end.result < length c.args.s.now = omega (arith, c.if-end-s.false, c.part_end-end.ensures.upper_bound) in
    let k = count-more c.args.mark c.args.s.now c.loop-n.from c.part_end-end.result c.loop-n.invariant.0 c.part_end-end.ensures.value far (good c.hex.ensures c.part.ensures c.in_ok-hex.was) in
    let on : c.loop-n.from ≤ c.part_end-end.result = omega (arith, c.part_end-end.ensures.value, c.loop-n.invariant.0) in
    (omega arith, (omega (arith, on, c.loop-n.invariant.1.0), (c.loop-n.invariant.1.1.0 ∙ k.0, omega (arith, c.loop-n.invariant.1.1.1, k.1))))
