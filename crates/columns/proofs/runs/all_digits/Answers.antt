-- The invariant: it goes by the bytes that are left.
use mathlib.Core.Path.{sym, ◌∙◌}
use Prim.Native.Nat.{◌≤◌, ◌<◌}
use native.Mathlib.Omega.{arith}
use lib.ListN.{get_or}
use Rattle.hexadecimal.specs.Digits.{value_of}
use Rattle.columns.proofs.Spelling.{below_end, below_more, below-not}
use Rattle.columns.proofs.Filling.{below-digits}
use Rattle.columns.proofs.runs.all_digits.Goals as goal

pub loop-b-init : goal.loop-b-init
loop-b-init c = sym (below-digits _)

pub returns-then-value_of-gt15 : goal.returns-then-value_of-gt15
returns-then-value_of-gt15 c =
    let far : 16 ≤ value_of (get_or c.args.s.now c.loop-b.b-index 0) = omega (arith, c.if-value_of-gt15.true, c.value_of.ensures) in
    sym (c.loop-b.invariant ∙ below-not 16 c.args.s.now c.loop-b.b-index c.loop-b-test.true far)

pub loop-b-preserved : goal.loop-b-preserved
loop-b-preserved c =
    let near : value_of (get_or c.args.s.now c.loop-b.b-index 0) < 16 = omega (arith, c.if-value_of-gt15.false, c.value_of.ensures) in
    c.loop-b.invariant ∙ below_more 16 c.args.s.now c.loop-b.b-index c.loop-b-test.true near

pub returns : goal.returns
returns c = sym (c.loop-b.invariant ∙ below_end 16 c.args.s.now c.loop-b.b-index c.loop-b-test.false)
