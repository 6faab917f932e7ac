-- The invariant: no mark is passed.
use native.Mathlib.Omega.{arith}
use Rattle.columns.proofs.Cuts.{before-end, before-mark, before-other}
use Rattle.columns.proofs.parts.part_end.Goals as goal

pub loop-i-preserved : goal.loop-i-preserved
loop-i-preserved c =
    let e = before-other c.args.mark c.args.s.now c.loop-i.i c.loop-i-test.true c.if-s-i.false in
    omega arith

pub returns-then-s-i-clause-value : goal.returns-then-s-i-clause-value
returns-then-s-i-clause-value c =
    let e = before-mark c.args.mark c.args.s.now c.loop-i.i c.loop-i-test.true c.if-s-i.true in
    omega arith

pub returns-clause-value : goal.returns-clause-value
returns-clause-value c =
    let e = before-end c.args.mark c.args.s.now c.loop-i.i c.loop-i-test.false in
    omega (arith, c.loop-i.auto.i-end (omega (arith, c.min-i.ensures)))
