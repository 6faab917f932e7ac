-- The invariant: n marks are passed.
use native.Mathlib.Omega.{arith}
use Rattle.columns.proofs.Cuts.{marks-end, marks-mark, marks-other}
use Rattle.columns.proofs.parts.marks.Goals as goal
use Rattle.columns.proofs.parts.marks.Goals.{then-b-mark, else-b-mark}

pub loop-b-preserved : goal.loop-b-preserved
loop-b-preserved c =
    elim c.if-b-mark.branch [
      | then-b-mark w ↦ let e = marks-mark c.args.mark c.args.s.now c.loop-b.b-index c.loop-b-test.true w.if-b-mark.true in (omega arith, omega arith)
      | else-b-mark w ↦ let e = marks-other c.args.mark c.args.s.now c.loop-b.b-index c.loop-b-test.true w.if-b-mark.false in (omega arith, omega arith)
    ]

pub returns : goal.returns
returns c =
    let e = marks-end c.args.mark c.args.s.now c.loop-b.b-index c.loop-b-test.false in
    omega arith
