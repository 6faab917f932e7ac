-- The invariant: what stands after n is untouched. The measure is n.
use native.Mathlib.Omega.{arith}
use Rattle.readcalls.proofs.Touching.{found, goes_down, none_found}
use Rattle.readcalls.proofs.answers.touched.Goals as goal

pub returns-then-run-n : goal.returns-then-run-n
returns-then-run-n c = found c.args.run.now c.loop-n.n (omega arith) c.loop-n.invariant.0 c.if-run-n.true c.loop-n.invariant.1

pub loop-n-preserved : goal.loop-n-preserved
loop-n-preserved c = (omega arith, goes_down c.args.run.now c.loop-n.n (omega arith) c.loop-n.invariant.0 c.if-run-n.false c.loop-n.invariant.1)

pub returns : goal.returns
returns c = none_found c.args.run.now c.loop-n.n (omega arith) c.loop-n.invariant.1
