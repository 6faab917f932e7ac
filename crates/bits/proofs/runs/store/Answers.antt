-- The invariant: the first i bytes are copied.
use mathlib.Core.Path.{◌∙◌}
use Prim.Native.Nat.{◌+◌, ◌<◌}
use native.Mathlib.Omega.{arith}
use native.Mathlib.Numerals.{add-one}
use lib.ListN.{length, length-set}
use lib.Seq.{paste-suc}
use Rattle.bits.proofs.runs.store.Goals as goal

pub loop-i-preserved : goal.loop-i-preserved
loop-i-preserved c =
    let d : c.args.a + c.loop-i.i < length c.args.s.now = omega arith in
    let r : c.loop-i.i < length c.args.src.now = omega arith in (
      omega arith,
      (
        length-set c.loop-i.s _ _ ∙ c.loop-i.invariant.1.0,
        rw (c.loop-i.invariant.1.1, add-one) (paste-suc c.args.s.now c.args.a c.args.src.now c.loop-i.i 0 d r),
      ),
    )
