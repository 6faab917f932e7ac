-- The invariant: the first k bits are written, and k is at most n.
use mathlib.Core.Path.{refl, ◌∙◌}
use Prim.Native.Nat.{◌+◌, ◌*◌, ◌%◌, ◌≤◌, ◌<◌}
use native.Mathlib.Omega.{arith}
use lib.ListN.{length, length-set}
use Rattle.bits.proofs.Patches.{stored}
use Rattle.bits.proofs.Written.{none}
use Rattle.bits.proofs.runs.scatter_slow.Goals as goal

pub loop-k-init : goal.loop-k-init
loop-k-init c = (omega arith, (refl, none c.args.s.now c.args.at c.args.v (λ i. (c.slice_known-1.given i).fits)))

pub loop-k-preserved : goal.loop-k-preserved
loop-k-preserved c =
    let in_one : (c.args.at + c.loop-k.k) % 8 + c.min-t.result ≤ 8 = omega arith in
    let in_all : c.args.at + (c.loop-k.k + c.min-t.result) ≤ length c.args.s.now * 8 = omega arith in
    let some : 0 < c.min-t.result = omega arith in (
      omega arith,
      (
        length-set c.loop-k.s _ _ ∙ c.loop-k.invariant.1.0,
        rw (c.patched.ensures, c.right.ensures, c.loop-k.invariant.1.1) (stored c.args.s.now c.args.at c.loop-k.k c.min-t.result c.args.v in_one in_all some),
      ),
    )
