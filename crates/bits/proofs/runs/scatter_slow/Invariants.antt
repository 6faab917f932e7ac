-- The invariant: the first k bits are written, and k is at most n.
use mathlib.Core.Path.{◌≡◌}
use Prim.Native.Nat.{◌-◌, ◌≤◌}
use lib.ListN.{length}
use Rattle.bits.specs.Bits.{written}
use Rattle.bits.proofs.runs.scatter_slow.Given as goal

abbrev pub invariant-loop-k : goal.invariant-loop-k
invariant-loop-k l = (l.k ≤ l.n) × ((length l.s ≡ length l.initial.s) × (l.s ≡ written l.initial.s l.at l.k l.v))

abbrev pub decreases-loop-k : goal.decreases-loop-k
decreases-loop-k l = l.n - l.k
