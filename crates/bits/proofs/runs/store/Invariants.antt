-- The invariant: the first i bytes are copied.
use mathlib.Core.Path.{◌≡◌}
use Prim.Native.Nat.{◌≤◌}
use lib.ListN.{length}
use lib.Seq.{paste}
use Rattle.bits.proofs.runs.store.Given as goal

abbrev pub invariant-loop-i : goal.invariant-loop-i
invariant-loop-i l = (l.i ≤ length l.src) × ((length l.s ≡ length l.initial.s) × (l.s ≡ paste l.initial.s l.a l.src l.i))
