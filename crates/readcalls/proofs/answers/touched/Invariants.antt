-- The invariant: what stands after n is untouched. The measure is n.
use mathlib.Core.Path.{◌≡◌}
use Prim.Native.Nat.{◌≤◌}
use lib.ListN.{length, take}
use Rattle.readcalls.specs.Lines.{touched as touchedOf}
use Rattle.readcalls.proofs.answers.touched.Given as goal

abbrev pub invariant-loop-n : goal.invariant-loop-n
invariant-loop-n l = (l.n ≤ length l.run) × (touchedOf l.run ≡ touchedOf (take l.n l.run))

abbrev pub decreases-loop-n : goal.decreases-loop-n
decreases-loop-n l = l.n
