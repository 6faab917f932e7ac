-- The invariant: what is left to spell, and what stands at the end of the digits.
use mathlib.Core.Path.{◌≡◌}
use mathlib.Core.List.{◌++◌}
use Prim.Native.Nat.{◌≤◌}
use lib.ListN.{length, drop}
use Rattle.text.specs.Digits.{higher, shortest}
use Rattle.text.proofs.pages.Page.put_shortest.Given as goal

abbrev pub invariant-loop-i : goal.invariant-loop-i
invariant-loop-i l = (l.i ≤ 19) × ((length l.digits ≡ 20) × (higher l.base l.i l.rest ++ drop l.i l.digits ≡ shortest l.base 19 l.n))

abbrev pub decreases-loop-i : goal.decreases-loop-i
decreases-loop-i l = l.i
