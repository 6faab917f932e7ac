-- The invariant: what is left to spell, and what stands at the end of the digits.
use mathlib.Core.Path.{◌≡◌}
use mathlib.Core.List.{◌++◌}
use Prim.Native.Nat.{◌-◌, ◌≤◌, min}
use lib.ListN.{length, drop}
use Rattle.text.specs.Digits.{fixed}
use Rattle.text.proofs.pages.Page.put_fixed.Given as goal

abbrev pub invariant-loop-i : goal.invariant-loop-i
invariant-loop-i l = (l.stop ≡ 20 - min l.width 20) × ((l.stop ≤ l.i) × ((l.i ≤ 20) × ((length l.digits ≡ 20) × (fixed l.base (l.i - l.stop) l.rest ++ drop l.i l.digits ≡ fixed l.base (min l.width 20) l.n))))
