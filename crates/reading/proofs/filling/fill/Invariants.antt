-- The invariant: the first i bytes of the filled payload are stored.
use mathlib.Core.Path.{◌≡◌}
use mathlib.Core.List.{◌++◌}
use Prim.Native.Nat.{◌≤◌}
use lib.ListN.{length, take, drop}
use Rattle.fields.proofs.Filled.{full}
use Rattle.reading.proofs.filling.fill.Given as goal

abbrev pub invariant-loop-i : goal.invariant-loop-i
invariant-loop-i l = (l.i ≤ l.n) × ((length l.padded ≡ length l.initial.padded) × (l.padded ≡ take l.i (full l.received l.n) ++ drop l.i l.initial.padded))
