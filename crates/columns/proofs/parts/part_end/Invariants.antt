-- The invariant: no mark is passed.
use mathlib.Core.Path.{◌≡◌}
use Prim.Native.Nat.{◌+◌}
use lib.ListN.{drop}
use Rattle.columns.specs.Parts.{before, part_end_lem}
use Rattle.columns.proofs.parts.part_end.Given as goal

abbrev pub invariant-loop-i : goal.invariant-loop-i
invariant-loop-i l = part_end_lem l.mark l.from l.s ≡ l.i + before l.mark (drop l.i l.s)
