-- The invariant: n marks are passed.
use mathlib.Core.Path.{◌≡◌}
use Prim.Native.Nat.{◌+◌, ◌≤◌}
use lib.ListN.{drop}
use Rattle.columns.specs.Parts.{marks_in}
use Rattle.columns.proofs.parts.marks.Given as goal

abbrev pub invariant-loop-b : goal.invariant-loop-b
invariant-loop-b l = (l.n ≤ l.b-index) × (marks_in l.mark l.s ≡ l.n + marks_in l.mark (drop l.b-index l.s))
