-- The invariant: n values are stored, and the parts from `from` on have the others.
use mathlib.Core.Path.{◌≡◌}
use Prim.Native.Nat.{◌-◌, ◌≤◌}
use lib.ListN.{length, drop}
use Rattle.columns.specs.Parts.{parts_of}
use Rattle.columns.specs.Runs.{values_of}
use Rattle.columns.proofs.Lists.{front}
use Rattle.columns.proofs.runs.store_numbers.Given as goal

abbrev pub invariant-loop-mark : goal.invariant-loop-mark
invariant-loop-mark l = (l.from ≤ length l.s) × ((drop l.n (values_of (parts_of l.mark l.s)) ≡ values_of (parts_of l.mark (drop l.from l.s))) × (l.words ≡ front l.n (values_of (parts_of l.mark l.s)) l.initial.words))

abbrev pub decreases-loop-mark : goal.decreases-loop-mark
decreases-loop-mark l = length l.s - l.from
