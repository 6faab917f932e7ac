-- The invariant: the n parts passed are numbers, and the others start at `from`.
use mathlib.Core.Path.{◌≡◌}
use Prim.Native.Nat.{◌+◌, ◌-◌, ◌≤◌}
use lib.ListN.{length, drop}
use Rattle.columns.specs.Parts.{parts_of}
use Rattle.columns.specs.Runs.{all_numbers}
use Rattle.columns.proofs.runs.count_numbers.Given as goal

abbrev pub invariant-loop-n : goal.invariant-loop-n
invariant-loop-n l = (l.from ≤ length l.s) × ((l.n ≤ l.from) × ((all_numbers (parts_of l.mark l.s) ≡ all_numbers (parts_of l.mark (drop l.from l.s))) × (length (parts_of l.mark l.s) ≡ l.n + length (parts_of l.mark (drop l.from l.s)))))

abbrev pub decreases-loop-n : goal.decreases-loop-n
decreases-loop-n l = length l.s - l.from
