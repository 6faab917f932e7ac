-- The i words passed are other names, and the others start at `from`; the measure is how many bytes are left.
use mathlib.Core.Path.{◌≡◌}
use Prim.Native.Nat.{◌+◌, ◌-◌, ◌≤◌}
use lib.ListN.{length, drop}
use Rattle.columns.specs.Parts.{space, parts_of}
use Rattle.columns.specs.Names.{place_in}
use Rattle.columns.proofs.names.place_in.Given as goal

abbrev pub invariant-loop-from : goal.invariant-loop-from
invariant-loop-from l = (l.from ≤ length l.text) × ((l.i ≤ l.from) × (l.i + place_in l.name (parts_of space (drop l.from l.text)) ≡ place_in l.name (parts_of space l.text)))

abbrev pub decreases-loop-from : goal.decreases-loop-from
decreases-loop-from l = length l.text - l.from
