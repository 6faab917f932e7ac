-- The invariant: the part at place i is that at place i - k of what is left.
use mathlib.Core.Path.{◌≡◌}
use mathlib.Core.List.{[]}
use Prim.Native.Nat.{◌-◌, ◌≤◌}
use lib.ListN.{length, drop, get_or}
use Rattle.columns.specs.Parts.{space, parts_of}
use Rattle.columns.proofs.parts.word.Given as goal

abbrev pub invariant-loop-k : goal.invariant-loop-k
invariant-loop-k l = (l.from ≤ length l.s) × (get_or (parts_of space l.s) l.i [] ≡ get_or (parts_of space (drop l.from l.s)) (l.i - l._k) [])
