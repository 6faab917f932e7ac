-- The invariant: the digits passed spell v, and the others go on from there.
use mathlib.Core.Path.{◌≡◌}
use Prim.Native.Nat.{◌^◌, ◌<◌}
use lib.ListN.{drop}
use Rattle.columns.specs.Numbers.{all_below, spelled_in}
use Rattle.columns.proofs.figures.number_in.Given as goal

abbrev pub invariant-loop-b : goal.invariant-loop-b
invariant-loop-b l = (l.v < 2 ^ 64) × ((all_below l.base l.s ≡ all_below l.base (drop l.b-index l.s)) × (spelled_in l.base 0 l.s ≡ spelled_in l.base l.v (drop l.b-index l.s)))
