-- Byte by byte.
use mathlib.Core.Path.{◌≡◌}
use Prim.Native.Nat.{◌+◌, ◌*◌}
use lib.ListN.{take}
use Rattle.writing.specs.Ink.{poured}
use Rattle.writing.proofs.ink.pour.Given as goal

abbrev pub invariant-loop-x : goal.invariant-loop-x
invariant-loop-x l = (l.to ≡ l.at + 8 * l.x-index) × (l.buffer ≡ poured l.initial.buffer l.at (take l.x-index l.text))
