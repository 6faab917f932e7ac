-- Byte by byte.
use mathlib.Core.Path.{◌≡◌}
use lib.ListN.{replicate}
use Rattle.writing.specs.Ink.{poured}
use Rattle.writing.proofs.ink.fill.Given as goal

abbrev pub invariant-loop-j : goal.invariant-loop-j
invariant-loop-j l = l.buffer ≡ poured l.initial.buffer l.at (replicate l.j 0xff)
