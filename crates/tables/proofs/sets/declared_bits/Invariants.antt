-- The sum is that of the first j fields.
use mathlib.Core.Path.{◌≡◌}
use Prim.Native.Nat.{◌*◌, ◌≤◌}
use Rattle.tables.specs.Table.{table_of}
use Rattle.tables.specs.Rules.{declared_bits_lem}
use Rattle.tables.proofs.sets.declared_bits.Given as goal

abbrev pub invariant-loop-j : goal.invariant-loop-j
invariant-loop-j l = (l.sum ≤ 65535 * l.j) × (l.sum ≡ declared_bits_lem (table_of l.words) l.i l.j)
