-- A table's numbers are 16 bits wide, and a word that is missing is 0. Assumes nothing.
use mathlib.Core.Path.{◌≡◌}
use mathlib.Core.List.{List}
use Prim.Native.Nat.{ℕ, ◌/◌, ◌^◌, ◌≤◌, ◌<◌}
use native.Mathlib.Nat.{mod-lt}
use lib.Dec.{lit<}
use lib.ListN.{length, get_or, get_or-eq_default}
use Rattle.tables.specs.declared.RepeatingFieldSet.{RepeatingFieldSet}
use Rattle.tables.specs.Table.{table_of, part}

pub missing : (l : List ℕ) (i : ℕ) → length l ≤ i → get_or l i 0 ≡ 0
missing l i h = get_or-eq_default l 0 h

pub part-lt : (w at : ℕ) → part w at 16 < 65536
part-lt w at = mod-lt (w / 2 ^ at) (lit< {m = 0} {n = 65536} tt)

-- the numbers of a set
pub record Narrow (s : RepeatingFieldSet) : Type 0 where
  pub start : s.start < 65536
  pub size : s.size < 65536
  pub counter : s.counter < 65536
  pub maximum : s.maximum < 65536

pub narrow : (l : List ℕ) (k : ℕ) → Narrow ((table_of l).set k)
narrow l k = record { start = mod-lt _ (lit< {m = 0} {n = 65536} tt); size = part-lt _ 16; counter = part-lt _ 32; maximum = part-lt _ 48 }

-- the numbers of fields and sets
pub count-lt : (l : List ℕ) → (table_of l).count < 65536
count-lt l = mod-lt _ (lit< {m = 0} {n = 65536} tt)

pub sets-lt : (l : List ℕ) → (table_of l).sets < 65536
sets-lt l = part-lt _ 16

-- a field's width
pub width-lt : (l : List ℕ) (i : ℕ) → ((table_of l).field i).width < 65536
width-lt l i = part-lt _ 8
