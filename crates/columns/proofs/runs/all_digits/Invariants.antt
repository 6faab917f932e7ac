-- The invariant: it goes by the bytes that are left.
use mathlib.Core.Path.{◌≡◌}
use lib.ListN.{drop}
use Rattle.hexadecimal.specs.Digits.{all_digits_lem}
use Rattle.columns.specs.Numbers.{all_below}
use Rattle.columns.proofs.runs.all_digits.Given as goal

abbrev pub invariant-loop-b : goal.invariant-loop-b
invariant-loop-b l = all_digits_lem l.s ≡ all_below 16 (drop l.b-index l.s)
