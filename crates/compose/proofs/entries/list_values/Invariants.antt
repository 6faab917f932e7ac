-- The invariant: what is listed, with the fields that are left, comes to the same. The measure is what is left
-- of the line.
use mathlib.Core.Path.{◌≡◌}
use mathlib.Core.List.{[]}
use Prim.Native.Nat.{◌-◌, ◌≤◌}
use lib.ListN.{length}
use Rattle.std.specs.Prelude.{Some}
use Rattle.compose.specs.Records.{lists, lists_from}
use Rattle.compose.specs.Clauses.{taken, fields_after}
use Rattle.compose.proofs.entries.list_values.Given as goal

abbrev pub invariant-loop-end : goal.invariant-loop-end
invariant-loop-end l = (length l.values ≡ length l.initial.values) × ((length l.lent ≡ length l.initial.lent) × (((l.listed.bytes ≤ length l.initial.values) × (l.listed.text ≤ length l.initial.lent)) × (lists_from (length l.initial.values) (length l.initial.lent) (taken (Some l.listed) l.values l.lent) (fields_after l.end l.line) ≡ lists_from (length l.initial.values) (length l.initial.lent) (lists [] []) (fields_after l.from l.line))))

abbrev pub decreases-loop-end : goal.decreases-loop-end
decreases-loop-end l = length l.line - l.end
