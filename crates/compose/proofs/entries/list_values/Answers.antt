-- The invariant: what is listed, with the fields that are left, comes to the same. The measure is what is left
-- of the line.
use mathlib.Core.Path.{◌≡◌, ap, ◌∙◌}
use mathlib.Core.List.{List}
use Prim.Native.Nat.{ℕ, ◌+◌, ◌-◌, ◌≤◌, ◌<◌}
use borrow.Author.Rules.{rules}
use native.Mathlib.Omega.{arith}
use lib.ListN.{length, take, drop}
use Rattle.std.specs.Prelude.{Option}
use Rattle.columns.specs.Parts.{space, part_end_lem}
use Rattle.compose.specs.Values.{value_of}
use Rattle.compose.specs.Records.{Lists, more, lists_from}
use Rattle.compose.specs.declared.entries.Listed.{Listed}
use Rattle.compose.specs.Clauses.{taken, fields_after}
use Rattle.compose.proofs.Fields.{none_after, next_field}
use Rattle.compose.proofs.Listing.{turned, finished, gone}
use Rattle.compose.proofs.entries.list_values.Goals as goal

-- a turn: one field more
went : (line : List ℕ) (from : ℕ) {room texts room' texts' end : ℕ} → room' ≡ room → texts' ≡ texts → (l : Lists) {l' x : Lists} {s : List ℕ}
    → l' ≡ more room' texts' l (value_of s) → s ≡ take (end - (from + 1)) (drop (from + 1) line) → from < length line → end ≡ part_end_lem space (from + 1) line → end ≤ length line
    → lists_from room texts l (fields_after from line) ≡ x → lists_from room texts l' (fields_after end line) ≡ x
went line from e f l h k b q u w = turned _ _ e f l h k (next_field line from b q u) w

pub returns-in_err-listed : goal.returns-in_err-listed
returns-in_err-listed c =
    ap (λ (r : Option Listed). taken r c.list_value.new.values c.list_value.new.lent) c.from_residual.ensures
    ∙ gone _ _ _
    (went _ _ c.loop-end.invariant.0 c.loop-end.invariant.1.0 _ c.in_err-listed.ensures.adds c.part.ensures c.loop-end-test.true c.field_end-end.ensures.value c.field_end-end.ensures.upper_bound c.loop-end.invariant.1.1.1)

pub loop-end-preserved : goal.loop-end-preserved
loop-end-preserved c =
    let bounds = c.in_ok-listed.ensures.in_bounds in
    let w = went _ _ c.loop-end.invariant.0 c.loop-end.invariant.1.0 _ c.in_ok-listed.ensures.adds c.part.ensures c.loop-end-test.true c.field_end-end.ensures.value c.field_end-end.ensures.upper_bound c.loop-end.invariant.1.1.1 in
    (search rules, (search rules, ((omega (arith, c.loop-end.invariant.0, bounds.0), omega (arith, c.loop-end.invariant.1.0, bounds.1)), w)))

pub returns : goal.returns
returns c = finished _ _ (none_after c.args.line.now c.loop-end.end (omega (arith, c.loop-end-test.false))) c.loop-end.invariant.1.1.1
