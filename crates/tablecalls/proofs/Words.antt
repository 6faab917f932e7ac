-- The words of a line, as they are stored, and the answer to the line. Assumes nothing.
use mathlib.Core.Path.{◌≡◌, refl}
use mathlib.Core.List.{List, [], ◌∷◌, ◌++◌}
use Prim.Native.Nat.{ℕ, ◌-◌, ◌≤◌}
use lib.ListN.{length, take}
use Rattle.std.specs.Prelude.{Err, Option, Some, None}
use Rattle.text.specs.Refusals.{table_refused, refused_text, malformed_text}
use Rattle.columns.specs.Parts.{space, parts_of}
use Rattle.columns.specs.Runs.{filled, values_of, words_in}
use Rattle.columns.proofs.Stored.{Stored, stored-words}
use Rattle.lines.specs.Machine.{newline}
use Rattle.tables.specs.Table.{table_of}
use Rattle.tables.specs.Check.{Checked, check_of, letter_of}
use Rattle.tables.specs.declared.BrokenRule.{BrokenRule}
use Rattle.tablecalls.specs.Answers.{words_max, checked_text, is_table, answered}

-- a refusal by its number, the place of the rule's letter and the index
pub refused : {x : Checked} {b : BrokenRule} {n : ℕ} → x ≡ Err b → n ≡ letter_of b.rule → refused_text table_refused (n ∷ b.index ∷ []) ≡ checked_text x
refused e f = rw (e, f)

module _ (line old : List ℕ) {new : List ℕ} {r : Option ℕ} (e : filled r new ≡ words_in space line old) (size : length old ≡ words_max) where
  stored : Stored (is_table line) (values_of (parts_of space line)) r new
  stored = stored-words old words_max size refl space e

  module _ {n : ℕ} (is : r ≡ Some n) where
    pub words-within : n ≤ length new
    words-within = stored.within is

    pub checked : checked_text (check_of (table_of (take (n - 0) new))) ++ newline ∷ [] ≡ answered line
    unfolding answered
    checked = rw (stored.some is, stored.first is)

  pub malformed : r ≡ None → malformed_text ++ newline ∷ [] ≡ answered line
  unfolding answered
  malformed is = rw (stored.none is)
