-- How the answer of the table check crosses the boundary.
use Rattle.std.specs.Prelude.{ℕ, List, [], ◌∷◌, Ok, Err}
use Rattle.tables.specs.Check.{Checked, letter_of}

-- 0, or 8: "table refused"
abbrev pub check_status : Checked → ℕ
check_status (Ok tt) = 0
check_status (Err b) = 8

-- what 8 carries: "rule letter, index of field or set (0 for a)"
abbrev pub check_cells : Checked → List ℕ
check_cells (Ok tt) = 0 ∷ 0 ∷ 0 ∷ []
check_cells (Err b) = letter_of b.rule ∷ b.index ∷ 0 ∷ []
