-- The parts of a text, which a mark sets apart: docs/PROGRAMS.md, "one space between two words".
use Rattle.std.specs.Prelude.{ℕ, suc, ◌+◌, min, List, [], ◌∷◌, eqb, length, drop, get_or}
use Rattle.bits.specs.Bits.{pick}

abbrev pub space : ℕ
space = 32

-- how many bytes stand before the first mark; all of them where there is none
unfoldable pub before : ℕ → List ℕ → ℕ
before mark [] = 0
before mark (b ∷ bs) = pick (eqb b mark) 0 (suc (before mark bs))

-- where the part that starts at `from` ends: at the next mark, or at the end
abbrev pub part_end_lem : ℕ → ℕ → List ℕ → ℕ
part_end_lem mark from s = min from (length s) + before mark (drop from s)

-- a byte more at the front of the first part
abbrev pub longer : ℕ → List (List ℕ) → List (List ℕ)
longer b [] = (b ∷ []) ∷ []
longer b (p ∷ ps) = (b ∷ p) ∷ ps

-- the parts: each mark ends one, and so does the end
unfoldable pub parts_of : ℕ → List ℕ → List (List ℕ)
parts_of mark [] = [] ∷ []
parts_of mark (b ∷ bs) = pick (eqb b mark) ([] ∷ parts_of mark bs) (longer b (parts_of mark bs))

-- the field at place i of a line, counted from 0; empty where there are not so many
abbrev pub field : List ℕ → ℕ → List ℕ
field line i = get_or (parts_of space line) i []

-- how many marks there are
unfoldable pub marks_in : ℕ → List ℕ → ℕ
marks_in mark [] = 0
marks_in mark (b ∷ bs) = pick (eqb b mark) 1 0 + marks_in mark bs
