-- The text of a refusal: document 01, the end of "Cases": "A refusal prints F, its number and what it carries (decimal, ..)".
use Rattle.std.specs.Prelude.{ℕ, ◌+◌, ◌%◌, List, [], ◌∷◌, ◌++◌, Bool, true, false, eqb}
use Rattle.text.specs.Digits.{spaced}

-- the number of the refusal of a table, which carries a rule's letter first
abbrev pub table_refused : ℕ
table_refused = 8

-- a value that is carried: a number, or a rule, of which 1 is a
abbrev pub carried_text : Bool → ℕ → List ℕ
carried_text true n = 32 ∷ (96 + n % 16) ∷ []
carried_text false n = spaced n

-- all that is carried; the first is a rule where the test holds
unfoldable pub carried_texts : Bool → List ℕ → List ℕ
carried_texts t [] = []
carried_texts t (n ∷ ns) = carried_text t n ++ carried_texts false ns

-- "F, its number and what it carries"
abbrev pub refused_text : ℕ → List ℕ → List ℕ
refused_text number carried = 70 ∷ spaced number ++ carried_texts (eqb number table_refused) carried

-- 14, which carries nothing
abbrev pub malformed_text : List ℕ
malformed_text = 70 ∷ 32 ∷ 49 ∷ 52 ∷ []
