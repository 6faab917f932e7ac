-- Names: which of several a text is.
use Rattle.std.specs.Prelude.{ℕ, suc, List, [], ◌∷◌, Bool, true, false, ◌&&◌, eqb}
use Rattle.bits.specs.Bits.{pick}

-- whether two texts are the same, byte by byte
unfoldable pub same : List ℕ → List ℕ → Bool
same [] [] = true
same [] (y ∷ ys) = false
same (x ∷ xs) [] = false
same (x ∷ xs) (y ∷ ys) = eqb x y && same xs ys

-- the place of a text in a list, or past its end
unfoldable pub place_in : List ℕ → List (List ℕ) → ℕ
place_in name [] = 0
place_in name (x ∷ xs) = pick (same name x) 0 (suc (place_in name xs))
