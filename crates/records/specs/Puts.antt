-- Numbers put into a run one after another: what the functions here that store say of the buffer.
use Rattle.std.specs.Prelude.{ℕ, ◌+◌, List, [], ◌∷◌, set}

-- from place `at` on
unfoldable pub puts : List ℕ → ℕ → List ℕ → List ℕ
puts xs at [] = xs
puts xs at (y ∷ ys) = puts (set xs at y) (at + 1) ys
