-- What is owed, by the byte that comes next. Assumes nothing.
use mathlib.Core.Path.{◌≡◌}
use mathlib.Core.Bool.{true, false}
use mathlib.Core.List.{List, ◌∷◌}
use Prim.Native.Nat.{ℕ}
use lib.Dec.{eqb}
use Rattle.lines.specs.Machine.{Machine, newline, text_from, owes}

module _ {K : Type 0} (m : Machine K) (k : K) (b : ℕ) (bs : List ℕ) where
  -- a line ends
  pub owes-line : eqb b newline ≡ true → text_from m k (b ∷ bs) ≡ owes m k true bs
  unfolding text_from
  owes-line e = simp e

  -- the line goes on
  pub owes-byte : eqb b newline ≡ false → text_from m k (b ∷ bs) ≡ owes m (m.fed k b) false bs
  unfolding text_from
  owes-byte e = simp e
