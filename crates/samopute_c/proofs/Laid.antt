-- An answer that is laid out is laid out under any other name of it. Assumes nothing.
use mathlib.Core.Path.{◌≡◌, ap, ◌∙◌}
use mathlib.Core.List.{List}
use Prim.Native.Nat.{ℕ}
use Rattle.samopute_c.specs.Answers.{Told, status, cells, Laid}

pub renamed : {x y : Told} (at : ℕ) {r : ℕ} {l : List ℕ} → Laid r l at x → x ≡ y → Laid r l at y
renamed at laid e = (laid.0 ∙ ap status e, laid.1 ∙ ap (cells at) e)
