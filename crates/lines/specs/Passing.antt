-- The contract of `pass`: what a call leaves is `pass_of` of what was held, the chunk and the page.
use Rattle.std.specs.Prelude.{◌≡◌, ℕ, Bool, List}
use Rattle.text.specs.Sheet.{sheet}
use Rattle.lines.specs.Machine.{Machine, passed, pass_of}
use Rattle.lines.specs.declared.Passed.{Passed}

-- the answer r, and what is held and the page at exit; of what was held and whether it waits, the chunk, the page and the place
abbrev pub Passes : {K : Type 0} → Machine K → Passed → K → List ℕ → K → Bool → List ℕ → List ℕ → ℕ → Type 0
Passes m r k' page' k w input page at = passed k' r.waits r.taken page' r.to ≡ pass_of m k w input (sheet page at)
