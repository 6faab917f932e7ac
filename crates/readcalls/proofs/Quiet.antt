-- No reading has no line. Assumes nothing.
use mathlib.Core.List.{List, [], flat_map}
use Prim.Native.Nat.{ℕ}
use Rattle.text.specs.declared.pages.Page.{Page}
use Rattle.text.specs.Sheet.{PutsOn}
use Rattle.text.proofs.Putting.{nothing}
use Rattle.readcalls.specs.Lines.{reading_line}

pub quiet : (page : Page) → PutsOn page (flat_map reading_line []) page
unfolding flat_map
quiet page = nothing page
