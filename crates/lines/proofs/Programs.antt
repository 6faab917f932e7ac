-- A program that holds its lines keeps its promise, if every answer has room on a page. Assumes nothing.
use mathlib.Core.Path.{ap, ◌∙◌}
use mathlib.Core.List.{List}
use Prim.Native.Nat.{ℕ, ◌≤◌}
use lib.ListN.{length}
use Rattle.lines.specs.Machine.{text_of}
use Rattle.lines.specs.Held.{held, line_in, capped}
use Rattle.lines.specs.Program.{Program}
use Rattle.lines.proofs.Capped.{printed-lines}
use Rattle.lines.proofs.Drained.{drained}

pub program : (answered : List ℕ → List ℕ) (line_max page_size : ℕ) → ((line : List ℕ) → length (answered line) ≤ page_size) → Program answered line_max page_size
program answered line_max page_size fits = record {
  prints = λ buffer size cs input s e w. printed-lines answered buffer cs input s e w ∙ ap (λ (n : ℕ). text_of (capped n answered) input) size;
  drains = drained (held answered) page_size (λ k. fits (line_in k.held k.buffer));
}
