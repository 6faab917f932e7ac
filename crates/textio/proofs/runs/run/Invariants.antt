-- A run is safe, ends and prints the answers. The invariant: the buffers keep their lengths, and the run is on its way.
use Rattle.std.proofs.Common.{◌≡◌, List, ℕ, Some, length}
use Rattle.lines.specs.Machine.{closed, text_from}
use Rattle.textio.proofs.Turns.{Along}
use Rattle.textio.proofs.runs.run.Given as goal

abbrev pub invariant-loop : goal.invariant-loop
invariant-loop g l =
    let m = g.P.Program.machine in
    (length l.input ≡ length l.initial.input) × ((length l.page ≡ length l.initial.page)
    × ((bytes : List ℕ) → g.R.Read.remaining l.initial.reader ≡ Some bytes
    → Along m (text_from m (g.P.Program.kept l.initial.program) (closed bytes)) (g.W.Write.contents l.initial.writer)
    (g.P.Program.kept l.program) l.at l.input (g.R.Read.remaining l.reader) (g.W.Write.contents l.writer)))
