-- The invariant: what is left of the call comes to the call.
use Rattle.std.proofs.Common.{length, ◌-◌, ◌≤◌}
use Rattle.text.specs.Sheet.{sheet}
use Rattle.lines.specs.Machine.{pass_of}
use Rattle.lines.proofs.Chunk.{Way}
use Rattle.lines.proofs.program.Program.pass.Given as goal

abbrev pub invariant-loop-taken : goal.invariant-loop-taken
invariant-loop-taken g l =
    let m = g.Self.Program.machine in
    (l.taken ≤ length l.input)
    × Way m l.input (pass_of m (g.Self.Program.kept l.fn.self) l.waits l.input (sheet l.fn.out l.at)) (g.Self.Program.kept l.self) l.out l.taken l.to

abbrev pub decreases-loop-taken : goal.decreases-loop-taken
decreases-loop-taken g l = length l.input - l.taken
