-- The invariant: what is left of the call comes to the call.
use mathlib.Core.Path.{◌≡◌}
use Prim.Native.Nat.{◌-◌, ◌≤◌}
use lib.ListN.{length}
use Rattle.text.specs.Sheet.{sheet}
use Rattle.lines.specs.Machine.{pass_from}
use Rattle.lines.proofs.Chunk.{Way}
use Rattle.printing.specs.Answers.{kept, samopute}
use Rattle.printing.proofs.passing.pass_lines.Given as goal

abbrev pub invariant-loop-from : goal.invariant-loop-from
invariant-loop-from l =
    ((length l.buffer ≡ length l.initial.buffer) × ((length l.out ≡ length l.initial.out) × (l.from ≤ length l.input)))
    × Way samopute l.input (pass_from samopute (kept l.initial.known l.initial.buffer) l.input 0 (sheet l.initial.out l.at)) (kept l.known l.buffer) l.out l.from l.to

abbrev pub decreases-loop-from : goal.decreases-loop-from
decreases-loop-from l = length l.input - l.from
