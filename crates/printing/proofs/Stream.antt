-- The printing program as a whole: over any list of calls, whatever the chunks and the pages, all that was put is document 01's text for all that was taken; and
-- with empty pages of `PAGE` bytes enough calls take all of a chunk. Assumes nothing.
use mathlib.Core.Path.{◌≡◌, sym, ap, ◌∙◌}
use mathlib.Core.Bool.{Bool, true, false}
use mathlib.Core.Logic.{◌⊎◌}
use mathlib.Core.List.{List, [], ◌++◌, append-nil}
use Prim.Native.Nat.{ℕ, ◌+◌, ◌^◌, ◌≤◌, ◌<◌}
use native.Mathlib.Omega.{arith}
use lib.ListN.{length}
use Rattle.text.specs.Sheet.{lost}
use Rattle.lines.specs.Machine.{owes, text_from, plain, closed}
use Rattle.lines.specs.Calls.{Call, Sound, put, taken, held_after, waits_after, Rests, Drains}
use Rattle.lines.proofs.Stream as lines
use Rattle.lines.proofs.Progress.{progress, moves}
use Rattle.lines.proofs.Drained.{drained}
use Rattle.tables.specs.Check.{payload_max}
use Rattle.frames.specs.declared.Line.{Line}
use Rattle.frames.specs.Digest.{empty_line_lem}
use Rattle.frames.specs.Frames.{frame_by}
use Rattle.printing.specs.declared.Passed.{Passed}
use Rattle.printing.specs.Text.{answered, printed}
use Rattle.printing.specs.Answers.{answer_by, Kept, kept, samopute}
use Rattle.printing.specs.Clauses.{Passes}
use Rattle.printing.proofs.Paper.{exact}
use Rattle.printing.proofs.Sizes.{page, answer-size}

-- all that the calls put, then what is owed for it, is the text of all that they took; from the start on, with a buffer that holds anything
pub stream : (buffer : List ℕ) (cs : List Call) → payload_max ≤ length buffer → Sound cs → length (taken samopute (kept empty_line_lem buffer) false cs) < 2 ^ 64
    → let k = kept empty_line_lem buffer in
    put samopute k false cs ++ owes samopute (held_after samopute k false cs) (waits_after samopute k false cs) [] ≡ text_from (plain answered) [] (taken samopute k false cs)
stream buffer cs room sound small =
    let k = kept empty_line_lem buffer in
    lines.stream samopute k false cs sound []
    ∙ ap (text_from samopute k) (append-nil (taken samopute k false cs))
    ∙ exact buffer (taken samopute k false cs) room small

-- once all of an input is taken, its last newline supplied where it lacks one, and no line waits, the text that was put is what is printed for it
pub all-printed : (buffer input : List ℕ) (cs : List Call) → payload_max ≤ length buffer → Sound cs → length (closed input) < 2 ^ 64
    → let k = kept empty_line_lem buffer in taken samopute k false cs ≡ closed input → waits_after samopute k false cs ≡ false
    → put samopute k false cs ≡ printed input
all-printed buffer input cs room sound small all none =
    lines.printed samopute (kept empty_line_lem buffer) cs (closed input) sound all none ∙ exact buffer (closed input) room small

-- a call with an empty page of `PAGE` bytes, or more, takes all of its chunk and leaves no line to wait, or puts text; and a line that waited is answered by it, so that none
-- waits twice
pub never_stuck : (r : Passed) (buffer' page' : List ℕ) (l : Line) (w : Bool) (buffer input p : List ℕ) → page ≤ length p → length p < lost
    → Passes r buffer' page' l w buffer input p 0
    → (((r.taken ≡ length input) × (r.waits ≡ false)) ⊎ (0 < r.to)) × (w ≡ true → length (answer_by (frame_by l) buffer) ≤ r.to)
never_stuck r buffer' page' l w buffer input p room small e =
    let fits : (k : Kept) → 0 + length (samopute.answer k) ≤ length p = λ k. omega (arith, answer-size (frame_by k.line) k.buffer) in (
      moves samopute (kept l buffer) w input p 0 small (omega arith) (sym e) fits,
      λ h. omega (arith, (progress samopute (kept l buffer) w input p 0 small (omega arith) (sym e)).first h (fits (kept l buffer))),
    )

-- a chunk, call after call, each on an empty page of `PAGE` bytes or more: more calls than there are bytes owed take all of it, and no line is left to wait
pub drains : (k : Kept) (w : Bool) (input : List ℕ) (cs : List Call) → Rests samopute page k w input cs → length (owes samopute k w input) < length cs → Drains samopute k w input cs
drains = drained samopute page (λ k. answer-size (frame_by k.line) k.buffer)
