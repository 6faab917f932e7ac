-- The contract of `pass`: what a call leaves is `pass_of` of what was kept, the chunk and the page.
use Rattle.std.specs.Prelude.{◌≡◌, ℕ, Bool, List}
use Rattle.text.specs.Sheet.{sheet}
use Rattle.lines.specs.Machine.{passed, pass_of, pass_from}
use Rattle.frames.specs.declared.Line.{Line}
use Rattle.printing.specs.Answers.{kept, samopute}
use Rattle.printing.specs.declared.Passed.{Passed}

abbrev pub passed_at : Line → Bool → ℕ → ℕ → Passed
passed_at l w n to = record { line = l; waits = w; taken = n; to = to }

-- the answer r, and the buffer and the page at exit; of the line and whether it waits, the buffer, the chunk, the page and the place
abbrev pub Passes : Passed → List ℕ → List ℕ → Line → Bool → List ℕ → List ℕ → List ℕ → ℕ → Type 0
Passes r buffer' page' l w buffer input page at =
    passed (kept r.line buffer') r.waits r.taken page' r.to ≡ pass_of samopute (kept l buffer) w input (sheet page at)

-- the same where no line waits
abbrev pub PassesLines : Passed → List ℕ → List ℕ → Line → List ℕ → List ℕ → List ℕ → ℕ → Type 0
PassesLines r buffer' page' l buffer input page at =
    passed (kept r.line buffer') r.waits r.taken page' r.to ≡ pass_from samopute (kept l buffer) input 0 (sheet page at)
