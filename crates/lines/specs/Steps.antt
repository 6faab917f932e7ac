-- A call in steps, as the code takes them: what each step leaves. That the steps come to `pass_of` is proofs/Steps.antt.
use Rattle.std.specs.Prelude.{ℕ, ◌+◌, List, Bool, true, false, ◌||◌, length, drop, ltb}
use Rattle.bits.specs.Bits.{pick}
use Rattle.lines.specs.Machine.{up_to_newline}
use Rattle.lines.specs.Held.{nothing_held, held_after, buffer_after}
use Rattle.lines.specs.declared.Held.{Held}
use Rattle.lines.specs.declared.Step.{Step}

abbrev pub passed_at : Held → Bool → ℕ → ℕ → Bool → Step
passed_at h w n to o = record { held = h; waits = w; taken = n; to = to; over = o }

abbrev pub begun : Held → Bool → ℕ → Step
begun h w at = passed_at h w 0 at false

-- nothing is taken where a line waits
abbrev pub stays : Step → List ℕ → Bool
stays p input = p.waits || ltb (length input) p.taken

-- what is taken of the rest of a chunk
abbrev pub piece : Step → List ℕ → List ℕ
piece p input = up_to_newline (drop p.taken input)

abbrev pub took_of : Step → List ℕ → List ℕ → Step
took_of p line input =
    pick (stays p input) p
    (pick (ltb (p.taken + length (piece p input)) (length input))
    (passed_at (held_after p.held line (piece p input)) true (p.taken + length (piece p input) + 1) p.to false)
    (passed_at (held_after p.held line (piece p input)) false (p.taken + length (piece p input)) p.to true))

abbrev pub line_after : Step → List ℕ → List ℕ → List ℕ
line_after p line input = pick (stays p input) line (buffer_after p.held line (piece p input))

abbrev pub answered_by : Step → ℕ → ℕ → Step
answered_by p to room = pick (ltb room to) (passed_at p.held true p.taken p.to true) (passed_at nothing_held false p.taken to false)
