-- A line that comes in pieces: `feed` takes each of them up to a newline, or all of it, and goes on from what it knew before. Definitions only: what the
-- line then is, and what the buffer holds, is `pieces-read` of proofs/Exact.antt.
use Rattle.std.specs.Prelude.{◌≡◌, ℕ, ◌≤◌, List, [], ◌∷◌, ◌++◌, length, take, drop}
use Rattle.lines.specs.Machine.{up_to_newline}
use Rattle.frames.specs.Lines.{parsed, line_of}
use Rattle.frames.specs.Digest.{fed_to, buffer_after}
use Rattle.frames.specs.Frames.{frame_of, frame_by}
use Rattle.frames.specs.declared.Line.{Line}

-- the line: what `feed` takes of the pieces
unfoldable pub taken : List (List ℕ) → List ℕ
taken [] = []
taken (p ∷ ps) = up_to_newline p ++ taken ps

-- pieces of an input, one after another, of which only the last may have a newline: what is taken of them is the input up to its newline, by `taken-joined`
unfoldable pub joined : List (List ℕ) → List ℕ
joined [] = []
joined (p ∷ ps) = p ++ joined ps

abbrev pub LastEnds : List (List ℕ) → Type 0
LastEnds [] = Unit {0}
LastEnds (p ∷ []) = Unit {0}
LastEnds (p ∷ q ∷ ps) = (up_to_newline p ≡ p) × LastEnds (q ∷ ps)

-- what is known of it after all of them
unfoldable pub line_fed : Line → List (List ℕ) → Line
line_fed l [] = l
line_fed l (p ∷ ps) = line_fed (fed_to l (up_to_newline p)).line ps

-- what the lent buffer holds then
unfoldable pub buffer_fed : Line → List ℕ → List (List ℕ) → List ℕ
buffer_fed l buffer [] = buffer
buffer_fed l buffer (p ∷ ps) = buffer_fed (fed_to l (up_to_newline p)).line (buffer_after l buffer (up_to_newline p)) ps

-- a line is read right, by what is known of it and by the buffer that was lent for it, before and after
pub record LineRead (line : List ℕ) (known : Line) (before after : List ℕ) : Type 0 where
  -- `frame_of` answers 14, 15, or the message, its PGN and how many bytes the payload has
  pub frame : frame_by known ≡ frame_of (line_of line)
  -- the buffer holds the payload's bytes, as many as there is room for, and after them what it held before
  pub payload : (pgn : ℕ) (bytes : List ℕ) → line_of line ≡ parsed pgn bytes → after ≡ take (length before) bytes ++ drop (length bytes) before
  -- so its front is the payload, where there is room for all of it
  pub front : (pgn : ℕ) (bytes : List ℕ) → line_of line ≡ parsed pgn bytes → length bytes ≤ length before → take (length bytes) after ≡ bytes
