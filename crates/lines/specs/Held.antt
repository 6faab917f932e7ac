-- A line that is held in a lent buffer. What a program holds between two calls is the buffer and what is known of it.
use Rattle.std.specs.Prelude.{◌≡◌, ℕ, ◌+◌, List, [], ◌∷◌, Bool, true, false, ◌||◌, length, take, set, ltb, leb}
use Rattle.bits.specs.Bits.{pick}
use Rattle.lines.specs.Machine.{Machine, up_to_newline}
use Rattle.lines.specs.declared.Held.{Held}
use Rattle.lines.specs.declared.Fed.{Fed}

abbrev pub held_at : ℕ → Bool → Held
held_at n t = record { count = n; long = t }

abbrev pub nothing_held : Held
nothing_held = held_at 0 false

-- one more byte goes into the buffer, if it has room; if not, the line is too long
abbrev pub held_by : Held → List ℕ → Held
held_by h buffer = pick (ltb h.count (length buffer)) (held_at (h.count + 1) h.long) (held_at h.count true)

abbrev pub kept_by : Held → List ℕ → ℕ → List ℕ
kept_by h buffer b = set buffer h.count b

-- the line: "too long" counts as an empty one, which no program takes for a call
abbrev pub line_in : Held → List ℕ → List ℕ
line_in h buffer = pick (h.long || ltb (length buffer) h.count) [] (take h.count buffer)

-- ## `feed`, byte by byte

unfoldable pub held_after : Held → List ℕ → List ℕ → Held
held_after h buffer [] = h
held_after h buffer (b ∷ bs) = held_after (held_by h buffer) (kept_by h buffer b) bs

unfoldable pub buffer_after : Held → List ℕ → List ℕ → List ℕ
buffer_after h buffer [] = buffer
buffer_after h buffer (b ∷ bs) = buffer_after (held_by h buffer) (kept_by h buffer b) bs

-- what `feed` answers for the bytes that it takes
abbrev pub fed_to : Held → List ℕ → List ℕ → Fed
fed_to h buffer bs = record { held = held_after h buffer bs; taken = length bs }

-- the contract of `feed`: its answer r, and the buffer at exit; of what was held, the buffer and a piece of the input, up to its first newline
abbrev pub Feeds : Fed → List ℕ → Held → List ℕ → List ℕ → Type 0
Feeds r buffer' h buffer input = (r ≡ fed_to h buffer (up_to_newline input)) × (buffer' ≡ buffer_after h buffer (up_to_newline input))

-- ## A program that answers the line that is held

pub record Store : Type 0 where
  pub held : Held
  pub buffer : List ℕ

abbrev pub store : Held → List ℕ → Store
store h buffer = record { held = h; buffer = buffer }

abbrev pub held : (List ℕ → List ℕ) → Machine Store
held answered = record {
  fed = λ s b. store (held_by s.held s.buffer) (kept_by s.held s.buffer b);
  fresh = λ s. store nothing_held s.buffer;
  answer = λ s. answered (line_in s.held s.buffer);
}

-- a line that is too long for a buffer of so many bytes is answered as an empty one
abbrev pub capped : ℕ → (List ℕ → List ℕ) → List ℕ → List ℕ
capped most answered line = answered (pick (leb (length line) most) line [])
