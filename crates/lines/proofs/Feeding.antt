-- Taking a piece of the input into a line, byte by byte: what is held so far, with what is still to come, is what is held in the end. Assumes nothing.
use Prim.Native.Nat.{ℕ, ◌+◌, ◌≤◌, ◌<◌}
use mathlib.Core.Path.{◌≡◌, ap₂, ◌∙◌}
use mathlib.Core.List.{List, [], ◌∷◌}
use borrow.Author.Tests.{eq-eqb, ne_eqb}
use native.Mathlib.Numerals.{add-one}
use native.Mathlib.Omega.{arith}
use lib.ListN.{length, drop, get_or, length-set, drop_of_length-le}
use lib.Seq.{drop-cons}
use Rattle.lines.specs.Machine.{newline, up_to_newline}
use Rattle.lines.specs.Held.{held_by, kept_by, held_after, buffer_after, fed_to}
use Rattle.lines.specs.declared.Held.{Held}
use Rattle.lines.specs.declared.Fed.{Fed}

module _ (input : List ℕ) (i : ℕ) where
  pub at-newline : i < length input → get_or input i 0 ≡ newline → up_to_newline (drop i input) ≡ []
  unfolding up_to_newline
  at-newline h e = rw (drop-cons input i 0) (simp (eq-eqb (get_or input i 0) newline e))

  pub at_byte : i < length input → (get_or input i 0 ≡ newline → ⊥) → up_to_newline (drop i input) ≡ get_or input i 0 ∷ up_to_newline (drop (i + 1) input)
  unfolding up_to_newline
  at_byte h e = rw (add-one, drop-cons input i 0) (simp (ne_eqb (get_or input i 0) newline e))

  pub at-end : length input ≤ i → up_to_newline (drop i input) ≡ []
  unfolding up_to_newline
  at-end h = rw (drop_of_length-le input h)

abbrev pub fed_at : Held → ℕ → Fed
fed_at h n = record { held = h; taken = n }

-- after i bytes of the input that came to `held` and `line`: `known` and `kept`
pub record Going (held : Held) (line input : List ℕ) (known : Held) (kept : List ℕ) (i : ℕ) : Type 0 where
  pub within : i ≤ length input
  pub size : length kept ≡ length line
  pub to_held : held_after known kept (up_to_newline (drop i input)) ≡ held_after held line (up_to_newline input)
  pub count : i + length (up_to_newline (drop i input)) ≡ length (up_to_newline input)
  pub to-line : buffer_after known kept (up_to_newline (drop i input)) ≡ buffer_after held line (up_to_newline input)

module _ {held : Held} {line input : List ℕ} {known : Held} {kept : List ℕ} {i : ℕ} (g : Going held line input known kept i) where
  -- one more byte
  pub next : i < length input → (get_or input i 0 ≡ newline → ⊥) → Going held line input (held_by known kept) (kept_by known kept (get_or input i 0)) (i + 1)
  unfolding held_after buffer_after
  next h e =
      let more = at_byte input i h e in
      record {
        within = omega arith;
        size = length-set kept known.count (get_or input i 0) ∙ g.size;
        to_held = rw more at g.to_held;
        count = omega (arith, rw more at g.count);
        to-line = rw more at g.to-line;
      }

  -- at the newline, or where the input ends
  module _ (stop : up_to_newline (drop i input) ≡ []) where
    held-done : known ≡ held_after held line (up_to_newline input)
    unfolding held_after
    held-done = rw stop at g.to_held

    pub done : fed_at known i ≡ fed_to held line (up_to_newline input)
    done = ap₂ fed_at held-done (omega (arith, rw stop at g.count))

    pub line-done : kept ≡ buffer_after held line (up_to_newline input)
    unfolding buffer_after
    line-done = rw stop at g.to-line
