-- A chunk, line by line, as `pass` goes through it: what of the call is left to do. Assumes nothing.
use mathlib.Core.Path.{◌≡◌, refl, sym, ap, ◌∙◌}
use mathlib.Core.Bool.{Bool, true, false}
use mathlib.Core.List.{List, [], ◌∷◌}
use Prim.Native.Nat.{ℕ, ◌+◌, ◌-◌, ◌≤◌, ◌<◌}
use native.Mathlib.Omega.{arith}
use borrow.Author.Tests.{le-leb, lt-leb}
use lib.ListN.{length, take, drop, length-drop}
use lib.Seq.{take_all, drop-length}
use Rattle.bits.specs.Bits.{pick}
use Rattle.text.specs.Sheet.{Sheet, sheet, page_of, Puts}
use Rattle.lines.specs.Machine.{Machine, Passed, passed, pass_from, answered_or, fits, up_to_newline, feds}
use Rattle.lines.specs.Held.{held_by, kept_by, held_after, buffer_after, store, held}
use Rattle.lines.specs.declared.Held.{Held}
use Rattle.lines.proofs.UpTo.{up_le, rest-taken, rest-ends}

-- a part of a slice up to its end is what is left of it
pub rest-is : (xs : List ℕ) (n : ℕ) → take (length xs - n) (drop n xs) ≡ drop n xs
rest-is xs n = take_all (length xs - n) (drop n xs) (omega (arith, length-drop n xs))

-- a buffer holds what is fed, byte by byte
pub held-feds : (a : List ℕ → List ℕ) (h : Held) (line bs : List ℕ) → feds (held a) (store h line) bs ≡ store (held_after h line bs) (buffer_after h line bs)
unfolding feds held_after buffer_after
held-feds a h line [] = refl
held-feds a h line (b ∷ bs) = held-feds a (held_by h line) (kept_by h line b) bs

module _ {K : Type 0} (m : Machine K) where
  -- ## Where an answer is put

  -- there is room: the call goes on after it
  pub answer-fits : (k : K) (n : ℕ) (page : List ℕ) (at : ℕ) (new : List ℕ) (to : ℕ) (then : Sheet → Passed K) → Puts page at (m.answer k) new to → to ≤ length new
      → answered_or m k n (sheet page at) then ≡ then (sheet new to)
  answer-fits k n page at new to then p l =
      sym (ap (λ (s : Sheet). pick (fits s) (then s) (passed k true n (page_of s) at)) p.is) ∙ ap (λ (t : Bool). pick t (then (sheet new to)) (passed k true n new at)) (le-leb to (length new) l)

  -- there is none: the line waits
  pub answer-waits : (k : K) (n : ℕ) (page : List ℕ) (at : ℕ) (new : List ℕ) (to : ℕ) (then : Sheet → Passed K) → Puts page at (m.answer k) new to → length new < to
      → answered_or m k n (sheet page at) then ≡ passed k true n new at
  answer-waits k n page at new to then p l =
      sym (ap (λ (s : Sheet). pick (fits s) (then s) (passed k true n (page_of s) at)) p.is) ∙ ap (λ (t : Bool). pick t (then (sheet new to)) (passed k true n new at)) (lt-leb to (length new) l)

  -- ## The loop

  module _ (input : List ℕ) where
    -- what is left of a call, from bytes taken, comes to the call
    abbrev pub Way : Passed K → K → List ℕ → ℕ → ℕ → Type 0
    Way whole k page from to = pass_from m k (drop from input) from (sheet page to) ≡ whole

    -- all of the chunk is taken
    pub at-end : (whole : Passed K) (k : K) (page : List ℕ) (from to : ℕ) → Way whole k page from to → from ≡ length input → passed k false from page to ≡ whole
    unfolding pass_from
    at-end whole k page from to way e =
        sym (ap (λ (xs : List ℕ). pass_from m k xs from (sheet page to)) (ap (λ (n : ℕ). drop n input) e ∙ drop-length input)) ∙ way

    -- `feed` took so much of the rest of the chunk
    module _ (k : K) (from : ℕ) (n : ℕ) (k' : K) (count : n ≡ length (up_to_newline (take (length input - from) (drop from input))))
        (keeps : k' ≡ feds m k (up_to_newline (take (length input - from) (drop from input)))) where
      abbrev piece : List ℕ
      piece = up_to_newline (drop from input)

      size : n ≡ length piece
      size = count ∙ ap (λ (xs : List ℕ). length (up_to_newline xs)) (rest-is input from)

      fed : k' ≡ feds m k piece
      fed = keeps ∙ ap (λ (xs : List ℕ). feds m k (up_to_newline xs)) (rest-is input from)

      -- no more than there is
      pub few : from ≤ length input → from + n ≤ length input
      few i = omega (arith, size, up_le (drop from input), length-drop from input)

      module _ (whole : Passed K) (page : List ℕ) (to : ℕ) (way : Way whole k page from to) where
        -- no line ends in the rest of the chunk
        pub chunk-done : from ≤ length input → length input ≤ from + n → passed k' false (from + n) page to ≡ whole
        chunk-done i h = rw (fed, size) (sym (rest-taken m k input from (sheet page to) i (omega (arith, size))) ∙ way)

        -- a line ends, and its answer is put on the page or finds no room there
        ends : from + n < length input → answered_or m k' (from + n + 1) (sheet page to) (pass_from m (m.fresh k') (drop (from + n + 1) input) (from + n + 1)) ≡ whole
        ends h = rw (fed, size) (sym (rest-ends m k input from (sheet page to) (omega (arith, size))) ∙ way)

        pub line-waits : from + n < length input → (new : List ℕ) (end : ℕ) → Puts page to (m.answer k') new end → length new < end → passed k' true (from + n + 1) new to ≡ whole
        line-waits h new end p x = sym (answer-waits k' (from + n + 1) page to new end (pass_from m (m.fresh k') (drop (from + n + 1) input) (from + n + 1)) p x) ∙ ends h

        pub line-answered : from + n < length input → (new : List ℕ) (end : ℕ) → Puts page to (m.answer k') new end → end ≤ length new → Way whole (m.fresh k') new (from + n + 1) end
        line-answered h new end p x = sym (answer-fits k' (from + n + 1) page to new end (pass_from m (m.fresh k') (drop (from + n + 1) input) (from + n + 1)) p x) ∙ ends h
