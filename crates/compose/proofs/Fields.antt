-- The fields of a line after a place where one ends. Assumes nothing.
use mathlib.Core.Path.{◌≡◌, sym, ap, ◌∙◌}
use mathlib.Core.Logic.{⊎_elim}
use mathlib.Core.Bool.{Bool, true, false}
use mathlib.Core.List.{List, [], ◌∷◌}
use Prim.Native.Nat.{ℕ, ◌+◌, ◌-◌, ◌≤◌, ◌<◌}
use native.Mathlib.Omega.{arith}
use borrow.Author.Tests.{lt-ltb, le-ltb, eq-eqb, ne_eqb}
use lib.Dec.{eqb}
use lib.ListN.{length, take, drop, get_or}
use lib.Seq.{drop-drop}
use Rattle.bits.specs.Bits.{pick}
use Rattle.bits.proofs.Written.{below}
use Rattle.columns.specs.Parts.{space, part_end_lem, parts_of, field}
use Rattle.columns.proofs.Cuts.{part-last, part-more}
use Rattle.compose.specs.Answers.{is_t_lem, leading}
use Rattle.compose.specs.Clauses.{fields_after}

module _ (line : List ℕ) where
  pub none_after : (end : ℕ) → length line ≤ end → fields_after end line ≡ []
  none_after end l = rw (le-ltb end (length line) l)

  some_after : (end : ℕ) → end < length line → fields_after end line ≡ parts_of space (drop (end + 1) line)
  some_after end l = rw (lt-ltb end (length line) l)

  -- the fields that start at a place: the first ends where `field_end` says, and the others come after it
  pub cut : (from : ℕ) {end : ℕ} → from ≤ length line → end ≡ part_end_lem space from line → end ≤ length line
      → parts_of space (drop from line) ≡ take (end - from) (drop from line) ∷ fields_after end line
  cut from {end} h e l = ⊎_elim
      (λ (k : end < length line). part-more space line from end h e k ∙ ap (λ (ps : List (List ℕ)). take (end - from) (drop from line) ∷ ps) (sym (some_after end k)))
      (λ (k : length line ≤ end).
      part-last space line from end h e (omega arith) ∙ ap (λ (ps : List (List ℕ)). take (end - from) (drop from line) ∷ ps) (sym (none_after end k)))
      (below end (length line))

  -- a field more
  pub next_field : (from : ℕ) {end : ℕ} → from < length line → end ≡ part_end_lem space (from + 1) line → end ≤ length line
      → fields_after from line ≡ take (end - (from + 1)) (drop (from + 1) line) ∷ fields_after end line
  next_field from h e l = some_after from h ∙ cut (from + 1) (omega arith) e l

  pub skip-one : (from : ℕ) {end : ℕ} → from < length line → end ≡ part_end_lem space (from + 1) line → end ≤ length line → fields_after end line ≡ drop 1 (fields_after from line)
  skip-one from h e l = sym (ap (drop 1) (next_field from h e l))

  pub skip-none : (from : ℕ) → length line ≤ from → fields_after from line ≡ drop 1 (fields_after from line)
  skip-none from l = none_after from l ∙ sym (ap (drop 1) (none_after from l))

  -- all but the first
  pub first-skipped : {end : ℕ} → end ≡ part_end_lem space 0 line → end ≤ length line → fields_after end line ≡ drop 1 (parts_of space line)
  first-skipped e l = sym (ap (drop 1) (cut 0 (omega arith) e l))

  -- the values come after one field, or after three
  module _ {first : List ℕ} {t : Bool} (e : first ≡ field line 0) (f : t ≡ is_t_lem first) where
    pub after_one : (a : ℕ) → fields_after a line ≡ drop 1 (parts_of space line) → t ≡ false → fields_after a line ≡ drop (leading line) (parts_of space line)
    after_one a h g = h ∙ ap (λ (n : Bool). drop (pick n 3 1) (parts_of space line)) (sym g ∙ f ∙ ap is_t_lem e)

    pub after-three : (a b d : ℕ) → fields_after a line ≡ drop 1 (parts_of space line) → fields_after b line ≡ drop 1 (fields_after a line) → fields_after d line ≡ drop 1 (fields_after b line) → t ≡ true
        → fields_after d line ≡ drop (leading line) (parts_of space line)
    after-three a b d h k m g =
        m ∙ ap (drop 1) (k ∙ ap (drop 1) h ∙ drop-drop 1 1 (parts_of space line)) ∙ drop-drop 1 2 (parts_of space line)
        ∙ ap (λ (n : Bool). drop (pick n 3 1) (parts_of space line)) (sym g ∙ f ∙ ap is_t_lem e)

-- ## T

pub t-not-one : (s : List ℕ) → (length s ≡ 1 → ⊥) → false ≡ is_t_lem s
t-not-one s n = rw (ne_eqb (length s) 1 n)

pub t-one : (s : List ℕ) → length s ≡ 1 → eqb (get_or s 0 0) 84 ≡ is_t_lem s
t-one s e = rw (eq-eqb (length s) 1 e)
