-- Codes, as they are read from the words of a line. Assumes nothing.
use mathlib.Core.Path.{◌≡◌, ap, ◌∙◌}
use mathlib.Core.Bool.{true}
use mathlib.Core.List.{List}
use Prim.Native.Nat.{ℕ, ◌≤◌, ◌<◌}
use native.Mathlib.Omega.{arith}
use borrow.Author.Tests.{lt-ltb, le-ltb}
use lib.ListN.{length}
use Rattle.columns.specs.Parts.{space, parts_of, field, marks_in}
use Rattle.columns.specs.Names.{place_in}
use Rattle.std.specs.Prelude.{Option, None}
use Rattle.columns.proofs.Cuts.{parts-marks}
use Rattle.numbercalls.specs.Names.{kind_names, sign_names, mark_names}
use Rattle.numbercalls.specs.Fields.{code_if_lem, placed, numbered, named, kind_in, width_in, sign_in, mark_in}

-- ## The place of a name

module _ (name words : List ℕ) {p last : ℕ} (e : p ≡ place_in name (parts_of space words)) (f : last ≡ marks_in space words) where
  pub no_place : last < p → None ≡ placed name (parts_of space words)
  unfolding placed
  no_place l =
      let far : length (parts_of space words) ≤ p = omega (arith, parts-marks space words) in
      rw (← e, le-ltb p (length (parts_of space words)) far)

  pub a_place : p ≤ last → {r : Option ℕ} → r ≡ code_if_lem true p → r ≡ placed name (parts_of space words)
  unfolding placed
  a_place l h =
      let near : p < length (parts_of space words) = omega (arith, parts-marks space words) in
      rw (← e, lt-ltb p (length (parts_of space words)) near) h

-- ## The words of a line

module _ (line : List ℕ) {r : Option ℕ} {w : List ℕ} where
  pub kind : w ≡ field line 1 → r ≡ named w kind_names → r ≡ kind_in line
  unfolding kind_in
  kind e h = h ∙ ap (λ (w : List ℕ). named w kind_names) e

  pub width : w ≡ field line 2 → r ≡ numbered w → r ≡ width_in line
  unfolding width_in
  width e h = h ∙ ap numbered e

  pub sign : w ≡ field line 3 → r ≡ placed w sign_names → r ≡ sign_in line
  unfolding sign_in
  sign e h = h ∙ ap (λ (w : List ℕ). placed w sign_names) e

  pub mark : w ≡ field line 4 → r ≡ named w mark_names → r ≡ mark_in line
  unfolding mark_in
  mark e h = h ∙ ap (λ (w : List ℕ). named w mark_names) e
