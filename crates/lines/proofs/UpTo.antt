-- A chunk, line by line: a call takes it up to its first newline, where a line is answered, or all of it where there is none. Assumes nothing.
use mathlib.Core.Path.{◌≡◌, sym, ap, ◌∙◌}
use mathlib.Core.Bool.{Bool, true, false}
use mathlib.Core.List.{List, [], ◌∷◌}
use Prim.Native.Nat.{ℕ, suc, ◌+◌, ◌≤◌, ◌<◌}
use native.Mathlib.Omega.{arith}
use lib.Dec.{eqb}
use lib.ListN.{length, drop, length-drop}
use lib.Seq.{drop-drop}
use Rattle.bits.specs.Bits.{pick}
use Rattle.text.specs.Sheet.{Sheet, page_of, place_of}
use Rattle.lines.specs.Machine.{Machine, Passed, passed, newline, up_to_newline, feds, answered_or, pass_from}

pub up_le : (xs : List ℕ) → length (up_to_newline xs) ≤ length xs
unfolding up_to_newline
up_le [] = omega arith
up_le (b ∷ bs) = go (eqb b newline) (up_le bs)
  where
    go : (t : Bool) → length (up_to_newline bs) ≤ length bs → length (pick t [] (b ∷ up_to_newline bs)) ≤ suc (length bs)
    go true h = omega arith
    go false h = omega arith

module _ {K : Type 0} (m : Machine K) where
  -- no newline: all of it belongs to the line
  open_by : (k : K) (b : ℕ) (bs : List ℕ) (n : ℕ) (s : Sheet) (t : Bool) (r : Passed K) → length (pick t [] (b ∷ up_to_newline bs)) ≡ suc (length bs)
      → (length (up_to_newline bs) ≡ length bs → r ≡ passed (feds m (m.fed k b) (up_to_newline bs)) false (n + 1 + length bs) (page_of s) (place_of s)) → (r₁ : Passed K)
      → pick t r₁ r ≡ passed (feds m k (pick t [] (b ∷ up_to_newline bs))) false (n + suc (length bs)) (page_of s) (place_of s)
  unfolding feds
  open_by k b bs n s true r h later r₁ = absurd (omega arith)
  open_by k b bs n s false r h later r₁ =
      let e : n + 1 + length bs ≡ n + suc (length bs) = omega arith in
      later (omega arith) ∙ ap (λ (i : ℕ). passed (feds m (m.fed k b) (up_to_newline bs)) false i (page_of s) (place_of s)) e

  pub all-taken : (k : K) (xs : List ℕ) (n : ℕ) (s : Sheet) → length (up_to_newline xs) ≡ length xs
      → pass_from m k xs n s ≡ passed (feds m k (up_to_newline xs)) false (n + length xs) (page_of s) (place_of s)
  unfolding pass_from up_to_newline feds
  all-taken k [] n s h = let e : n ≡ n + 0 = omega arith in ap (λ (i : ℕ). passed k false i (page_of s) (place_of s)) e
  all-taken k (b ∷ bs) n s h = open_by k b bs n s (eqb b newline) _ h (all-taken (m.fed k b) bs (n + 1) s) _

  -- the answer to the line that ends first, and what is done with the bytes after it
  abbrev Ends : K → List ℕ → List ℕ → ℕ → Sheet → Passed K
  Ends k line rest n s = answered_or m (feds m k line) n s (pass_from m (m.fresh (feds m k line)) rest n)

  shut_by : (k : K) (b : ℕ) (bs : List ℕ) (n : ℕ) (s : Sheet) (t : Bool) (r : Passed K) → length (pick t [] (b ∷ up_to_newline bs)) < suc (length bs)
      → (length (up_to_newline bs) < length bs → r ≡ Ends (m.fed k b) (up_to_newline bs) (drop (length (up_to_newline bs) + 1) bs) (n + 1 + length (up_to_newline bs) + 1) s)
      → let up = pick t [] (b ∷ up_to_newline bs) in pick t (Ends k [] bs (n + 1) s) r ≡ Ends k up (drop (length up + 1) (b ∷ bs)) (n + length up + 1) s
  unfolding feds
  shut_by k b bs n s true r h later = let e : n + 1 ≡ n + 0 + 1 = omega arith in ap (λ (i : ℕ). Ends k [] bs i s) e
  shut_by k b bs n s false r h later =
      let u = length (up_to_newline bs) in
      let e : suc (u + 1) ≡ suc u + 1 = omega arith in
      let f : n + 1 + u + 1 ≡ n + suc u + 1 = omega arith in
      later (omega arith)
      ∙ ap (λ (i : ℕ). Ends (m.fed k b) (up_to_newline bs) (drop (u + 1) bs) i s) f
      ∙ ap (λ (i : ℕ). Ends (m.fed k b) (up_to_newline bs) (drop i (b ∷ bs)) (n + suc u + 1) s) e

  pub line-ends : (k : K) (xs : List ℕ) (n : ℕ) (s : Sheet) → length (up_to_newline xs) < length xs
      → pass_from m k xs n s
      ≡ answered_or m (feds m k (up_to_newline xs)) (n + length (up_to_newline xs) + 1) s
      (pass_from m (m.fresh (feds m k (up_to_newline xs))) (drop (length (up_to_newline xs) + 1) xs) (n + length (up_to_newline xs) + 1))
  unfolding pass_from up_to_newline feds
  line-ends k [] n s h = absurd (omega arith)
  line-ends k (b ∷ bs) n s h = shut_by k b bs n s (eqb b newline) _ h (line-ends (m.fed k b) bs (n + 1) s)

  -- ## The same of a chunk of which `from` bytes are taken

  module _ (k : K) (input : List ℕ) (from : ℕ) (s : Sheet) where
    pub rest-taken : from ≤ length input → length input ≤ from + length (up_to_newline (drop from input))
        → pass_from m k (drop from input) from s
        ≡ passed (feds m k (up_to_newline (drop from input))) false (from + length (up_to_newline (drop from input))) (page_of s) (place_of s)
    rest-taken h l =
        let xs = drop from input in
        let size = length-drop from input in
        let few = up_le xs in
        let all : length (up_to_newline xs) ≡ length xs = omega arith in
        all-taken k xs from s all ∙ ap (λ (i : ℕ). passed (feds m k (up_to_newline xs)) false (from + i) (page_of s) (place_of s)) (sym all)

    pub rest-ends : from + length (up_to_newline (drop from input)) < length input
        → let n = from + length (up_to_newline (drop from input)) + 1 in pass_from m k (drop from input) from s
        ≡ answered_or m (feds m k (up_to_newline (drop from input))) n s (pass_from m (m.fresh (feds m k (up_to_newline (drop from input)))) (drop n input) n)
    rest-ends l =
        let xs = drop from input in
        let u = length (up_to_newline xs) in
        let size = length-drop from input in
        let e : from + (u + 1) ≡ from + u + 1 = omega arith in
        line-ends k xs from s (omega arith)
        ∙ ap (λ (ys : List ℕ). Ends k (up_to_newline xs) ys (from + u + 1) s) (drop-drop (u + 1) from input ∙ ap (λ (i : ℕ). drop i input) e)
