-- Where a part ends, and the parts from a place on. Assumes nothing.
use mathlib.Core.Path.{◌≡◌, refl, sym, ap, ap₂, ◌∙◌}
use mathlib.Core.Logic.{⊎_elim}
use mathlib.Core.Bool.{Bool, true, false}
use mathlib.Core.List.{List, [], ◌∷◌}
use Prim.Native.Nat.{ℕ, suc, ◌+◌, ◌-◌, ◌≤◌, ◌<◌}
use native.Mathlib.Omega.{arith}
use borrow.Author.Tests.{eq-eqb, ne_eqb}
use lib.Dec.{eqb}
use lib.ListN.{length, take, drop, get_or, length-drop, drop_of_length-le}
use lib.Seq.{take_all, drop-drop}
use Rattle.bits.proofs.Written.{below}
use Rattle.bits.specs.Bits.{pick}
use Rattle.columns.specs.Parts.{before, part_end_lem, longer, parts_of, marks_in}
use Rattle.columns.proofs.Lists.{next}

-- ## From a place on

module _ (mark : ℕ) (s : List ℕ) (i : ℕ) where
  pub before-end : length s ≤ i → before mark (drop i s) ≡ 0
  unfolding before
  before-end h = ap (before mark) (drop_of_length-le s h)

  pub before-mark : i < length s → get_or s i 0 ≡ mark → before mark (drop i s) ≡ 0
  unfolding before
  before-mark l e = ap (before mark) (next s i l) ∙ ap (λ (t : Bool). pick t 0 (suc (before mark (drop (i + 1) s)))) (eq-eqb (get_or s i 0) mark e)

  pub before-other : i < length s → (get_or s i 0 ≡ mark → ⊥) → before mark (drop i s) ≡ suc (before mark (drop (i + 1) s))
  unfolding before
  before-other l n = ap (before mark) (next s i l) ∙ ap (λ (t : Bool). pick t 0 (suc (before mark (drop (i + 1) s)))) (ne_eqb (get_or s i 0) mark n)

  pub marks-end : length s ≤ i → marks_in mark (drop i s) ≡ 0
  unfolding marks_in
  marks-end h = ap (marks_in mark) (drop_of_length-le s h)

  pub marks-mark : i < length s → get_or s i 0 ≡ mark → marks_in mark (drop i s) ≡ 1 + marks_in mark (drop (i + 1) s)
  unfolding marks_in
  marks-mark l e = ap (marks_in mark) (next s i l) ∙ ap (λ (t : Bool). pick t 1 0 + marks_in mark (drop (i + 1) s)) (eq-eqb (get_or s i 0) mark e)

  pub marks-other : i < length s → (get_or s i 0 ≡ mark → ⊥) → marks_in mark (drop i s) ≡ 0 + marks_in mark (drop (i + 1) s)
  unfolding marks_in
  marks-other l n = ap (marks_in mark) (next s i l) ∙ ap (λ (t : Bool). pick t 1 0 + marks_in mark (drop (i + 1) s)) (ne_eqb (get_or s i 0) mark n)

-- ## The first part, and the others

-- no mark: all is one part
last : (mark : ℕ) (s : List ℕ) → before mark s ≡ length s → parts_of mark s ≡ s ∷ []
unfolding before parts_of
last mark [] e = refl
last mark (b ∷ bs) e = by (eqb b mark) (last mark bs) e
  where
    by : (t : Bool) → (before mark bs ≡ length bs → parts_of mark bs ≡ bs ∷ []) → pick t 0 (suc (before mark bs)) ≡ suc (length bs)
        → pick t ([] ∷ parts_of mark bs) (longer b (parts_of mark bs)) ≡ (b ∷ bs) ∷ []
    by true ih h = absurd (omega arith)
    by false ih h = ap (longer b) (ih (omega arith))

-- a mark: what stands before it is a part, and what follows it has the others
more : (mark : ℕ) (s : List ℕ) → before mark s < length s → parts_of mark s ≡ take (before mark s) s ∷ parts_of mark (drop (suc (before mark s)) s)
unfolding before parts_of
more mark [] l = absurd (omega arith)
more mark (b ∷ bs) l = by (eqb b mark) (more mark bs) l
  where
    by : (t : Bool) → (before mark bs < length bs → parts_of mark bs ≡ take (before mark bs) bs ∷ parts_of mark (drop (suc (before mark bs)) bs))
        → pick t 0 (suc (before mark bs)) < suc (length bs)
        → pick t ([] ∷ parts_of mark bs) (longer b (parts_of mark bs))
        ≡ take (pick t 0 (suc (before mark bs))) (b ∷ bs) ∷ parts_of mark (drop (suc (pick t 0 (suc (before mark bs)))) (b ∷ bs))
    by true ih h = refl
    by false ih h = ap (longer b) (ih (omega arith))

-- there is one part more than there are marks
pub parts-marks : (mark : ℕ) (s : List ℕ) → length (parts_of mark s) ≡ suc (marks_in mark s)
unfolding parts_of marks_in
parts-marks mark [] = refl
parts-marks mark (b ∷ bs) = by (eqb b mark) (parts-marks mark bs)
  where
    size : (ps : List (List ℕ)) → 0 < length ps → length (longer b ps) ≡ length ps
    size [] l = absurd (omega arith)
    size (p ∷ ps) l = refl

    by : (t : Bool) → length (parts_of mark bs) ≡ suc (marks_in mark bs)
        → length (pick t ([] ∷ parts_of mark bs) (longer b (parts_of mark bs))) ≡ suc (pick t 1 0 + marks_in mark bs)
    by true ih = omega arith
    by false ih = size (parts_of mark bs) (omega arith) ∙ omega arith

-- the part that starts at `from` and ends at `end`
module _ (mark : ℕ) (s : List ℕ) (from end : ℕ) (h : from ≤ length s) (e : end ≡ part_end_lem mark from s) where
  pub part-last : end ≡ length s → parts_of mark (drop from s) ≡ take (end - from) (drop from s) ∷ []
  part-last f =
      last mark (drop from s) (omega (arith, length-drop from s))
      ∙ ap (λ (p : List ℕ). p ∷ []) (sym (take_all (end - from) (drop from s) (omega (arith, length-drop from s))))

  pub part-more : end < length s → parts_of mark (drop from s) ≡ take (end - from) (drop from s) ∷ parts_of mark (drop (end + 1) s)
  part-more l =
      let n : ℕ = before mark (drop from s) in
      let a : n ≡ end - from = omega arith in
      let b : from + suc n ≡ end + 1 = omega arith in
      more mark (drop from s) (omega (arith, length-drop from s))
      ∙ ap₂ (λ (p q : List ℕ). p ∷ parts_of mark q) (ap (λ (k : ℕ). take k (drop from s)) a) (drop-drop (suc n) from s ∙ ap (λ (k : ℕ). drop k s) b)

  -- in either case it comes first
  pub part-first : end ≤ length s → (rest : List (List ℕ)) × (parts_of mark (drop from s) ≡ take (end - from) (drop from s) ∷ rest)
  part-first l = ⊎_elim (λ (k : end < length s). (_, part-more k)) (λ (k : length s ≤ end). (_, part-last (omega arith))) (below end (length s))

  -- by their places
  pub place-first : end ≤ length s → get_or (parts_of mark (drop from s)) 0 [] ≡ take (end - from) (drop from s)
  place-first l = ap (λ (ps : List (List ℕ)). get_or ps 0 []) (part-first l).1

  pub place-last : (n : ℕ) → end ≡ length s → get_or (parts_of mark (drop from s)) (suc n) [] ≡ []
  place-last n f = ap (λ (ps : List (List ℕ)). get_or ps (suc n) []) (part-last f)

  pub place-more : (n : ℕ) → end < length s → get_or (parts_of mark (drop from s)) (suc n) [] ≡ get_or (parts_of mark (drop (end + 1) s)) n []
  place-more n l = ap (λ (ps : List (List ℕ)). get_or ps (suc n) []) (part-more l)
