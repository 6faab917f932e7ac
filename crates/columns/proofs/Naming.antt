-- A text is one name, and the place of a name goes word by word. Assumes nothing.
use mathlib.Core.Path.{◌≡◌, refl, sym, ap, ◌∙◌}
use mathlib.Core.Bool.{Bool, true, false}
use mathlib.Core.List.{List, [], ◌∷◌}
use Prim.Native.Nat.{ℕ, suc, ◌+◌, ◌-◌, ◌≤◌, ◌<◌}
use native.Mathlib.Omega.{arith}
use borrow.Author.Tests.{eq-eqb, eqb-true}
use lib.Dec.{eqb}
use lib.ListN.{length, take, drop}
use Rattle.bits.specs.Bits.{pick}
use Rattle.hexadecimal.proofs.Inverse.{both}
use Rattle.columns.specs.Parts.{part_end_lem, parts_of}
use Rattle.columns.specs.Names.{same, place_in}
use Rattle.columns.proofs.Cuts.{part-last, part-more, part-first}

same-all : (xs : List ℕ) → same xs xs ≡ true
unfolding same
same-all [] = refl
same-all (x ∷ xs) = rw (eq-eqb x x refl) (same-all xs)

no : {A : Type 0} → false ≡ true → A
no e = let z : ◌≡◌ {A = ℕ} 0 1 = cc in absurd (omega arith)

same-is : (xs ys : List ℕ) → same xs ys ≡ true → xs ≡ ys
unfolding same
same-is [] [] e = refl
same-is [] (y ∷ ys) e = no e
same-is (x ∷ xs) [] e = no e
same-is (x ∷ xs) (y ∷ ys) e =
    let h = both (eqb x y) (same xs ys) e in
    let first = eqb-true x y h.0 in
    let rest = same-is xs ys h.1 in
    cc

pub told : (r : Bool) (xs ys : List ℕ) → (r ≡ true → xs ≡ ys) × (xs ≡ ys → r ≡ true) → r ≡ same xs ys
told true xs ys h = sym (same-all xs) ∙ ap (same xs) (h.0 refl)
told false xs ys h = go (same xs ys) refl
  where
    go : (t : Bool) → same xs ys ≡ t → false ≡ same xs ys
    go true e = no (h.1 (same-is xs ys e))
    go false e = sym e

-- ## The place of a name, word by word

-- from the word on that starts at `from` and ends at `end`
module _ (name : List ℕ) (mark : ℕ) (s : List ℕ) (from end : ℕ) (h : from ≤ length s) (e : end ≡ part_end_lem mark from s) where
  abbrev word : List ℕ
  word = take (end - from) (drop from s)

  pub at_name : end ≤ length s → same name word ≡ true → place_in name (parts_of mark (drop from s)) ≡ 0
  unfolding place_in
  at_name l g = let f = part-first mark s from end h e l in ap (place_in name) f.1 ∙ ap (λ (t : Bool). pick t 0 (suc (place_in name f.0))) g

  pub at_last : end ≡ length s → same name word ≡ false → place_in name (parts_of mark (drop from s)) ≡ 1
  unfolding place_in
  at_last l g = ap (place_in name) (part-last mark s from end h e l) ∙ ap (λ (t : Bool). pick t 0 1) g

  pub at_other : end < length s → same name word ≡ false → place_in name (parts_of mark (drop from s)) ≡ suc (place_in name (parts_of mark (drop (end + 1) s)))
  unfolding place_in
  at_other l g =
      ap (place_in name) (part-more mark s from end h e l)
      ∙ ap (λ (t : Bool). pick t 0 (suc (place_in name (parts_of mark (drop (end + 1) s))))) g
