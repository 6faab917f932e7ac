-- A program prints what its lines alone say, if what it holds answers to the line so far: `R k l`, k is held of the line l. Assumes nothing.
use mathlib.Core.Path.{◌≡◌, refl, ap, ap₂, ◌∙◌}
use mathlib.Core.Bool.{Bool, true, false}
use mathlib.Core.List.{List, [], ◌∷◌, ◌++◌}
use Prim.Native.Nat.{ℕ, suc, ◌+◌, ◌<◌}
use native.Mathlib.Omega.{arith}
use borrow.Author.Tests.{eqb-false}
use lib.Dec.{eqb}
use lib.ListN.{length, length-append}
use Rattle.bits.specs.Bits.{pick}
use Rattle.lines.specs.Machine.{Machine, newline, text_from, plain, closed, text_of}

-- lines of `most` bytes or more may be left out: no count holds their length
module _ {K : Type 0} (m : Machine K) (answered : List ℕ → List ℕ) (most : ℕ) (R : K → List ℕ → Type 0)
    (fed : (k : K) (l : List ℕ) (b : ℕ) → (b ≡ newline → ⊥) → R k l → R (m.fed k b) (l ++ b ∷ []))
    (fresh : (k : K) (l : List ℕ) → R k l → R (m.fresh k) [])
    (answers : (k : K) (l : List ℕ) → R k l → length l < most → m.answer k ≡ answered l) where
  by-newline : (k : K) (l : List ℕ) (b : ℕ) (bs : List ℕ) (t : Bool) → eqb b newline ≡ t → R k l → length l + suc (length bs) < most
      → ((x : K) (y : List ℕ) → R x y → length y + length bs < most → text_from m x bs ≡ text_from (plain answered) y bs)
      → pick t (m.answer k ++ text_from m (m.fresh k) bs) (text_from m (m.fed k b) bs)
      ≡ pick t (answered l ++ text_from (plain answered) [] bs) (text_from (plain answered) (l ++ b ∷ []) bs)
  by-newline k l b bs true e r h later = ap₂ ◌++◌ (answers k l r (omega arith)) (later (m.fresh k) [] (fresh k l r) (omega arith))
  by-newline k l b bs false e r h later =
      let size = length-append l (b ∷ []) in
      later (m.fed k b) (l ++ b ∷ []) (fed k l b (eqb-false b newline e) r) (omega arith)

  pub alike : (k : K) (l input : List ℕ) → R k l → length l + length input < most → text_from m k input ≡ text_from (plain answered) l input
  unfolding text_from
  alike k l [] r h = refl
  alike k l (b ∷ bs) r h = by-newline k l b bs (eqb b newline) refl r h (λ x y. alike x y bs)

-- two programs that answer every line alike
pub same_text : (f g : List ℕ → List ℕ) → ((line : List ℕ) → f line ≡ g line) → (input : List ℕ) → text_of f input ≡ text_of g input
same_text f g e input =
    alike (plain f) g (suc (length (closed input))) (λ k l. k ≡ l) (λ k l b n r. ap (λ (x : List ℕ). x ++ b ∷ []) r) (λ k l r. refl) (λ k l r h. ap f r ∙ e l) [] [] (closed input)
    refl (omega arith)
