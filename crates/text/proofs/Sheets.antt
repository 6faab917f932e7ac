-- What text on a page comes to. Assumes nothing.
use mathlib.Core.Path.{◌≡◌, refl, sym, ap, ◌∙◌, subst}
use mathlib.Core.Bool.{Bool, true, false}
use mathlib.Core.List.{List, [], ◌∷◌, ◌++◌, append-nil, append_assoc}
use Prim.Native.Nat.{ℕ, zero, suc, ◌+◌, ◌≤◌, ◌<◌}
use native.Mathlib.Numerals.{add-one}
use native.Mathlib.Omega.{arith}
use borrow.Author.Tests.{lt-ltb, le-ltb, ltb-true, ltb-false}
use lib.Dec.{ltb}
use lib.ListN.{length, take, get_or, set, length-set}
use lib.Seq.{take-suc, take-suc-set, take-set-le}
use Rattle.text.specs.Sheet.{Sheet, sheet, page_of, place_of, lost, put_one, put_all, Puts}

-- one text and then the next is both as one
pub put-append : (s : Sheet) (a b : List ℕ) → put_all s (a ++ b) ≡ put_all (put_all s a) b
unfolding put_all
put-append s [] b = refl
put-append s (x ∷ a) b = put-append (put_one s x) a b

pub put-none : (s : Sheet) → put_all s [] ≡ s
unfolding put_all
put-none s = refl

-- a text was put, and then another
pub then : {old mid new : List ℕ} {at by to : ℕ} {a b : List ℕ} → Puts old at a mid by → Puts mid by b new to → Puts old at (a ++ b) new to
then {old} {mid} {new} {at} {by} {to} {a} {b} p q = record { is = q.is ∙ ap (λ (x : Sheet). put_all x b) p.is ∙ sym (put-append (sheet old at) a b) }

pub nothing : (page : List ℕ) (at : ℕ) → Puts page at [] page at
nothing page at = record { is = sym (put-none (sheet page at)) }

-- one byte more of a text
pub more : {old mid new : List ℕ} {at by to : ℕ} (text : List ℕ) (i : ℕ) → i < length text → Puts old at (take i text) mid by → Puts mid by (get_or text i 0 ∷ []) new to
    → Puts old at (take (i + 1) text) new to
more text i l p q = rw (add-one, take-suc text i 0) (then p q)

-- another name for the text
pub same : {old new : List ℕ} {at to : ℕ} {a b : List ℕ} → a ≡ b → Puts old at a new to → Puts old at b new to
same e p = record { is = p.is ∙ ap (put_all _) e }

-- another name for the place after it
pub placed : {old new text : List ℕ} {at to by : ℕ} → to ≡ by → Puts old at text new to → Puts old at text new by
placed {old} {new} {text} {at} e p = subst (λ (n : ℕ). Puts old at text new n) e p

pub put-room : (page : List ℕ) (at b : ℕ) → at < length page → Puts page at (b ∷ []) (set page at b) (at + 1)
unfolding put_all
put-room page at b l = record { is = rw (lt-ltb at (length page) l) }

pub put-lost : (page : List ℕ) (at b : ℕ) → length page ≤ at → Puts page at (b ∷ []) page lost
unfolding put_all
put-lost page at b l = record { is = rw (le-ltb at (length page) l) }

-- ## What then stands on the page

-- a page `old` on which a text was put from `at` on: it keeps its length and what stands before; and if the place after the text is on the
-- page, the text stands there whole
pub record Stands (old : List ℕ) (at : ℕ) (text new : List ℕ) (to : ℕ) : Type 0 where
  pub size : length new ≡ length old
  pub kept : take at new ≡ take at old
  pub whole : to ≤ length old → (to ≡ at + length text) × (take to new ≡ take at old ++ text)
  -- and it is on the page if there is room
  pub room : at + length text ≤ length old → to ≡ at + length text

put_in : (page : List ℕ) (at b : ℕ) → at < length page → put_one (sheet page at) b ≡ sheet (set page at b) (at + 1)
put_in page at b l = rw (lt-ltb at (length page) l)

put-out : (page : List ℕ) (at b : ℕ) → length page ≤ at → put_one (sheet page at) b ≡ sheet page lost
put-out page at b l = rw (le-ltb at (length page) l)

lost-stays : (page text : List ℕ) → length page < lost → put_all (sheet page lost) text ≡ sheet page lost
unfolding put_all
lost-stays page [] l = refl
lost-stays page (b ∷ bs) l = ap (λ (s : Sheet). put_all s bs) (put-out page lost b (omega arith)) ∙ lost-stays page bs l

stands-none : (page : List ℕ) (at : ℕ) → Stands page at [] page at
stands-none page at = record {
  size = refl;
  kept = refl;
  whole = λ l. (omega arith, sym (append-nil (take at page)));
  room = λ l. omega arith;
}

stands-lost : (page : List ℕ) (at b : ℕ) (bs : List ℕ) → length page < lost → length page ≤ at → Stands page at (b ∷ bs) page lost
stands-lost page at b bs l h = record {
  size = refl;
  kept = refl;
  whole = λ m. absurd (omega arith);
  room = λ m. absurd (omega arith);
}

take_less : (n : ℕ) (xs : List ℕ) → take n (take (suc n) xs) ≡ take n xs
take_less zero xs = refl
take_less (suc n) [] = refl
take_less (suc n) (x ∷ xs) = ap (λ (ys : List ℕ). x ∷ ys) (take_less n xs)

take-fewer : (n : ℕ) (xs : List ℕ) → take n (take (n + 1) xs) ≡ take n xs
take-fewer n xs = rw add-one (take_less n xs)

stands-more : (page new : List ℕ) (at b to : ℕ) (bs : List ℕ) → at < length page → Stands (set page at b) (at + 1) bs new to → Stands page at (b ∷ bs) new to
stands-more page new at b to bs l s =
    let size = length-set page at b in
    let one : take (at + 1) (set page at b) ≡ take at page ++ b ∷ [] = rw add-one (take-suc-set page at b l) in
    record {
      size = s.size ∙ size;
      kept = sym (take-fewer at new) ∙ ap (take at) s.kept ∙ take-fewer at (set page at b) ∙ take-set-le at page at b (omega arith);
      whole = λ m.
          let w = s.whole (omega arith) in
          (omega (arith, w.0), w.1 ∙ ap (λ (x : List ℕ). x ++ bs) one ∙ append_assoc (take at page) (b ∷ []) bs);
      room = λ m. let w = s.room (omega arith) in omega (arith, w);
    }

abbrev StandsBy : List ℕ → ℕ → List ℕ → Sheet → Type 0
StandsBy page at text s = Stands page at text (page_of s) (place_of s)

stands_by : (page : List ℕ) (at b : ℕ) (bs : List ℕ) → length page < lost → ((q : List ℕ) (n : ℕ) → length q < lost → StandsBy q n bs (put_all (sheet q n) bs))
    → (t : Bool) → ltb at (length page) ≡ t → StandsBy page at (b ∷ bs) (put_all (put_one (sheet page at) b) bs)
stands_by page at b bs l later true e =
    let h = ltb-true at (length page) e in
    let size = length-set page at b in
    subst (λ (s : Sheet). StandsBy page at (b ∷ bs) (put_all s bs)) (sym (put_in page at b h))
    (stands-more page _ at b _ bs h (later (set page at b) (at + 1) (omega arith)))
stands_by page at b bs l later false e =
    let h = ltb-false at (length page) e in
    subst (StandsBy page at (b ∷ bs)) (sym (ap (λ (s : Sheet). put_all s bs) (put-out page at b h) ∙ lost-stays page bs l)) (stands-lost page at b bs l h)

stands_from : (text page : List ℕ) (at : ℕ) → length page < lost → StandsBy page at text (put_all (sheet page at) text)
unfolding put_all
stands_from [] page at l = stands-none page at
stands_from (b ∷ bs) page at l = stands_by page at b bs l (λ q n m. stands_from bs q n m) (ltb at (length page)) refl

pub stands : {old new : List ℕ} {at to : ℕ} {text : List ℕ} → length old < lost → Puts old at text new to → Stands old at text new to
stands {old} {new} {at} {to} {text} l p = subst (StandsBy old at text) (sym p.is) (stands_from text old at l)
