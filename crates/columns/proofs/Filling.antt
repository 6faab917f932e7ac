-- What is stored, one value after the other, and when. Assumes nothing.
use mathlib.Core.Path.{◌≡◌, refl, sym, ap, ap₂, ◌∙◌}
use mathlib.Core.Bool.{Bool, true, false, ◌&&◌, and-false}
use mathlib.Core.List.{List, [], ◌∷◌}
use Prim.Native.Nat.{ℕ, zero, suc, ◌+◌, ◌-◌, ◌*◌, ◌/◌, ◌%◌, ◌≤◌, ◌<◌}
use native.Mathlib.Omega.{arith}
use borrow.Author.Tests.{le-leb, lt-leb, eq-eqb, ne_eqb}
use lib.Dec.{eqb}
use lib.ListN.{length, take, drop, get_or, length-drop, length-map}
use Rattle.std.specs.Prelude.{is_some, unwrap_or}
use Rattle.hexadecimal.specs.Digits.{value_of, all_digits_lem, pairs_of}
use Rattle.hexadecimal.proofs.Inverse.{heads, length_pairs}
use Rattle.columns.specs.Parts.{part_end_lem, parts_of}
use Rattle.columns.specs.Numbers.{hex_in, all_below}
use Rattle.columns.specs.Runs.{run, no_run, run_if, filled, over, filled_if, dash, pairs_in, bytes_in_lem, all_numbers, values_of, words_in}
use Rattle.columns.proofs.Lists.{next}
use Rattle.columns.proofs.Cuts.{part-last, part-more, part-first}

-- the next value, and the others
pub value-next : (vs : List ℕ) (n x : ℕ) (xs : List ℕ) → drop n vs ≡ x ∷ xs → (n < length vs) × ((get_or vs n 0 ≡ x) × (drop (n + 1) vs ≡ xs))
value-next vs n x xs e =
    let l : n < length vs = omega (arith, ap length e, length-drop n vs) in
    let f = next vs n l in
    (l, (cc, cc))

-- ## Digits

pub below-digits : (s : List ℕ) → all_below 16 s ≡ all_digits_lem s
unfolding all_below all_digits_lem
below-digits [] = refl
below-digits (b ∷ bs) = rw (below-digits bs)

pub digit_at : (s : List ℕ) (i : ℕ) → all_digits_lem s ≡ true → i < length s → value_of (get_or s i 0) < 16
digit_at [] i e l = absurd (omega arith)
digit_at (b ∷ bs) zero e l = (heads b bs e).0
digit_at (b ∷ bs) (suc i) e l = digit_at bs i (heads b bs e).1 (omega arith)

pub pair-at : (s : List ℕ) (k : ℕ) → k < length s / 2 → get_or (pairs_of s) k 0 ≡ value_of (get_or s (2 * k) 0) * 16 + value_of (get_or s (2 * k + 1) 0)
unfolding pairs_of
pair-at [] k l = absurd (omega arith)
pair-at (h ∷ []) k l = absurd (omega arith)
pair-at (h ∷ m ∷ bs) zero l = refl
pair-at (h ∷ m ∷ bs) (suc k) l =
    let e : 2 * suc k ≡ suc (suc (2 * k)) = omega arith in
    let f : 2 * suc k + 1 ≡ suc (suc (2 * k + 1)) = omega arith in
    pair-at bs k (omega arith)
    ∙ sym (ap₂ (λ (x y : ℕ). value_of (get_or (h ∷ m ∷ bs) x 0) * 16 + value_of (get_or (h ∷ m ∷ bs) y 0)) e f)

-- ## When it is stored

module _ (s old : List ℕ) where
  pub pairs-odd : (length s % 2 ≡ 0 → ⊥) → filled no_run old ≡ pairs_in s old
  unfolding pairs_in
  pairs-odd n = simp (ne_eqb (length s % 2) 0 n)

  pub pairs-full : length old < length s / 2 → filled no_run old ≡ pairs_in s old
  unfolding pairs_in
  pairs-full l = simp (lt-leb (length s / 2) (length old) l, and-false)

  pub pairs-other : all_digits_lem s ≡ false → filled no_run old ≡ pairs_in s old
  unfolding pairs_in
  pairs-other e = simp (e, and-false)

  pub pairs-good : length s % 2 ≡ 0 → length s / 2 ≤ length old → all_digits_lem s ≡ true → pairs_in s old ≡ filled (run (length s / 2)) (over (pairs_of s) old)
  unfolding pairs_in
  pairs-good z l e =
      simp (eq-eqb (length s % 2) 0 z, le-leb (length s / 2) (length old) l, e) (ap (λ (n : ℕ). filled (run n) (over (pairs_of s) old)) (length_pairs s))

pub bytes-none : (s old : List ℕ) → length s ≡ 0 → filled no_run old ≡ bytes_in_lem s old
unfolding bytes_in_lem
bytes-none [] old e = refl
bytes-none (b ∷ bs) old e = absurd (omega arith)

pub bytes_one : (s old : List ℕ) → length s ≡ 1 → bytes_in_lem s old ≡ filled_if (eqb (get_or s 0 0) dash) [] old
unfolding bytes_in_lem
bytes_one [] old e = absurd (omega arith)
bytes_one (b ∷ []) old e = refl
bytes_one (b ∷ c ∷ bs) old e = absurd (omega arith)

pub bytes-more : (s old : List ℕ) → 1 < length s → pairs_in s old ≡ bytes_in_lem s old
unfolding bytes_in_lem
bytes-more [] old l = absurd (omega arith)
bytes-more (b ∷ []) old l = absurd (omega arith)
bytes-more (b ∷ c ∷ bs) old l = refl

-- ## Numbers

pub run-good : (t : Bool) (n : ℕ) → is_some (run_if t n) ≡ t
run-good true n = refl
run-good false n = refl

numbers-not : (p : List ℕ) (ps : List (List ℕ)) → is_some (hex_in p) ≡ false → all_numbers (p ∷ ps) ≡ false
unfolding all_numbers
numbers-not p ps e = ap (λ (t : Bool). t && all_numbers ps) e

numbers_more : (p : List ℕ) (ps : List (List ℕ)) → is_some (hex_in p) ≡ true → all_numbers (p ∷ ps) ≡ all_numbers ps
unfolding all_numbers
numbers_more p ps e = ap (λ (t : Bool). t && all_numbers ps) e

numbers-none : all_numbers [] ≡ true
unfolding all_numbers
numbers-none = refl

-- from the part on that starts at `from` and ends at `end`
module _ (mark : ℕ) (s : List ℕ) (from end : ℕ) (h : from ≤ length s) (e : end ≡ part_end_lem mark from s) where
  pub count-other : end ≤ length s → is_some (hex_in (take (end - from) (drop from s))) ≡ false → all_numbers (parts_of mark (drop from s)) ≡ false
  count-other l g = let f = part-first mark s from end h e l in ap all_numbers f.1 ∙ numbers-not (take (end - from) (drop from s)) f.0 g

  pub count-last : end ≡ length s → is_some (hex_in (take (end - from) (drop from s))) ≡ true
      → (all_numbers (parts_of mark (drop from s)) ≡ true) × (length (parts_of mark (drop from s)) ≡ 1)
  count-last l g =
      let f = part-last mark s from end h e l in
      (ap all_numbers f ∙ numbers_more (take (end - from) (drop from s)) [] g ∙ numbers-none, ap length f)

  pub count-more : end < length s → is_some (hex_in (take (end - from) (drop from s))) ≡ true
      → (all_numbers (parts_of mark (drop from s)) ≡ all_numbers (parts_of mark (drop (end + 1) s)))
      × (length (parts_of mark (drop from s)) ≡ suc (length (parts_of mark (drop (end + 1) s))))
  count-more l g =
      let f = part-more mark s from end h e l in
      (ap all_numbers f ∙ numbers_more (take (end - from) (drop from s)) (parts_of mark (drop (end + 1) s)) g, ap length f)

module _ (mark : ℕ) (s old : List ℕ) where
  pub words-other : all_numbers (parts_of mark s) ≡ false → filled no_run old ≡ words_in mark s old
  unfolding words_in
  words-other e = simp e

  pub words-full : length old < length (parts_of mark s) → filled no_run old ≡ words_in mark s old
  unfolding words_in
  words-full l = simp (lt-leb (length (parts_of mark s)) (length old) l, and-false)

  pub words-good : all_numbers (parts_of mark s) ≡ true → length (parts_of mark s) ≤ length old
      → words_in mark s old ≡ filled (run (length (parts_of mark s))) (over (values_of (parts_of mark s)) old)
  unfolding words_in
  words-good e l =
      simp (e, le-leb (length (parts_of mark s)) (length old) l)
      (ap (λ (n : ℕ). filled (run n) (over (values_of (parts_of mark s)) old)) (length-map (parts_of mark s) (λ (p : List ℕ). unwrap_or (hex_in p) 0)))
