-- The values of a line, by their letters: a value's entry, and the lent text with its text. Assumes nothing.
use mathlib.Core.Path.{◌≡◌, refl, sym, ap, ◌∙◌}
use mathlib.Core.Bool.{Bool, true, false, ◌&&◌}
use mathlib.Core.List.{List, [], ◌∷◌, ◌++◌, append-nil}
use Prim.Native.Nat.{ℕ, ◌+◌, ◌-◌, ◌/◌, ◌%◌, ◌^◌, ◌≤◌, ◌<◌}
use native.Mathlib.Omega.{arith}
use borrow.Author.Tests.{le-leb, lt-leb, leb-true, leb-false, ne_eqb}
use lib.Dec.{eqb, leb}
use lib.ListN.{length, take, drop, get_or, length-drop, drop_of_length-le, take-append-drop}
use lib.Seq.{take_all}
use Rattle.std.specs.Prelude.{Option, Some, None, is_some, unwrap_or}
use Rattle.bits.specs.Bits.{pick}
use Rattle.hexadecimal.specs.Digits.{all_digits_lem, pairs_of}
use Rattle.hexadecimal.proofs.Inverse.{length_pairs}
use Rattle.columns.specs.Numbers.{hex_digits, decimal_in, hex_in}
use Rattle.columns.specs.Runs.{filled, filled_if, pairs_in}
use Rattle.columns.proofs.Spelling.{number-below}
use Rattle.columns.proofs.Stored.{run_in, buffer_in}
use Rattle.compose.specs.declared.entries.Entry.{Entry}
use Rattle.compose.specs.Decimals.{head_of, tail_of}
use Rattle.compose.specs.Values.{Value, number, text, none, text_value, colon, kind_max, coded_value, by_letter, value_of}
use Rattle.compose.specs.Clauses.{entry, entry_of, told, told_by}

-- a value without a text
abbrev pub NoText : Value → Type 0
NoText (number kind word) = Unit {0}
NoText (text head bytes) = ⊥
NoText none = Unit {0}

pub number-plain : (t : Bool) (kind word : ℕ) → NoText (pick t (number kind word) none)
number-plain true kind word = tt
number-plain false kind word = tt

-- ## Texts

module _ (used : ℕ) (old : List ℕ) (h : used ≤ length old) where
  untold : (v : Value) → NoText v → told (entry_of 0 v) old ≡ told_by used old v
  untold (number kind word) n = rw (le-leb (used + 0) (length old) (omega arith)) (ap (told (Some (entry kind word 0))) (sym (take-append-drop used old)))
  untold (text head bytes) n = absurd n
  untold none n = rw (le-leb (used + 0) (length old) (omega arith)) (ap (told None) (sym (take-append-drop used old)))

  -- it leaves the lent text as it was
  pub plain : (v : Value) → NoText v → {w : Value} {e : Option Entry} → e ≡ entry_of 0 v → v ≡ w → told e old ≡ told_by used old w
  plain v n e f = ap (λ (x : Option Entry). told x old) e ∙ untold v n ∙ ap (told_by used old) f

  pub coded-told : (s : List ℕ) {w : Value} {e : Option Entry} → e ≡ entry_of 0 (coded_value s) → coded_value s ≡ w → told e old ≡ told_by used old w
  coded-told s e f =
      plain (coded_value s)
      (number-plain (is_some (decimal_in (head_of colon s)) && leb (unwrap_or (decimal_in (head_of colon s)) 0) kind_max && is_some (hex_in (tail_of colon s))) (unwrap_or (decimal_in (head_of colon s)) 0) (unwrap_or (hex_in (tail_of colon s)) 0)) e f

  -- what is known of a text, by the bytes that were stored
  abbrev entry_by : ℕ → Option ℕ → Option Entry
  entry_by head None = None
  entry_by head (Some n) = Some (entry head used n)

  module _ (head : ℕ) (s : List ℕ) {r : Option ℕ} {new : List ℕ} where
    text-by : (a b d : Bool) → leb (length s / 2) (length (drop used old)) ≡ b → filled r new ≡ filled_if (a && b && d) (pairs_of s) (drop used old)
        → told (entry_by head r) (take used old ++ new) ≡ told_by used old (pick (a && d) (text head (pairs_of s)) none)
    text-by true true true f e =
        let room : leb (used + length (pairs_of s)) (length old) ≡ true =
        le-leb (used + length (pairs_of s)) (length old) (omega (arith, length_pairs s, leb-true (length s / 2) (length (drop used old)) f, length-drop used old)) in
        rw (ap run_in e, ap buffer_in e, room)
    text-by true false true f e =
        let full : leb (used + length (pairs_of s)) (length old) ≡ false =
        lt-leb (used + length (pairs_of s)) (length old) (omega (arith, length_pairs s, leb-false (length s / 2) (length (drop used old)) f, length-drop used old)) in
        rw (ap run_in e, ap buffer_in e, full) (ap (told None) (take-append-drop used old))
    text-by true true false f e = rw (ap run_in e, ap buffer_in e, le-leb (used + 0) (length old) (omega arith))
    text-by true false false f e = rw (ap run_in e, ap buffer_in e, le-leb (used + 0) (length old) (omega arith))
    text-by false b d f e = rw (ap run_in e, ap buffer_in e, le-leb (used + 0) (length old) (omega arith))

    -- the bytes go into all that is left of the lent text
    module _ (e : filled r new ≡ pairs_in s (take (length old - used) (drop used old))) where
      abbrev after : List ℕ
      after = take used old ++ (new ++ drop (length old - used) (drop used old))

      all : take (length old - used) (drop used old) ≡ drop used old
      all = take_all (length old - used) (drop used old) (omega (arith, length-drop used old))

      after_is : after ≡ take used old ++ new
      after_is =
          let past : length (drop used old) ≤ length old - used = omega (arith, length-drop used old) in
          ap (λ (x : List ℕ). take used old ++ (new ++ x)) (drop_of_length-le (drop used old) past) ∙ ap (λ (x : List ℕ). take used old ++ x) (append-nil new)

      is : told (entry_by head r) after ≡ told_by used old (text_value head s)
      unfolding pairs_in
      is =
          ap (told (entry_by head r)) after_is
          ∙ text-by (eqb (length s % 2) 0) (leb (length s / 2) (length (drop used old))) (all_digits_lem s) refl (e ∙ ap (pairs_in s) all)

      pub text-good : {n : ℕ} → r ≡ Some n → told (Some (entry head used n)) after ≡ told_by used old (text_value head s)
      text-good g = rw g at is

      pub text-bad : r ≡ None → {v : Option Entry} → v ≡ None → told v after ≡ told_by used old (text_value head s)
      text-bad g f = ap (λ (x : Option Entry). told x after) f ∙ rw g at is

-- two digits are a byte
pub byte : (x : List ℕ) {e : ℕ} → hex_in x ≡ Some e → length x ≡ 2 → e < 256
byte x f two = omega (arith, number-below 16 hex_digits x (omega arith), ap (λ (n : ℕ). 16 ^ n) two, ap (λ (n : Option ℕ). unwrap_or n 0) f)

-- ## By the letter

pub empty : (s : List ℕ) → length s ≡ 0 → none ≡ value_of s
unfolding value_of
empty [] e = refl
empty (b ∷ bs) e = absurd (omega arith)

pub by-letter : (s : List ℕ) → (length s ≡ 0 → ⊥) → by_letter (get_or s 0 0) (take (length s - 1) (drop 1 s)) ≡ value_of s
unfolding value_of
by-letter [] n = absurd (n refl)
by-letter (b ∷ bs) n = ap (by_letter b) (take_all (length (b ∷ bs) - 1) bs (omega arith))

-- the letter is this one
pub letter : (s : List ℕ) → (length s ≡ 0 → ⊥) → (k : ℕ) → get_or s 0 0 ≡ k → by_letter k (take (length s - 1) (drop 1 s)) ≡ value_of s
letter s n k e = ap (λ (b : ℕ). by_letter b (take (length s - 1) (drop 1 s))) (sym e) ∙ by-letter s n

-- .. or none of the six
pub no-letter : (s : List ℕ) → (length s ≡ 0 → ⊥)
    → ((((((Unit {0} × (get_or s 0 0 ≡ 117 → ⊥)) × (get_or s 0 0 ≡ 105 → ⊥)) × (get_or s 0 0 ≡ 102 → ⊥)) × (get_or s 0 0 ≡ 116 → ⊥)) × (get_or s 0 0 ≡ 101 → ⊥)) × (get_or s 0 0 ≡ 118 → ⊥))
    → none ≡ value_of s
no-letter s n p =
    let b = get_or s 0 0 in
    let is : none ≡ by_letter b (take (length s - 1) (drop 1 s)) =
    rw (ne_eqb b 117 p.0.0.0.0.0.1, ne_eqb b 105 p.0.0.0.0.1, ne_eqb b 102 p.0.0.0.1, ne_eqb b 116 p.0.0.1, ne_eqb b 101 p.0.1, ne_eqb b 118 p.1) in
    is ∙ by-letter s n
