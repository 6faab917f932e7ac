-- No line that the program holds has more text than there is room for: with more room its values are the same. Assumes nothing.
use mathlib.Core.Path.{◌≡◌, refl, ap, ◌∙◌}
use mathlib.Core.Bool.{Bool, true, false, ◌&&◌}
use mathlib.Core.List.{List, [], ◌∷◌, ◌++◌}
use Prim.Native.Nat.{ℕ, zero, suc, ◌+◌, ◌*◌, ◌%◌, ◌≤◌}
use native.Mathlib.Omega.{arith}
use borrow.Author.Tests.{le-leb}
use lib.Dec.{eqb, leb}
use lib.ListN.{length, drop, length-append, length-drop}
use Rattle.std.specs.Prelude.{Option, is_some, unwrap_or}
use Rattle.bits.specs.Bits.{pick}
use Rattle.hexadecimal.specs.Digits.{all_digits_lem, pairs_of}
use Rattle.hexadecimal.proofs.Inverse.{length_pairs}
use Rattle.columns.specs.Parts.{before, longer, parts_of, space}
use Rattle.columns.specs.Numbers.{decimal_in, hex_in}
use Rattle.compose.specs.Decimals.{head_of, tail_of, signed_in, double_in}
use Rattle.compose.specs.Values.{number, text, none, numbered, unsigned_value_lem, signed_value_lem, double_value, text_value, plain_value, colon, is_encoding, encoding_head, encoded_value, kind_max, coded_value, value_of}
use Rattle.compose.specs.Records.{record_of_lem, text_of, is_value, Lists, lists, unlisted, more, lists_from, records_max, texts_max, lists_of}
use Rattle.compose.specs.Answers.{fields_of, leading, line_max}

-- ## The fields have no more bytes than the line

abbrev total : List (List ℕ) → ℕ
total [] = 0
total (p ∷ ps) = length p + total ps

longer-total : (b : ℕ) (ps : List (List ℕ)) → total (longer b ps) ≡ suc (total ps)
longer-total b [] = refl
longer-total b (p ∷ ps) = omega arith

parts-total : (mark : ℕ) (s : List ℕ) → total (parts_of mark s) ≤ length s
unfolding parts_of
parts-total mark [] = omega arith
parts-total mark (b ∷ bs) = by (eqb b mark) (parts-total mark bs)
  where
    by : (t : Bool) → total (parts_of mark bs) ≤ length bs → total (pick t ([] ∷ parts_of mark bs) (longer b (parts_of mark bs))) ≤ suc (length bs)
    by true h = omega arith
    by false h = omega (arith, longer-total b (parts_of mark bs))

drop-total : (n : ℕ) (ps : List (List ℕ)) → total (drop n ps) ≤ total ps
drop-total zero ps = omega arith
drop-total (suc n) [] = omega arith
drop-total (suc n) (p ∷ ps) = omega (arith, drop-total n ps)

-- ## A text has half as many bytes as it has digits

number-text : (t : Bool) (kind word : ℕ) → length (text_of (pick t (number kind word) none)) ≡ 0
number-text true kind word = refl
number-text false kind word = refl

text-text : (t : Bool) (head : ℕ) (s : List ℕ) → 2 * length (text_of (pick t (text head (pairs_of s)) none)) ≤ length s
text-text true head s = omega (arith, length_pairs s)
text-text false head s = omega arith

plain-text : (head : ℕ) (s : List ℕ) → 2 * length (text_of (text_value head s)) ≤ length s
plain-text head s = text-text (eqb (length s % 2) 0 && all_digits_lem s) head s

encoded-text : (t : Bool) (head : ℕ) (s rest : List ℕ) → length rest ≤ length s → 2 * length (text_of (pick t (text_value head rest) none)) ≤ length s
encoded-text true head s rest l = omega (arith, plain-text head rest)
encoded-text false head s rest l = omega arith

by_number : (kind : ℕ) (n : Option ℕ) → length (text_of (numbered kind n)) ≡ 0
by_number kind n = number-text (is_some n) kind (unwrap_or n 0)

value-text : (s : List ℕ) → 2 * length (text_of (value_of s)) ≤ length s
unfolding value_of
value-text [] = omega arith
value-text (letter ∷ s) = by (eqb letter 117) (eqb letter 105) (eqb letter 102) (eqb letter 116) (eqb letter 101) (eqb letter 118)
  where
    by : (a b c d e f : Bool)
        → 2 * length (text_of (pick a (unsigned_value_lem s) (pick b (signed_value_lem s) (pick c (double_value s) (pick d (plain_value s) (pick e (encoded_value s) (pick f (coded_value s) none)))))))
        ≤ suc (length s)
    by true b c d e f = omega (arith, by_number 1 (decimal_in s))
    by false true c d e f = omega (arith, by_number 5 (signed_in s))
    by false false true d e f = omega (arith, by_number 9 (double_in s))
    by false false false true e f = omega (arith, plain-text 11 s)
    by false false false false true f =
        omega (arith, encoded-text (is_encoding s) (encoding_head (unwrap_or (hex_in (head_of colon s)) 0)) s (tail_of colon s) (omega (arith, length-drop (suc (before colon s)) s)))
    by false false false false false true =
        let kind = decimal_in (head_of colon s) in
        let word = hex_in (tail_of colon s) in
        omega (arith, number-text (is_some kind && leb (unwrap_or kind 0) kind_max && is_some word) (unwrap_or kind 0) (unwrap_or word 0))
    by false false false false false false = omega arith

-- ## So there is always room

-- what is listed, with the fields that are left, has no more text
abbrev Few : Lists → List (List ℕ) → Type 0
Few (lists records texts) fields = 2 * length texts + total fields ≤ line_max
Few unlisted fields = Unit {0}

few-more : (t : Bool) (records texts s : List ℕ) (fields : List (List ℕ)) → 2 * length texts + (length s + total fields) ≤ line_max
    → Few (pick t (lists records (texts ++ text_of (value_of s))) unlisted) fields
few-more true records texts s fields h = omega (arith, length-append texts (text_of (value_of s)), value-text s)
few-more false records texts s fields h = tt

module _ (room most : ℕ) (l : texts_max ≤ most) where
  same_lists : (x : Lists) (fields : List (List ℕ)) → Few x fields → lists_from room most x fields ≡ lists_from room texts_max x fields
  unfolding lists_from
  same_lists x [] h = refl
  same_lists (lists records texts) (s ∷ ss) h =
      let n : ℕ = length texts + length (text_of (value_of s)) in
      let fits : n ≤ texts_max = omega (arith, value-text s) in
      let test : Bool = is_value (value_of s) && leb (length records + 24) room && leb n texts_max in
      let is : more room most (lists records texts) (value_of s) ≡ more room texts_max (lists records texts) (value_of s) =
      rw (le-leb n texts_max fits, le-leb n most (omega arith)) in
      ap (λ (y : Lists). lists_from room most y ss) is
      ∙ same_lists (more room texts_max (lists records texts) (value_of s)) ss (few-more test (records ++ record_of_lem (length texts) (value_of s)) texts s ss h)
  same_lists unlisted (s ∷ ss) h = same_lists unlisted ss tt

pub texts-fit : (line : List ℕ) → length line ≤ line_max → (most : ℕ) → texts_max ≤ most
    → lists_from records_max most (lists [] []) (drop (leading line) (fields_of line)) ≡ lists_of (drop (leading line) (fields_of line))
texts-fit line h most l =
    same_lists records_max most l (lists [] []) (drop (leading line) (fields_of line))
    (omega (arith, drop-total (leading line) (fields_of line), parts-total space line))
