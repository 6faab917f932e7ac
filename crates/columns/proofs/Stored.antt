-- What a call leaves in a buffer that it was lent: the values that a text has, or nothing. Assumes nothing.
use mathlib.Core.Path.{◌≡◌, refl, ap, ◌∙◌}
use mathlib.Core.Bool.{Bool, true, false}
use mathlib.Core.List.{List, [], ◌∷◌, ◌++◌}
use Prim.Native.Nat.{ℕ, ◌-◌, ◌≤◌}
use native.Mathlib.Omega.{arith}
use lib.ListN.{length, take, drop, length-append}
use lib.Seq.{take_at}
use Rattle.std.specs.Prelude.{Option, Some, None, is_some}
use Rattle.columns.specs.Parts.{parts_of}
use Rattle.columns.specs.Runs.{Filled, filled, filled_if, pairs_in, bytes_in_lem, is_bytes, bytes_of, values_of, words_in, is_words}

abbrev pub run_in : Filled → Option ℕ
run_in (filled r buffer) = r

abbrev pub buffer_in : Filled → List ℕ
buffer_in (filled r buffer) = buffer

-- what was stored, or that nothing was
pub record Stored (t : Bool) (xs : List ℕ) (r : Option ℕ) (buffer : List ℕ) : Type 0 where
  pub good : is_some r ≡ t
  pub none : r ≡ None → t ≡ false
  pub some : {n : ℕ} → r ≡ Some n → t ≡ true
  pub within : {n : ℕ} → r ≡ Some n → n ≤ length buffer
  pub count : {n : ℕ} → r ≡ Some n → n ≡ length xs
  pub first : {n : ℕ} → r ≡ Some n → take (n - 0) buffer ≡ xs

-- .. so many values
several : (n m : ℕ) (r : Option ℕ) → r ≡ Some m → r ≡ Some n → n ≡ m
several n m r e f = cc

stored : (t : Bool) (r : Option ℕ) (xs old new : List ℕ) → filled r new ≡ filled_if t xs old → Stored t xs r new
stored true r xs old new e =
    let is : r ≡ Some (length xs) = ap run_in e in
    let has : new ≡ xs ++ drop (length xs) old = ap buffer_in e in
    record {
      good = rw is;
      none = λ f. cc;
      some = λ f. refl;
      within = λ f. rw has (omega (arith, several _ _ r is f, length-append xs (drop (length xs) old)));
      count = λ f. several _ _ r is f;
      first = λ f. rw has (take_at xs (drop (length xs) old) _ (omega (arith, several _ _ r is f)));
    }
stored false r xs old new e =
    let is : r ≡ None = ap run_in e in
    record {
      good = rw is;
      none = λ f. refl;
      some = λ f. cc;
      within = λ f. cc;
      count = λ f. cc;
      first = λ f. cc;
    }

-- in a buffer with room for so many; of a field, by another name too
module _ (old : List ℕ) (most : ℕ) (size : length old ≡ most) where
  bytes-is : (s : List ℕ) → bytes_in_lem s old ≡ filled_if (is_bytes most s) (bytes_of s) old
  unfolding bytes_in_lem pairs_in
  bytes-is [] = refl
  bytes-is (b ∷ []) = refl
  bytes-is (b ∷ c ∷ bs) = rw size

  words-is : (mark : ℕ) (s : List ℕ) → words_in mark s old ≡ filled_if (is_words mark most s) (values_of (parts_of mark s)) old
  unfolding words_in
  words-is mark s = rw size

  module _ {field field' : List ℕ} (named : field ≡ field') {r : Option ℕ} {new : List ℕ} where
    pub stored_bytes : filled r new ≡ bytes_in_lem field old → Stored (is_bytes most field') (bytes_of field') r new
    stored_bytes e = stored (is_bytes most field') r (bytes_of field') old new (e ∙ ap (λ (x : List ℕ). bytes_in_lem x old) named ∙ bytes-is field')

    pub stored-words : (mark : ℕ) → filled r new ≡ words_in mark field old → Stored (is_words mark most field') (values_of (parts_of mark field')) r new
    stored-words mark e = stored (is_words mark most field') r (values_of (parts_of mark field')) old new (e ∙ ap (λ (x : List ℕ). words_in mark x old) named ∙ words-is mark field')
