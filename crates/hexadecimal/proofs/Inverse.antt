-- Values and digits undo each other; so do bytes and theirs. Assumes nothing.
use Prim.Native.Nat.{ℕ, zero, suc, ◌+◌, ◌-◌, ◌*◌, ◌/◌, ◌%◌, ◌≤◌, ◌<◌}
use mathlib.Core.Path.{◌≡◌, refl, ap, ◌∙◌}
use mathlib.Core.Bool.{Bool, true, false, ◌&&◌, false≢true}
use mathlib.Core.List.{List, [], ◌∷◌, map}
use borrow.Author.Tests.{lt-ltb, ltb-true, ltb-false}
use native.Mathlib.Omega.{arith}
use lib.Dec.{ltb}
use lib.ListN.{length}
use Rattle.bits.specs.Bits.{pick}
use Rattle.hexadecimal.specs.Digits.{value_of, is_digit, all_digits_lem, digit_of_lem, pairs_of, digits_of}
use Rattle.hexadecimal.proofs.Ranges.{below, low, between, high, above, figure, letter}

-- ## One digit

-- the digit of a value reads as the value; that of any number, as its last four bits
pub digit_value : (n : ℕ) → value_of (digit_of_lem n) ≡ n % 16
digit_value n = by (ltb (n % 16) 10) refl
  where
    by : (t : Bool) → ltb (n % 16) 10 ≡ t → value_of (digit_of_lem n) ≡ n % 16
    by true e = let l = ltb-true (n % 16) 10 e in ap value_of (figure n l) ∙ low (48 + n % 16) (omega arith) (omega arith) ∙ omega arith
    by false e = let l = ltb-false (n % 16) 10 e in ap value_of (letter n l) ∙ high (55 + n % 16) (omega arith) (omega arith) ∙ omega arith

-- a byte that is a digit is the digit of its value
pub value-digit : (b : ℕ) → value_of b < 16 → digit_of_lem (value_of b) ≡ b
value-digit b h = by (ltb b 48) (ltb b 58) (ltb b 65) (ltb b 71) refl refl refl refl
  where
    by : (s t u v : Bool) → ltb b 48 ≡ s → ltb b 58 ≡ t → ltb b 65 ≡ u → ltb b 71 ≡ v → digit_of_lem (value_of b) ≡ b
    by true t u v i j k l = let e = below b (ltb-true b 48 i) in absurd (omega (arith, e, h))
    by false true u v i j k l =
        let w : 48 ≤ b = ltb-false b 48 i in
        let x : b < 58 = ltb-true b 58 j in
        ap digit_of_lem (low b w x) ∙ figure (b - 48) (omega arith) ∙ omega arith
    by false false true v i j k l = let e = between b (ltb-false b 58 j) (ltb-true b 65 k) in absurd (omega (arith, e, h))
    by false false false true i j k l =
        let w : 65 ≤ b = ltb-false b 65 k in
        let x : b < 71 = ltb-true b 71 l in
        ap digit_of_lem (high b w x) ∙ letter (b - 55) (omega arith) ∙ omega arith
    by false false false false i j k l = let e = above b (ltb-false b 71 l) in absurd (omega (arith, e, h))

pub digit-is : (n : ℕ) → is_digit (digit_of_lem n) ≡ true
digit-is n = let e = digit_value n in lt-ltb (value_of (digit_of_lem n)) 16 (omega arith)

-- ## Lines of digits

pub both : (x y : Bool) → x && y ≡ true → (x ≡ true) × (y ≡ true)
both true y h = (refl, h)
both false y h = absurd (false≢true h)

-- of a line whose bytes are all digits, the first and the others
pub heads : (b : ℕ) (bs : List ℕ) → all_digits_lem (b ∷ bs) ≡ true → (value_of b < 16) × (all_digits_lem bs ≡ true)
unfolding all_digits_lem
heads b bs h =
    let two = both (is_digit b) (all_digits_lem bs) h in
    (ltb-true _ _ two.0, two.1)

pub length_pairs : (bs : List ℕ) → length (pairs_of bs) ≡ length bs / 2
unfolding pairs_of
length_pairs [] = refl
length_pairs (h ∷ []) = refl
length_pairs (h ∷ l ∷ bs) = let e = length_pairs bs in omega arith

pub length_digits : (xs : List ℕ) → length (digits_of xs) ≡ 2 * length xs
unfolding digits_of
length_digits [] = refl
length_digits (x ∷ xs) = let e = length_digits xs in omega arith

pub digits-all : (xs : List ℕ) → all_digits_lem (digits_of xs) ≡ true
unfolding digits_of all_digits_lem
digits-all [] = refl
digits-all (x ∷ xs) = rw (digit-is (x / 16), digit-is x) (digits-all xs)

-- the digits of bytes spell the bytes; those of any numbers, their last eight bits
pub digits-pairs : (xs : List ℕ) → pairs_of (digits_of xs) ≡ map (λ (x : ℕ). x % 256) xs
unfolding digits_of pairs_of
digits-pairs [] = refl
digits-pairs (x ∷ xs) =
    let e : value_of (digit_of_lem (x / 16)) * 16 + value_of (digit_of_lem x) ≡ x % 256 = simp (digit_value (x / 16), digit_value x) (omega arith) in
    ap (λ (y : ℕ). y ∷ pairs_of (digits_of xs)) e ∙ ap (λ (ys : List ℕ). (x % 256) ∷ ys) (digits-pairs xs)

-- an even number of digits are those of the bytes that they spell
pub pairs-digits : (n : ℕ) (bs : List ℕ) → length bs ≡ 2 * n → all_digits_lem bs ≡ true → digits_of (pairs_of bs) ≡ bs
unfolding digits_of pairs_of
pairs-digits n [] k h = refl
pairs-digits n (x ∷ []) k h = absurd (omega arith)
pairs-digits zero (x ∷ y ∷ bs) k h = absurd (omega arith)
pairs-digits (suc n) (x ∷ y ∷ bs) k h =
    let two = heads x (y ∷ bs) h in
    let three = heads y bs two.1 in
    let b = three.0 in
    let u : digit_of_lem ((value_of x * 16 + value_of y) / 16) ≡ x = ap digit_of_lem (over (value_of x) (value_of y) b) ∙ value-digit x two.0 in
    let v : digit_of_lem (value_of x * 16 + value_of y) ≡ y = same (value_of x * 16 + value_of y) (value_of y) (rest (value_of x) (value_of y) b) ∙ value-digit y three.0 in
    ap (λ (z : ℕ). z ∷ digit_of_lem (value_of x * 16 + value_of y) ∷ digits_of (pairs_of bs)) u
    ∙ ap (λ (z : ℕ). x ∷ z ∷ digits_of (pairs_of bs)) v
    ∙ ap (λ (zs : List ℕ). x ∷ y ∷ zs) (pairs-digits n bs (omega arith) three.1)
  where
    over : (m d : ℕ) → d < 16 → (m * 16 + d) / 16 ≡ m
    over m d l = omega arith

    rest : (m d : ℕ) → d < 16 → (m * 16 + d) % 16 ≡ d % 16
    rest m d l = omega arith

    same : (m d : ℕ) → m % 16 ≡ d % 16 → digit_of_lem m ≡ digit_of_lem d
    same m d e = ap (λ (k : ℕ). pick (ltb k 10) (48 + k) (55 + k)) e
