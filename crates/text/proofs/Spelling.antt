-- Digits from the last to the first. Assumes nothing.
use mathlib.Core.Path.{◌≡◌, refl, sym, ap, ◌∙◌}
use mathlib.Core.Bool.{Bool}
use mathlib.Core.List.{List, [], ◌∷◌, ◌++◌, append_assoc}
use Prim.Native.Nat.{ℕ, zero, suc, ◌+◌, ◌-◌, ◌/◌, ◌%◌, ◌≤◌, ◌<◌}
use native.Mathlib.Omega.{arith}
use borrow.Author.Tests.{ne_eqb}
use lib.ListN.{length, take, drop, get_or, set, length-set}
use lib.Seq.{drop-cons, drop-set-lt, get_or-set_same, take-suc}
use native.Mathlib.Numerals.{add-one}
use mathlib.Core.Logic.{◌⊎◌, inl, inr}
use Rattle.hexadecimal.specs.Digits.{digit_of_lem, digits_of}
use Rattle.text.specs.Digits.{unless, higher, decimal_of, hex_of, fixed, bytes_text}

-- a digit more at the front of what stands at the end of a list
pub front : (xs : List ℕ) (i x : ℕ) → i < length xs → drop i (set xs i x) ≡ x ∷ drop (suc i) xs
front xs i x l =
    let size = length-set xs i x in
    drop-cons (set xs i x) i 0 (omega arith)
    ∙ ap (λ (y : ℕ). y ∷ drop (suc i) (set xs i x)) (get_or-set_same xs i x 0 l)
    ∙ ap (λ (ys : List ℕ). x ∷ ys) (drop-set-lt (suc i) xs i x (omega arith))

-- what is left to spell, and what is shortest
pub higher-more : (b i m : ℕ) (xs : List ℕ) → i < length xs → 0 < m
    → higher b (suc i) m ++ drop (suc i) xs ≡ higher b i (m / b) ++ drop i (set xs i (digit_of_lem (m % b)))
unfolding higher
higher-more b i m xs l h =
    let some : m ≡ 0 → ⊥ = λ z. omega arith in
    ap (λ (t : Bool). unless t (higher b i (m / b) ++ digit_of_lem (m % b) ∷ []) ++ drop (suc i) xs) (ne_eqb m 0 some)
    ∙ append_assoc (higher b i (m / b)) (digit_of_lem (m % b) ∷ []) (drop (suc i) xs)
    ∙ ap (λ (ys : List ℕ). higher b i (m / b) ++ ys) (sym (front xs i (digit_of_lem (m % b)) l))

pub higher-none : (b m : ℕ) → higher b 0 m ≡ []
unfolding higher
higher-none b m = refl

pub higher-zero : (b i : ℕ) → higher b i 0 ≡ []
unfolding higher
higher-zero b zero = refl
higher-zero b (suc i) = refl

pub fixed_more : (b i n : ℕ) (k : ℕ) (xs : List ℕ) → k < length xs
    → fixed b (suc i) n ++ drop (suc k) xs ≡ fixed b i (n / b) ++ drop k (set xs k (digit_of_lem (n % b)))
unfolding fixed
fixed_more b i n k xs l =
    append_assoc (fixed b i (n / b)) (digit_of_lem (n % b) ∷ []) (drop (suc k) xs)
    ∙ ap (λ (ys : List ℕ). fixed b i (n / b) ++ ys) (sym (front xs k (digit_of_lem (n % b)) l))

pub fixed-none : (b n : ℕ) → fixed b 0 n ≡ []
unfolding fixed
fixed-none b n = refl

-- ## As the loops have it

pub higher-step : (b i m : ℕ) (xs : List ℕ) → 0 < i → i ≤ length xs → 0 < m
    → higher b i m ++ drop i xs ≡ higher b (i - 1) (m / b) ++ drop (i - 1) (set xs (i - 1) (digit_of_lem (m % b)))
higher-step b i m xs p l h =
    let e : i ≡ suc (i - 1) = omega arith in
    ap (λ (x : ℕ). higher b x m ++ drop x xs) e ∙ higher-more b (i - 1) m xs (omega arith) h

pub fixed-step : (b i stop n : ℕ) (xs : List ℕ) → stop < i → i ≤ length xs
    → fixed b (i - stop) n ++ drop i xs ≡ fixed b (i - 1 - stop) (n / b) ++ drop (i - 1) (set xs (i - 1) (digit_of_lem (n % b)))
fixed-step b i stop n xs p l =
    let e : i - stop ≡ suc (i - 1 - stop) = omega arith in
    let f : i ≡ suc (i - 1) = omega arith in
    ap (λ (x : ℕ). fixed b x n ++ drop i xs) e ∙ ap (λ (x : ℕ). fixed b (suc (i - 1 - stop)) n ++ drop x xs) f ∙ fixed_more b (i - 1 - stop) n (i - 1) xs (omega arith)

-- the loop of `put_shortest` has come to an end: no room for a digit, or none left
pub higher-done : (b i m : ℕ) (xs : List ℕ) → (i ≡ 0) ⊎ (m ≡ 0) → higher b i m ++ xs ≡ xs
higher-done b i m xs (inl e) = rw (e, higher-none)
higher-done b i m xs (inr e) = rw (e, higher-zero)

digits_append : (a b : List ℕ) → digits_of (a ++ b) ≡ digits_of a ++ digits_of b
unfolding digits_of
digits_append [] b = refl
digits_append (x ∷ a) b = ap (λ (ys : List ℕ). digit_of_lem (x / 16) ∷ digit_of_lem x ∷ ys) (digits_append a b)

-- one byte more, in two digits
pub digits_step : (s : List ℕ) (i : ℕ) → i < length s → digits_of (take i s) ++ digit_of_lem (get_or s i 0 / 16) ∷ digit_of_lem (get_or s i 0) ∷ [] ≡ digits_of (take (i + 1) s)
unfolding digits_of
digits_step s i l = sym (ap (λ (n : ℕ). digits_of (take n s)) (add-one i) ∙ ap digits_of (take-suc s i 0 l) ∙ digits_append (take i s) (get_or s i 0 ∷ []))

pub digits-none : digits_of [] ≡ []
unfolding digits_of
digits-none = refl

-- ## Bytes, or '-'

pub bytes-none : (s : List ℕ) → length s ≡ 0 → 45 ∷ [] ≡ bytes_text s
bytes-none [] e = refl
bytes-none (x ∷ xs) e = absurd (omega arith)

pub bytes-some : (s : List ℕ) → (length s ≡ 0 → ⊥) → digits_of s ≡ bytes_text s
bytes-some [] n = absurd (n refl)
bytes-some (x ∷ xs) n = refl

-- ## Numbers of a digit or two

pub one-decimal : (n : ℕ) → n < 10 → digit_of_lem n ∷ [] ≡ decimal_of n
one-decimal n l =
    let none : n / 10 ≡ 0 = omega arith in
    let same : n ≡ n % 10 = omega arith in
    ap (λ (x : ℕ). digit_of_lem x ∷ []) same ∙ ap (λ (xs : List ℕ). xs ++ digit_of_lem (n % 10) ∷ []) (sym (ap (higher 10 19) none ∙ higher-zero 10 19))

pub two-decimal : (n : ℕ) → 10 ≤ n → n < 100 → digit_of_lem (n / 10) ∷ digit_of_lem (n % 10) ∷ [] ≡ decimal_of n
unfolding higher
two-decimal n l m =
    let some : n / 10 ≡ 0 → ⊥ = λ z. omega arith in
    let none : n / 10 / 10 ≡ 0 = omega arith in
    let same : n / 10 ≡ n / 10 % 10 = omega arith in
    ap (λ (x : ℕ). digit_of_lem x ∷ digit_of_lem (n % 10) ∷ []) same
    ∙ ap (λ (xs : List ℕ). (xs ++ digit_of_lem (n / 10 % 10) ∷ []) ++ digit_of_lem (n % 10) ∷ []) (sym (ap (higher 10 18) none ∙ higher-zero 10 18))
    ∙ ap (λ (t : Bool). unless t (higher 10 18 (n / 10 / 10) ++ digit_of_lem (n / 10 % 10) ∷ []) ++ digit_of_lem (n % 10) ∷ []) (sym (ne_eqb (n / 10) 0 some))

pub one-hex : (n : ℕ) → n < 16 → digit_of_lem n ∷ [] ≡ hex_of n
one-hex n l =
    let none : n / 16 ≡ 0 = omega arith in
    let same : n ≡ n % 16 = omega arith in
    ap (λ (x : ℕ). digit_of_lem x ∷ []) same ∙ ap (λ (xs : List ℕ). xs ++ digit_of_lem (n % 16) ∷ []) (sym (ap (higher 16 19) none ∙ higher-zero 16 19))
