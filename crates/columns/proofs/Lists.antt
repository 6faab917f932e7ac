-- A list from a place on, and values over the first ones of a list. Assumes nothing.
use mathlib.Core.Path.{◌≡◌, sym, ap, ◌∙◌}
use mathlib.Core.List.{List, [], ◌∷◌, ◌++◌, append_assoc}
use Prim.Native.Nat.{ℕ, ◌+◌, ◌≤◌, ◌<◌}
use native.Mathlib.Numerals.{add-one}
use native.Mathlib.Omega.{arith}
use lib.ListN.{length, take, drop, get_or, set, length-append, length-drop}
use lib.Seq.{drop-cons, take-suc, take-length, length-take-le, set_at}

-- what stands at a place, and what follows
pub next : (s : List ℕ) (i : ℕ) → i < length s → drop i s ≡ get_or s i 0 ∷ drop (i + 1) s
next s i l = rw (add-one, drop-cons s i 0)

-- the first n values, in place of the first n of a list
abbrev pub front : ℕ → List ℕ → List ℕ → List ℕ
front n xs old = take n xs ++ drop n old

pub front_length : (n : ℕ) (xs old : List ℕ) → n ≤ length xs → n ≤ length old → length (front n xs old) ≡ length old
front_length n xs old l m = omega (arith, length-append (take n xs) (drop n old), length-take-le n xs l, length-drop n old)

-- one value more
pub front-more : (n : ℕ) (xs old : List ℕ) → n < length xs → n < length old → set (front n xs old) n (get_or xs n 0) ≡ front (n + 1) xs old
front-more n xs old l m =
    ap (λ (ys : List ℕ). set (take n xs ++ ys) n (get_or xs n 0)) (next old n m)
    ∙ set_at (take n xs) (get_or old n 0) (drop (n + 1) old) (get_or xs n 0) n (length-take-le n xs (omega arith))
    ∙ sym (append_assoc (take n xs) (get_or xs n 0 ∷ []) (drop (n + 1) old))
    ∙ ap (λ (ys : List ℕ). ys ++ drop (n + 1) old) (sym (ap (λ (k : ℕ). take k xs) (add-one n) ∙ take-suc xs n 0 l))

-- all of them
pub front-all : (n : ℕ) (xs old : List ℕ) → n ≡ length xs → front n xs old ≡ xs ++ drop (length xs) old
front-all n xs old e = ap (λ (k : ℕ). front k xs old) e ∙ ap (λ (ys : List ℕ). ys ++ drop (length xs) old) (take-length xs)
