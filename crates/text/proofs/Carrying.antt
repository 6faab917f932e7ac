-- What a refusal carries, one value after another. Assumes nothing.
use mathlib.Core.Path.{◌≡◌, refl, sym, ap, ◌∙◌}
use mathlib.Core.Bool.{Bool, true, false}
use mathlib.Core.List.{List, [], ◌∷◌, ◌++◌, append-nil, append_assoc}
use Prim.Native.Nat.{ℕ, zero, suc, ◌≤◌}
use native.Mathlib.Omega.{arith}
use borrow.Author.Tests.{lt-ltb}
use lib.Dec.{ltb}
use lib.ListN.{length, take, get_or}
use Rattle.bits.specs.Bits.{pick}
use Rattle.text.specs.Digits.{spaced}
use Rattle.text.specs.Refusals.{carried_text, carried_texts, refused_text}

none : (n : ℕ) → take {A = ℕ} n [] ≡ []
none zero = refl
none (suc n) = refl

-- the first `count` of three values, each put where there are so many
pub three : (t : Bool) (count a b c : ℕ)
    → pick (ltb 0 count) (carried_text t a) [] ++ pick (ltb 1 count) (carried_text false b) [] ++ pick (ltb 2 count) (carried_text false c) [] ≡ carried_texts t (take count (a ∷ b ∷ c ∷ []))
unfolding carried_texts
three t zero a b c = refl
three t (suc zero) a b c = append-nil (carried_text t a ++ [])
three t (suc (suc zero)) a b c = append_assoc (carried_text t a) (spaced b) []
three t (suc (suc (suc n))) a b c =
    let one : ltb 0 (suc (suc (suc n))) ≡ true = lt-ltb 0 (suc (suc (suc n))) (omega arith) in
    let two : ltb 1 (suc (suc (suc n))) ≡ true = lt-ltb 1 (suc (suc (suc n))) (omega arith) in
    let last : ltb 2 (suc (suc (suc n))) ≡ true = lt-ltb 2 (suc (suc (suc n))) (omega arith) in
    rw (one, two, last)
    (append_assoc (carried_text t a) (spaced b) (spaced c)
    ∙ ap (λ (x : List ℕ). carried_text t a ++ (spaced b ++ x)) (sym (append-nil (spaced c)))
    ∙ ap (λ (x : List ℕ). carried_text t a ++ (spaced b ++ (spaced c ++ carried_texts false x))) (sym (none n)))

-- a list of at most three values is the first of the three that it has at these places
pub listed : (xs : List ℕ) → length xs ≤ 3 → take (length xs) (get_or xs 0 0 ∷ get_or xs 1 0 ∷ get_or xs 2 0 ∷ []) ≡ xs
listed [] l = refl
listed (a ∷ []) l = refl
listed (a ∷ b ∷ []) l = refl
listed (a ∷ b ∷ c ∷ []) l = refl
listed (a ∷ b ∷ c ∷ d ∷ xs) l = absurd (omega arith)

-- the number, and of the values at the first three places as many as there are: the refusal of that number that carries them
pub carried-all : (number' : ℕ) (xs : List ℕ) → length xs ≤ 3 → {number count first second third : ℕ} → number ≡ number' → count ≡ length xs
    → first ≡ get_or xs 0 0 → second ≡ get_or xs 1 0 → third ≡ get_or xs 2 0 → refused_text number (take count (first ∷ second ∷ third ∷ [])) ≡ refused_text number' xs
carried-all number' xs l n k a b c = rw (n, k, a, b, c) (ap (refused_text number') (listed xs l))
