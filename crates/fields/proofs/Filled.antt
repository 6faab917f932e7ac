-- Lists that are filled up with one value, and a loop that stores a list at the front of another. Assumes nothing.
use mathlib.Core.Path.{◌≡◌, refl, ap, ◌∙◌}
use mathlib.Core.List.{List, [], ◌∷◌, ◌++◌}
use Prim.Native.Nat.{ℕ, zero, suc, ◌+◌, ◌-◌, ◌≤◌, ◌<◌}
use native.Mathlib.Omega.{arith}
use native.Mathlib.Numerals.{add-one}
use lib.ListN.{length, get_or, take, drop, set, replicate, length-append, length-replicate}

-- a list that is filled up with what is read past its end reads the same
pub get_or-filled : (l : List ℕ) (m d i : ℕ) → get_or (l ++ replicate m d) i d ≡ get_or l i d
get_or-filled [] zero d i = refl
get_or-filled [] (suc m) d zero = refl
get_or-filled [] (suc m) d (suc i) = get_or-filled [] m d i
get_or-filled (x ∷ l) m d zero = refl
get_or-filled (x ∷ l) m d (suc i) = get_or-filled l m d i

-- filled up to n with 0xFF
abbrev pub full : List ℕ → ℕ → List ℕ
full l n = l ++ replicate (n - length l) 0xff

pub length-full : (l : List ℕ) (n : ℕ) → length l ≤ n → length (full l n) ≡ n
length-full l n h = length-append l _ ∙ ap (λ (k : ℕ). length l + k) (length-replicate (n - length l) 0xff) ∙ omega arith

pub get_or-full : (l : List ℕ) (n i : ℕ) → get_or (full l n) i 0xff ≡ get_or l i 0xff
get_or-full l n i = get_or-filled l (n - length l) 0xff i

front-suc : (w d : List ℕ) (i z : ℕ) → i < length w → i < length d → set (take i w ++ drop i d) i (get_or w i z) ≡ take (suc i) w ++ drop (suc i) d
front-suc [] d i z h g = absurd (omega arith)
front-suc (x ∷ w) [] i z h g = absurd (omega arith)
front-suc (x ∷ w) (y ∷ d) zero z h g = refl
front-suc (x ∷ w) (y ∷ d) (suc i) z h g = ap (λ (l : List ℕ). x ∷ l) (front-suc w d i z (omega arith) (omega arith))

-- w has been stored at the front of d up to i: one store more
pub front-more : (w d : List ℕ) (i z : ℕ) → i < length w → i < length d → set (take i w ++ drop i d) i (get_or w i z) ≡ take (i + 1) w ++ drop (i + 1) d
front-more w d i z h g = rw add-one (front-suc w d i z h g)
