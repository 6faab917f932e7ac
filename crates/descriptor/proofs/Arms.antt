-- What the last arm of a match on a number knows, where the arms before it are those of a list's places. Assumes nothing.
use mathlib.Core.Path.{◌≡◌, refl, sym}
use mathlib.Core.List.{List, ◌∷◌}
use Prim.Native.Nat.{ℕ, zero, suc, ◌+◌, ◌≤◌}
use native.Mathlib.Omega.{arith}
use lib.ListN.{length, get_or, get_or-eq_default}

-- n is none of the k numbers from s on, as a match that has an arm for each says
abbrev pub Passed : ℕ → ℕ → ℕ → Type 0
Passed s zero n = Unit
Passed s (suc k) n = Passed s k n × (n ≡ s + k → ⊥)

past : (s k n : ℕ) → s ≤ n → Passed s k n → s + k ≤ n
past s zero n h p = omega arith
past s (suc k) n h p =
    let before : s + k ≤ n = past s k n h p.0 in
    let other : n ≡ s + k → ⊥ = p.1 in
    omega arith

-- with an arm for every place of the list
pub past_all : {A : Type 0} (l : List A) (d : A) (n : ℕ) → Passed 0 (length l) n → d ≡ get_or l n d
past_all l d n p = sym (get_or-eq_default l d {n = n} (omega (arith, past 0 (length l) n (omega arith) p)))

-- with an arm for every place but the first, which holds the default
pub past-rest : {A : Type 0} (l : List A) (d : A) (n : ℕ) → Passed 1 (length l) n → d ≡ get_or (d ∷ l) n d
past-rest l d zero p = refl
past-rest l d (suc n) p = sym (get_or-eq_default l d {n = n} (omega (arith, past 1 (length l) (suc n) (omega arith) p)))
