-- Lists of visits: what holds of each, and of each that another follows. Assumes nothing.
use mathlib.Core.Path.{◌≡◌}
use mathlib.Core.Logic.{◌⊎◌, inl, inr}
use Prim.Native.Nat.{ℕ}
use native.Mathlib.Omega.{arith}
use mathlib.Core.List.{List, [], ◌∷◌, ◌++◌}

module _ {W : Type 0} (P : W → Type 0) where
  abbrev pub All : List W → Type 0
  All [] = Unit {0}
  All (v ∷ vs) = P v × All vs

  pub all_left : (us vs : List W) → All (us ++ vs) → All us
  all_left [] vs h = tt
  all_left (u ∷ us) vs h = (h.0, all_left us vs h.1)

  pub all_right : (us vs : List W) → All (us ++ vs) → All vs
  all_right [] vs h = h
  all_right (u ∷ us) vs h = all_right us vs h.1

  pub all_append : (us vs : List W) → All us → All vs → All (us ++ vs)
  all_append [] vs h k = k
  all_append (u ∷ us) vs h k = (h.0, all_append us vs h.1 k)

  -- of each that another follows
  abbrev pub Ending : List W → Type 0
  Ending [] = Unit {0}
  Ending (v ∷ vs) = (P v ⊎ (vs ≡ [])) × Ending vs

  pub ending-all : (vs : List W) → All vs → Ending vs
  ending-all [] h = tt
  ending-all (v ∷ vs) h = (inl h.0, ending-all vs h.1)

  pub ending-append : (us vs : List W) → All us → Ending vs → Ending (us ++ vs)
  ending-append [] vs h k = k
  ending-append (u ∷ us) vs h k = (inl h.0, ending-append us vs h.1 k)

  not-nil : (us : List W) (v : W) (ws : List W) → us ++ v ∷ ws ≡ [] → ⊥
  not-nil [] v ws e = let z : ◌≡◌ {A = ℕ} 0 1 = cc in omega arith
  not-nil (u ∷ us) v ws e = let z : ◌≡◌ {A = ℕ} 0 1 = cc in omega arith

  -- what stands before another
  pub ending-before : (us : List W) (v : W) (ws : List W) → Ending (us ++ v ∷ ws) → All us
  ending-before [] v ws h = tt
  ending-before (u ∷ us) v ws (inl p, k) = (p, ending-before us v ws k)
  ending-before (u ∷ us) v ws (inr p, k) = absurd (not-nil us v ws p)

pub all_map : {W : Type 0} (P Q : W → Type 0) (vs : List W) → ((v : W) → P v → Q v) → All P vs → All Q vs
all_map P Q [] f h = tt
all_map P Q (v ∷ vs) f h = (f v h.0, all_map P Q vs f h.1)

pub all-zip : {W : Type 0} (P Q R : W → Type 0) (vs : List W) → ((v : W) → P v → Q v → R v) → All P vs → All Q vs → All R vs
all-zip P Q R [] f h k = tt
all-zip P Q R (v ∷ vs) f h k = (f v h.0 k.0, all-zip P Q R vs f h.1 k.1)
