-- A part of a list that may run past its end. Assumes nothing.
use mathlib.Core.Path.{◌≡◌, sym, ap, ◌∙◌}
use mathlib.Core.Logic.{⊎_elim}
use mathlib.Core.List.{List}
use Prim.Native.Nat.{ℕ, min, ◌≤◌, ◌<◌}
use native.Mathlib.Omega.{arith}
use lib.ListN.{length, take, drop, drop_of_length-le}
use lib.Seq.{take_all, take-length, drop-length}
use Rattle.bits.proofs.Written.{below}

-- what is the same at n and at the length, wherever n is past the length, is the same at the smaller of the two
at-min : {A : Type 0} (f : ℕ → A) (n m : ℕ) → (m ≤ n → f m ≡ f n) → f (min n m) ≡ f n
at-min f n m e = ⊎_elim
    (λ (h : n < m). let k : min n m ≡ n = omega arith in ap f k)
    (λ (h : m ≤ n). let k : min n m ≡ m = omega arith in ap f k ∙ e h)
    (below n m)

pub take_min : (n : ℕ) (l : List ℕ) → take (min n (length l)) l ≡ take n l
take_min n l = at-min (λ (k : ℕ). take k l) n (length l) (λ h. take-length l ∙ sym (take_all n l h))

pub drop_min : (n : ℕ) (l : List ℕ) → drop (min n (length l)) l ≡ drop n l
drop_min n l = at-min (λ (k : ℕ). drop k l) n (length l) (λ h. drop-length l ∙ sym (drop_of_length-le l h))
