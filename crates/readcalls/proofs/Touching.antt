-- A padding run up to its last byte that is not A5. Assumes nothing.
use mathlib.Core.Path.{◌≡◌, refl, sym, ap, ◌∙◌}
use mathlib.Core.Bool.{Bool, true, false}
use mathlib.Core.List.{List, [], ◌∷◌, ◌++◌}
use Prim.Native.Nat.{ℕ, suc, ◌-◌, ◌≤◌, ◌<◌}
use native.Mathlib.Omega.{arith}
use borrow.Author.Tests.{ne_eqb}
use lib.Dec.{eqb}
use lib.ListN.{length, take, get_or, length-take}
use lib.Seq.{take-suc}
use Rattle.bits.specs.Bits.{pick}
use Rattle.readcalls.specs.Lines.{untouched, keep_before, touched}

-- ## One byte more at the end

keep-more : (x : ℕ) (xs : List ℕ) (b : ℕ) → keep_before x (xs ++ b ∷ []) ≡ x ∷ xs ++ b ∷ []
keep-more x [] b = refl
keep-more x (y ∷ ys) b = refl

ends-touched : (xs : List ℕ) (b : ℕ) → (b ≡ untouched → ⊥) → touched (xs ++ b ∷ []) ≡ xs ++ b ∷ []
unfolding touched
ends-touched [] b h = rw (ne_eqb b untouched h)
ends-touched (x ∷ xs) b h = ap (keep_before x) (ends-touched xs b h) ∙ keep-more x xs b

ends-untouched : (xs : List ℕ) → touched (xs ++ untouched ∷ []) ≡ touched xs
unfolding touched
ends-untouched [] = refl
ends-untouched (x ∷ xs) = ap (keep_before x) (ends-untouched xs)

-- ## As the code looks, from the end on

module _ (run : List ℕ) (n : ℕ) (some : 0 < n) (inside : n ≤ length run) where
  cut : take n run ≡ take (n - 1) run ++ get_or run (n - 1) 0 ∷ []
  cut = let e : n ≡ suc (n - 1) = omega arith in ap (λ (k : ℕ). take k run) e ∙ take-suc run (n - 1) 0 (omega arith)

  pub found : (get_or run (n - 1) 0 ≡ untouched → ⊥) → touched run ≡ touched (take n run) → n ≡ length (touched run)
  found h e =
      let is : touched run ≡ take n run = e ∙ ap touched cut ∙ ends-touched (take (n - 1) run) (get_or run (n - 1) 0) h ∙ sym cut in
      omega (arith, ap length is, length-take n run)

  pub goes_down : get_or run (n - 1) 0 ≡ untouched → touched run ≡ touched (take n run) → touched run ≡ touched (take (n - 1) run)
  goes_down h e = e ∙ ap touched (cut ∙ ap (λ (b : ℕ). take (n - 1) run ++ b ∷ []) h) ∙ ends-untouched (take (n - 1) run)

pub none_found : (run : List ℕ) (n : ℕ) → n ≤ 0 → touched run ≡ touched (take n run) → 0 ≡ length (touched run)
unfolding touched
none_found run n l e = let z : n ≡ 0 = omega arith in sym (ap length (e ∙ ap (λ (k : ℕ). touched (take k run)) z))

-- ## The part of the run

pub take-touched : (run : List ℕ) → take (length (touched run)) run ≡ touched run
unfolding touched
take-touched [] = refl
take-touched (b ∷ bs) = go (touched bs) (take-touched bs)
  where
    last : (t : Bool) → take (length (pick t [] (b ∷ []))) (b ∷ bs) ≡ pick t [] (b ∷ [])
    last true = refl
    last false = refl

    go : (ts : List ℕ) → take (length ts) bs ≡ ts → take (length (keep_before b ts)) (b ∷ bs) ≡ keep_before b ts
    go [] h = last (eqb b untouched)
    go (c ∷ cs) h = ap (λ (xs : List ℕ). b ∷ xs) h

pub touched-size : (run : List ℕ) → length (touched run) ≤ length run
touched-size run = omega (arith, ap length (take-touched run), length-take (length (touched run)) run)
