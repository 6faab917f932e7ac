-- A chunk, call after call, on pages with room for every answer: more calls than there are bytes owed take all of it, and no line is left to wait. Each call
-- that does not end the chunk puts a byte at the least. Assumes nothing.
use mathlib.Core.Path.{◌≡◌, refl, sym, ap, ◌∙◌}
use mathlib.Core.Bool.{Bool, true, false}
use mathlib.Core.List.{List, [], ◌∷◌, ◌++◌, append-nil}
use mathlib.Core.Logic.{◌⊎◌, inl, inr}
use Prim.Native.Nat.{ℕ, ◌≤◌, ◌<◌}
use native.Mathlib.Omega.{arith}
use lib.ListN.{length, take, drop, length-append, length-take, take-append-drop}
use lib.Seq.{drop-length}
use Rattle.text.specs.Sheet.{sheet, lost}
use Rattle.lines.specs.Machine.{Machine, Passed, passed, pass_from, pass_of, owes}
use Rattle.lines.specs.Calls.{Call, called, held_of, waits_of, taken_of, taken, waits_after, Rests, Drains}
use Rattle.lines.proofs.Conserved.{conserved}
use Rattle.lines.proofs.Progress.{moves}

never : {A : Type 0} {a b : Bool} → a ≡ b → a ≡ true → b ≡ false → A
never e f g = let z : ◌≡◌ {A = ℕ} 0 1 = cc in absurd (omega arith)

-- what a call takes of its chunk, and what the others take of the rest
joins : (n : ℕ) (chunk input rest : List ℕ) → chunk ≡ input → rest ≡ drop n input → take n chunk ++ rest ≡ input
joins n chunk input rest e f = ap (λ (x : List ℕ). take n x ++ rest) e ∙ ap (λ (x : List ℕ). take n input ++ x) f ∙ take-append-drop n input

module _ {K : Type 0} (m : Machine K) (room : ℕ) where
  -- the first call, and those after it
  after : (k : K) (w : Bool) (input : List ℕ) (c : Call) (cs : List Call) → c.chunk ≡ input
      → Drains m (held_of (called m k w c)) (waits_of (called m k w c)) (drop (taken_of (called m k w c)) input) cs → Drains m k w input (c ∷ cs)
  unfolding taken waits_after
  after k w input c cs e h = record { all = joins (taken_of (called m k w c)) c.chunk input _ e h.all; none = h.none }

  -- a call with no chunk, where no line waits, does nothing
  empty : (k : K) (chunk page : List ℕ) (place : ℕ) → chunk ≡ [] → pass_from m k chunk 0 (sheet page place) ≡ passed k false 0 page place
  unfolding pass_from
  empty k [] page place e = refl
  empty k (b ∷ bs) page place e = let z : ◌≡◌ {A = ℕ} (length (b ∷ bs)) 0 = ap length e in absurd (omega arith)

  still : (k : K) (w : Bool) (input : List ℕ) (cs : List Call) → w ≡ false → input ≡ [] → Rests m room k w input cs → Drains m k w input cs
  unfolding taken waits_after
  still k w input [] e f h = record { all = sym f; none = e }
  still k true input (c ∷ cs) e f h = never e refl refl
  still k false input (c ∷ cs) e f h =
      let q : called m k false c ≡ passed k false 0 c.page c.place = empty k c.chunk c.page c.place (h.0.0 ∙ f) in
      let r = called m k false c in
      after k false input c cs h.0.0 (still (held_of r) (waits_of r) (drop (taken_of r) input) cs (ap waits_of q) (ap (λ (n : ℕ). drop n input) (ap taken_of q) ∙ f) h.1)

  -- a call takes all of its chunk and leaves no line to wait, or less is owed after it
  less : ((x : K) → length (m.answer x) ≤ room) → (k : K) (w : Bool) (input page : List ℕ) → room ≤ length page → length page < lost → (r : Passed K)
      → pass_of m k w input (sheet page 0) ≡ r
      → ((taken_of r ≡ length input) × (waits_of r ≡ false)) ⊎ (length (owes m (held_of r) (waits_of r) (drop (taken_of r) input)) < length (owes m k w input))
  less fits k w input page roomy small (passed k' w' n new to) e = go (moves m k w input page 0 small (omega arith) e (λ x. omega (arith, fits x)))
    where
      go : ((n ≡ length input) × (w' ≡ false)) ⊎ (0 < to) → ((n ≡ length input) × (w' ≡ false)) ⊎ (length (owes m k' w' (drop n input)) < length (owes m k w input))
      go (inl d) = inl d
      go (inr p) =
          let c = conserved m k w input page 0 small (omega arith) e in
          let all : take to new ++ owes m k' w' (drop n input) ≡ owes m k w input =
          ap (λ (x : List ℕ). take to new ++ owes m k' w' x) (sym (append-nil (drop n input))) ∙ c.text [] ∙ ap (owes m k w) (append-nil input) in
          let sizes = ap length all in
          inr (omega (arith, length-append (take to new) (owes m k' w' (drop n input)), length-take to new, c.inside, c.size))

  by_less : (k : K) (w : Bool) (input : List ℕ) (c : Call) (cs : List Call) → Rests m room k w input (c ∷ cs)
      → let r = called m k w c in let k' = held_of r in let w' = waits_of r in let rest = drop (taken_of r) input in
      ((taken_of r ≡ length input) × (w' ≡ false)) ⊎ (length (owes m k' w' rest) < length (owes m k w input))
      → (length (owes m k' w' rest) < length (owes m k w input) → Drains m k' w' rest cs) → Drains m k w input (c ∷ cs)
  by_less k w input c cs h (inl d) later =
      let r = called m k w c in
      after k w input c cs h.0.0 (still (held_of r) (waits_of r) (drop (taken_of r) input) cs d.1 (ap (λ (n : ℕ). drop n input) d.0 ∙ drop-length input) h.1)
  by_less k w input c cs h (inr l) later = after k w input c cs h.0.0 (later l)

  pub drained : ((x : K) → length (m.answer x) ≤ room) → (k : K) (w : Bool) (input : List ℕ) (cs : List Call) → Rests m room k w input cs
      → length (owes m k w input) < length cs → Drains m k w input cs
  drained fits k w input [] h enough = absurd (omega arith)
  drained fits k w input (c ∷ cs) h enough =
      let r = called m k w c in
      by_less k w input c cs h
      (less fits k w input c.page h.0.1.1.0 h.0.1.1.1 r
      (ap (λ (x : List ℕ). pass_of m k w x (sheet c.page 0)) (sym h.0.0) ∙ ap (λ (n : ℕ). pass_of m k w c.chunk (sheet c.page n)) (sym h.0.1.0)))
      (λ l. drained fits (held_of r) (waits_of r) (drop (taken_of r) input) cs h.1 (omega (arith, l)))
