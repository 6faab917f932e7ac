-- One call, on any page: what is put and what is still owed are what was owed before, whatever input follows. What stands before the place is kept.
-- Assumes nothing.
use mathlib.Core.Path.{◌≡◌, sym, ap, ◌∙◌, subst}
use mathlib.Core.Bool.{Bool}
use mathlib.Core.List.{List, ◌++◌, append_assoc, append_cancel_left}
use Prim.Native.Nat.{ℕ, ◌≤◌, ◌<◌}
use native.Mathlib.Omega.{arith}
use lib.ListN.{length, take, drop, take-append-drop}
use lib.Seq.{take-take}
use Rattle.text.specs.Sheet.{sheet, lost}
use Rattle.lines.specs.Machine.{Machine, Passed, passed, pass_of, owes}
use Rattle.lines.specs.Calls.{held_of, waits_of, taken_of, page_after, place_after}
use Rattle.lines.proofs.Runs.{Runs, runs}

pub record Conserves {K : Type 0} (m : Machine K) (k : K) (w : Bool) (input old : List ℕ) (at : ℕ) (k' : K) (w' : Bool) (n : ℕ) (new : List ℕ) (to : ℕ) : Type 0 where
  pub size : length new ≡ length old
  pub grows : at ≤ to
  pub inside : to ≤ length old
  pub kept : take at new ≡ take at old
  pub few : n ≤ length input
  -- by what is taken: whatever comes after it, the rest of the chunk or anything else
  pub took : (more : List ℕ) → take to new ++ owes m k' w' more ≡ take at old ++ owes m k w (take n input ++ more)
  -- where the rest of the chunk comes next
  pub text : (more : List ℕ) → take to new ++ owes m k' w' (drop n input ++ more) ≡ take at old ++ owes m k w (input ++ more)

abbrev ConservesBy : {K : Type 0} → Machine K → K → Bool → List ℕ → List ℕ → ℕ → Passed K → Type 0
ConservesBy m k w input old at r = Conserves m k w input old at (held_of r) (waits_of r) (taken_of r) (page_after r) (place_after r)

module _ {K : Type 0} (m : Machine K) (k : K) (w : Bool) (input old : List ℕ) (at : ℕ) where
  by_runs : (r : Passed K) → Runs m k w input 0 old at r → ConservesBy m k w input old at r
  by_runs r h =
      let n : h.count ≡ taken_of r = omega (arith, h.counts) in
      let took : (more : List ℕ) → take (place_after r) (page_after r) ++ owes m (held_of r) (waits_of r) more ≡ take at old ++ owes m k w (take (taken_of r) input ++ more) =
      λ more. rw n at (h.took more) in
      record {
        size = h.size;
        grows = h.grows;
        inside = h.inside;
        kept = h.kept;
        few = omega (arith, h.few);
        took = took;
        text = λ more.
            took (drop (taken_of r) input ++ more)
            ∙ ap (λ (x : List ℕ). take at old ++ owes m k w x)
            (sym (append_assoc (take (taken_of r) input) (drop (taken_of r) input) more) ∙ ap (λ (x : List ℕ). x ++ more) (take-append-drop (taken_of r) input));
      }

  pub conserves : length old < lost → at ≤ length old → ConservesBy m k w input old at (pass_of m k w input (sheet old at))
  conserves l h = by_runs _ (runs m k w input old at l h)

  module _ {k' : K} {w' : Bool} {n : ℕ} {new : List ℕ} {to : ℕ} where
    pub conserved : length old < lost → at ≤ length old → pass_of m k w input (sheet old at) ≡ passed k' w' n new to → Conserves m k w input old at k' w' n new to
    conserved l h e = subst (ConservesBy m k w input old at) e (conserves l h)

    -- what stands from the place on up to the place after is the text that is put
    pub put-text : Conserves m k w input old at k' w' n new to → (more : List ℕ) → drop at (take to new) ++ owes m k' w' more ≡ owes m k w (take n input ++ more)
    put-text h more =
        let split : take at old ++ drop at (take to new) ≡ take to new =
        ap (λ (x : List ℕ). x ++ drop at (take to new)) (sym h.kept ∙ sym (take-take at to new h.grows)) ∙ take-append-drop at (take to new) in
        append_cancel_left (take at old) _ _
        (sym (append_assoc (take at old) (drop at (take to new)) (owes m k' w' more)) ∙ ap (λ (x : List ℕ). x ++ owes m k' w' more) split ∙ h.took more)
