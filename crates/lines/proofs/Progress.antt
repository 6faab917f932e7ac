-- One call takes all of its chunk, or a line waits whose answer has no room after what was put. So it moves where every answer has room on the page.
-- Assumes nothing.
use mathlib.Core.Path.{◌≡◌, refl, subst}
use mathlib.Core.Bool.{Bool, true, false}
use mathlib.Core.List.{List}
use mathlib.Core.Logic.{◌⊎◌, inl, inr}
use Prim.Native.Nat.{ℕ, ◌+◌, ◌≤◌, ◌<◌}
use native.Mathlib.Omega.{arith}
use lib.ListN.{length}
use Rattle.text.specs.Sheet.{sheet, lost}
use Rattle.lines.specs.Machine.{Machine, Passed, passed, pass_of}
use Rattle.lines.specs.Calls.{held_of, waits_of, taken_of, place_after}
use Rattle.lines.proofs.Runs.{Runs, runs}

pub record Goes {K : Type 0} (m : Machine K) (k : K) (w : Bool) (input old : List ℕ) (at : ℕ) (k' : K) (w' : Bool) (n to : ℕ) : Type 0 where
  pub done : w' ≡ false → n ≡ length input
  pub full : w' ≡ true → length old < to + length (m.answer k')
  -- a line that waited, and has room for its answer, is answered
  pub first : w ≡ true → at + length (m.answer k) ≤ length old → at + length (m.answer k) ≤ to

module _ {K : Type 0} (m : Machine K) (k : K) (w : Bool) (input old : List ℕ) (at : ℕ) where
  by_runs : (r : Passed K) → Runs m k w input 0 old at r → Goes m k w input old at (held_of r) (waits_of r) (taken_of r) (place_after r)
  by_runs r h = record { done = λ e. omega (arith, h.counts, h.done e); full = h.full; first = h.first }

  module _ {k' : K} {w' : Bool} {n : ℕ} {new : List ℕ} {to : ℕ} (l : length old < lost) (h : at ≤ length old) (e : pass_of m k w input (sheet old at) ≡ passed k' w' n new to) where
    pub progress : Goes m k w input old at k' w' n to
    progress = subst (λ (r : Passed K). Goes m k w input old at (held_of r) (waits_of r) (taken_of r) (place_after r)) e (by_runs _ (runs m k w input old at l h))

    -- no call stands still
    pub moves : ((x : K) → at + length (m.answer x) ≤ length old) → ((n ≡ length input) × (w' ≡ false)) ⊎ (at < to)
    moves room = go w' refl
      where
        go : (t : Bool) → w' ≡ t → ((n ≡ length input) × (w' ≡ false)) ⊎ (at < to)
        go true q = inr (omega (arith, progress.full q, room k'))
        go false q = inl (progress.done q, q)
