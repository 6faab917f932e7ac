-- What walks, over any kind of visit, of state and of fault: document 01, "Reading a payload" and "Writing a payload", both go by these.
use Rattle.std.specs.Prelude.{ℕ, zero, suc, Bool, true, false, List, [], ◌++◌}

-- what was met, and the state after it or the fault that ended it
pub data Run (W S F : Type 0) : Type 0 where
  ran : List W → S → Run W S F
  stopped : List W → F → Run W S F

module _ {W S F : Type 0} where
  -- the fault where the test fails
  unfoldable pub guard : Bool → F → Run W S F → Run W S F
  guard true f w = w
  guard false f w = stopped [] f

  -- what was met before comes first
  unfoldable pub after : List W → Run W S F → Run W S F
  after us (ran vs s) = ran (us ++ vs) s
  after us (stopped vs f) = stopped (us ++ vs) f

  -- one walk and then the next, from the state that the first left
  unfoldable pub and_then : Run W S F → (S → Run W S F) → Run W S F
  and_then (ran us s) k = after us (k s)
  and_then (stopped us f) k = stopped us f

  -- f i, f (i + 1), .. one after the other, n of them
  unfoldable pub times : ℕ → ℕ → (ℕ → S → Run W S F) → S → Run W S F
  times zero i f s = ran [] s
  times (suc n) i f s = and_then (f i s) (times n (suc i) f)
