-- The working payload: what `prepare` rules out and leaves in the padding run, and what `pad_to_min_length` picks of it.
-- Assumes nothing.
use mathlib.Core.Path.{◌≡◌, refl, ap, ◌∙◌}
use mathlib.Core.Bool.{Bool, true, false, and-eq-true_iff}
use mathlib.Core.List.{List, ◌++◌}
use Prim.Native.Nat.{ℕ, ◌≤◌, ◌<◌}
use native.Mathlib.Nat.{le_of_lt}
use lib.Dec.{leb, ltb, eqb}
use lib.ListN.{length, drop}
use lib.Seq.{take_at}
use borrow.Author.Tests.{ltb-true, ltb-false, eqb-true}
use Rattle.std.specs.Prelude.{Result, Ok, Err}
use Rattle.bits.specs.Bits.{pick}
use Rattle.tables.specs.Table.{Table}
use Rattle.tables.specs.Check.{Checked, check_of, payload_max}
use Rattle.tables.proofs.Accepted.{sizes}
use Rattle.fields.specs.declared.DecodeRefusal.{DecodeRefusal}
use Rattle.reading.specs.Filling.{fills, working_of, padded_of, picked_of, by_check, prepared_of, kept_unless, run_after}
use Rattle.fields.proofs.Filled.{full, length-full}

-- ---- refusals 7 and 8

passed : (b : Bool) (e : DecodeRefusal) (later : Result (Unit {0}) DecodeRefusal) → pick b (Err e) later ≡ Ok tt → (b ≡ false) × (later ≡ Ok tt)
passed true e later h = cc
passed false e later h = (refl, h)

met : (b : Bool) (later : Result (Unit {0}) DecodeRefusal) (e : DecodeRefusal) → pick b later (Err e) ≡ Ok tt → (b ≡ true) × (later ≡ Ok tt)
met true later e h = (refl, h)
met false later e h = cc

by-check : (c : Checked) → by_check c ≡ Ok tt → c ≡ Ok tt
by-check (Ok tt) h = refl
by-check (Err b) h = cc

-- what they rule out
pub record Readied (t : Table) (received padded : ℕ) : Type 0 where
  pub payload : received ≤ payload_max
  pub run : padded ≡ payload_max
  pub table : check_of t ≡ Ok tt

pub readied : (t : Table) (received padded : ℕ) → prepared_of t received padded ≡ Ok tt → Readied t received padded
readied t received padded h =
    let a = passed (ltb payload_max received) _ _ h in
    let b = met (eqb padded payload_max) _ _ a.1 in
    record { payload = ltb-false _ _ a.0; run = eqb-true _ _ b.0; table = by-check _ b.1 }

-- ---- the padding run

-- a payload that is filled is shorter than the table's length
pub filled-lt : (t : Table) (received : ℕ) → fills t received ≡ true → received < t.length
filled-lt t received h =
    let b = (and-eq-true_iff (leb 1 t.minimum) _).0 h in
    ltb-true _ _ ((and-eq-true_iff (leb t.minimum received) _).0 b.1).1

-- a refused call leaves the run as it was
pub run-refused : (t : Table) (received padded : List ℕ) {e : DecodeRefusal} → prepared_of t (length received) (length padded) ≡ Err e → run_after t received padded ≡ padded
run-refused t received padded h = ap (λ (p : Result (Unit {0}) DecodeRefusal). kept_unless p (padded_of t received padded) padded) h

module _ (t : Table) (received padded : List ℕ) (ready : prepared_of t (length received) (length padded) ≡ Ok tt) where
  run-ready : run_after t received padded ≡ padded_of t received padded
  run-ready = ap (λ (p : Result (Unit {0}) DecodeRefusal). kept_unless p (padded_of t received padded) padded) ready

  -- so does one that fills nothing
  pub run-kept : fills t (length received) ≡ false → run_after t received padded ≡ padded
  run-kept h = run-ready ∙ rw h

  pub run-filled : fills t (length received) ≡ true → run_after t received padded ≡ full received t.length ++ drop t.length padded
  run-filled h = run-ready ∙ rw h

  -- ---- the working payload

  -- a payload that is filled has the table's length
  full-length : fills t (length received) ≡ true → length (full received t.length) ≡ t.length
  full-length h = length-full received t.length (le_of_lt (filled-lt t (length received) h))

  picked-by : (b : Bool) → fills t (length received) ≡ b → picked_of t received (run_after t received padded) ≡ working_of t received
  picked-by true h = rw (run-filled h, h) (take_at (full received t.length) _ t.length (full-length h))
  picked-by false h = rw h

  -- what is picked of the run that `prepare` leaves is the working payload
  pub picked-working : picked_of t received (run_after t received padded) ≡ working_of t received
  picked-working = picked-by (fills t (length received)) refl

  -- it is read by an accepted table
  pub ready-accepted : check_of t ≡ Ok tt
  ready-accepted = (readied t (length received) (length padded) ready).table

  working-by : (b : Bool) → fills t (length received) ≡ b → length (working_of t received) ≤ payload_max
  working-by true h = rw (h, full-length h) (sizes t ready-accepted).length
  working-by false h = rw h (readied t (length received) (length padded) ready).payload

  -- and is of 223 bytes at most
  pub working-le : length (working_of t received) ≤ payload_max
  working-le = working-by (fills t (length received)) refl
