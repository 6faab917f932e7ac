-- Demand 3 holds: `Demand3`, as `specs/Demand3.antt` states it, for every accepted table and every payload that decodes with room.
-- Assumes nothing.
use mathlib.Core.Path.{◌≡◌, sym, subst}
use mathlib.Core.List.{List, ◌∷◌, ◌++◌}
use Prim.Native.Nat.{ℕ}
use native.Mathlib.Omega.{arith}
use lib.ListN.{length}
use Rattle.std.specs.Prelude.{Ok}
use Rattle.bits.specs.Bits.{bits_at, written}
use Rattle.tables.specs.Table.{Table}
use Rattle.tables.specs.Check.{check_of}
use Rattle.walking.specs.Runs.{ran}
use Rattle.walking.proofs.Visits.{all_right}
use Rattle.fields.specs.Payload.{Payload, payload_of}
use Rattle.reading.specs.declared.Span.{Span}
use Rattle.reading.specs.declared.Progress.{Progress}
use Rattle.reading.specs.Filling.{working_of, prepared_of}
use Rattle.reading.specs.Decode.{walk_of}
use Rattle.reading.specs.Demand3.{Free, Kept, Demand3, Filling}
use Rattle.reading.proofs.Working.{readied}
use Rattle.reading.proofs.Spans as spans
use Rattle.reading.proofs.Passed.{Right, walk-passed}
use Rattle.reading.proofs.Roomy.{count-unskipped}
use Rattle.reading.proofs.Changed.{kept}
use Rattle.reading.proofs.Received.{working-fills, still-long, agree-below, agree-above, new-bits}

-- under any filling that keeps the received bytes and adds to them by their number alone
module _ (fill : List ℕ → List ℕ) (f : Filling fill) (t : Table) (ok : check_of t ≡ Ok tt) (received : List ℕ) (room : ℕ) where
  change : (us : List Span) (v : Span) (ws : List Span) (s : Progress) → walk_of t (payload_of (fill received)) room ≡ ran (us ++ v ∷ ws) s → Free t received v → (x : ℕ)
      → Kept t (payload_of (fill received)) (payload_of (fill (written received v.start.0 v.bits.0 x))) room us v ws s x
  change us v ws s run free x =
      let at = v.start.0 in
      let n = v.bits.0 in
      let b' = bits_at (fill (written received at n x)) in
      subst (λ (m : ℕ). Kept t (payload_of (fill received)) (record { size = m; bits = b' }) room us v ws s x) (sym (still-long fill f received at n x free.inside))
      (kept t room (length (fill received)) (bits_at (fill received)) b' ok us v ws s run free.strict free.number free.counts
      (agree-below fill f received at n x free.inside) (agree-above fill f received at n x free.inside) x (new-bits fill f received at n x free.inside))

  pub demand-3-under : (vs : List Span) (s : Progress) → walk_of t (payload_of (fill received)) room ≡ ran vs s → Demand3 t fill received room vs s
  demand-3-under vs s run =
      let p : Payload = payload_of (fill received) in
      let w = walk-passed t p room vs s run in
      record {
        chain = w.chain;
        once = λ i l. spans.once 0 vs s.at.0 i w.chain (omega arith) l;
        none = λ i l. spans.none 0 vs s.at.0 i w.chain l;
        sum = let q = spans.sum 0 vs s.at.0 w.chain in omega arith;
        ruled = λ us v ws e. (all_right (Right t p room) us (v ∷ ws) (rw e at w.right)).0.ruled;
        inside = let l = w.inside (omega arith) in omega arith;
        count = count-unskipped t p vs;
        change = λ us v ws e free x. change us v ws s (rw e at run) free x;
      }

-- of what was received: `prepare` answers `Ok` where the payload has at most 223 bytes, the padding run 223 and the table is accepted
pub demand-3 : (t : Table) (received : List ℕ) (padded room : ℕ) (vs : List Span) (s : Progress)
    → prepared_of t (length received) padded ≡ Ok tt → walk_of t (payload_of (working_of t received)) room ≡ ran vs s → Demand3 t (working_of t) received room vs s
demand-3 t received padded room vs s ready run =
    demand-3-under (working_of t) (working-fills t) t (readied t (length received) padded ready).table received room vs s run
