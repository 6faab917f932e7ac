-- The count of readings, and the room that is always enough. Assumes nothing.
use mathlib.Core.Path.{◌≡◌, refl, ap, ◌∙◌}
use mathlib.Core.Bool.{Bool, true, false}
use mathlib.Core.Logic.{inl, inr}
use mathlib.Core.List.{List, [], ◌∷◌}
use Prim.Native.Nat.{ℕ, ◌+◌, ◌*◌, ◌≤◌, ◌<◌}
use native.Mathlib.Omega.{arith}
use lib.ListN.{length}
use lib.Dec.{ltb, eqb}
use Rattle.std.specs.Prelude.{Err, Ok}
use Rattle.bits.specs.Bits.{pick}
use Rattle.bits.specs.Calls.{bytes}
use Rattle.tables.specs.Table.{Table}
use Rattle.tables.specs.Check.{Checked, check_of, payload_max}
use Rattle.walking.specs.Runs.{Run, ran, stopped}
use Rattle.walking.proofs.Visits.{All, Ending}
use Rattle.fields.specs.declared.DecodeRefusal.{DecodeRefusal}
use Rattle.fields.specs.declared.DecodeRefusal.TheVariants.{WrongLength, NoRoom}
use Rattle.fields.specs.declared.Shape.{Shape}
use Rattle.fields.specs.declared.Shape.TheVariants.{Number, Gap, Fixed, Whole, Lau, Lz}
use Rattle.fields.specs.Payload.{Payload}
use Rattle.fields.specs.Shapes.{shape_of}
use Rattle.reading.specs.declared.Span.{Span}
use Rattle.reading.specs.declared.Reading.{Reading}
use Rattle.reading.specs.declared.Progress.{Progress}
use Rattle.reading.specs.Filling.{by_check, prepared_of}
use Rattle.reading.specs.Decode.{walk_of, reading_of, with_reading, readings, spans_of}
use Rattle.reading.specs.Demand3.{total, unskipped, unskipped_in}
use Rattle.reading.proofs.Spans.{sum}
use Rattle.reading.proofs.Passed.{Right, walk-passed, walk-stopped, walk-full}
use Rattle.reading.proofs.Lasts.{Early, ran-early, stopped-early, early-some}

-- ## The count of readings is that of the fields that are not skipped

with-length : (sh : Shape) (r : Reading) (rs : List Reading) → length (with_reading sh r rs) ≡ unskipped sh + length rs
with-length (Number strict) r rs = omega arith
with-length Gap r rs = omega arith
with-length Fixed r rs = omega arith
with-length Whole r rs = omega arith
with-length Lau r rs = omega arith
with-length Lz r rs = omega arith

pub count-unskipped : (t : Table) (p : Payload) (vs : List Span) → length (readings t p vs) ≡ unskipped_in t vs
unfolding readings unskipped_in
count-unskipped t p [] = refl
count-unskipped t p (v ∷ vs) =
    let sh = shape_of (t.field v.field) in
    with-length sh (reading_of t p v) (readings t p vs) ∙ ap (λ (n : ℕ). unskipped sh + n) (count-unskipped t p vs)

one-most : (sh : Shape) → unskipped sh ≤ 1
one-most (Number strict) = omega arith
one-most Gap = omega arith
one-most Fixed = omega arith
one-most Whole = omega arith
one-most Lau = omega arith
one-most Lz = omega arith

-- ## Room

-- fields of a bit or more are no more than the bits
module _ (t : Table) (ok : check_of t ≡ Ok tt) (p : Payload) (room : ℕ) where
  few : (vs : List Span) → All (Right t p room) vs → All (Early t ok p room) vs → unskipped_in t vs ≤ total vs
  unfolding unskipped_in total
  few [] r h = omega arith
  few (v ∷ vs) r h =
      let a = early-some t ok p room v r.0 h.0 in
      let b = few vs r.1 h.1 in
      let c = one-most (shape_of (t.field v.field)) in
      omega arith

  -- .. and one more, where the last may take none
  few-ending : (vs : List Span) → All (Right t p room) vs → Ending (Early t ok p room) vs → unskipped_in t vs ≤ total vs + 1
  unfolding unskipped_in total
  few-ending [] r h = omega arith
  few-ending (v ∷ vs) r (inl e, h) =
      let a = early-some t ok p room v r.0 e in
      let b = few-ending vs r.1 h in
      let c = one-most (shape_of (t.field v.field)) in
      omega arith
  few-ending (v ∷ []) r (inr e, h) = let c = one-most (shape_of (t.field v.field)) in omega arith
  few-ending (v ∷ w ∷ vs) r (inr e, h) = cc

  -- so, whatever the room, a walk hands out at most one reading more than the payload has bits
  few-by : (x : Run Span Progress DecodeRefusal) → walk_of t p room ≡ x → length (readings t p (spans_of x)) ≤ p.size * 8 + 1
  few-by (ran vs s) e =
      let f = walk-passed t p room vs s e in
      let c = few-ending vs f.right (ran-early t ok p room vs s e) in
      let q = sum 0 vs s.at.0 f.chain in
      let n = count-unskipped t p vs in
      let u = f.inside (omega arith) in
      omega arith
  few-by (stopped vs b) e =
      let f = walk-stopped t p room vs b e in
      let c = few vs f.1.right (stopped-early t ok p room vs b e) in
      let q = sum 0 vs f.0.at.0 f.1.chain in
      let n = count-unskipped t p vs in
      let u = f.1.inside (omega arith) in
      omega arith

  pub few-readings : length (readings t p (spans_of (walk_of t p room))) ≤ p.size * 8 + 1
  few-readings = few-by (walk_of t p room) refl

  -- Room for one reading more than the payload has bits never gives 9. Each field met before the one that would find no room takes a bit or
  -- more, so that these are no more than the bits up to it; only the last StringFix, outside a set, may take none, and no field follows it:
  -- it is the one more
  pub never-full : p.size * 8 < room → (vs : List Span) (i : ℕ) → walk_of t p room ≡ stopped vs (NoRoom i) → ⊥
  never-full l vs i e =
      let f = walk-full t p room vs i e in
      let c = few vs f.1.right (stopped-early t ok p room vs (NoRoom i) e) in
      let q = sum 0 vs f.0.at.0 f.1.chain in
      let n = count-unskipped t p vs in
      let m = f.1.made in
      let u = f.1.inside (omega arith) in
      omega (arith, f.2)

-- nor do the refusals that come before the walk
pub never-prepared : (t : Table) (received padded i : ℕ) → prepared_of t received padded ≡ Err (NoRoom i) → ⊥
never-prepared t received padded i h = go (ltb payload_max received) (eqb padded payload_max) (check_of t) h
  where
    go : (a b : Bool) (c : Checked) → pick a (Err (WrongLength (bytes received))) (pick b (by_check c) (Err (WrongLength (bytes padded)))) ≡ Err (NoRoom i) → ⊥
    go true b c e = cc
    go false false c e = cc
    go false true (Ok tt) e = cc
    go false true (Err b) e = cc
