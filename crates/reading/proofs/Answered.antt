-- What demand 3 says of the calls: of `for_each_field`, whose answer is `decoded_of_lem`, and of `next_field`, which hands out `handed_in`; and
-- how much room is enough. Assumes nothing.
use mathlib.Core.Path.{◌≡◌, refl, sym, ap, ◌∙◌, subst}
use mathlib.Core.Bool.{Bool, true, false}
use mathlib.Core.List.{List, ◌∷◌, ◌++◌}
use Prim.Native.Nat.{ℕ, ◌*◌, ◌%◌, ◌^◌, ◌≤◌, ◌<◌}
use native.Mathlib.Omega.{arith}
use lib.ListN.{length}
use Rattle.bits.specs.declared.BitRefusal.{BitRefusal}
use Rattle.std.specs.Prelude.{Result, Ok, Err, Some, ⊤}
use Rattle.bits.specs.Bits.{written}
use Rattle.bits.specs.declared.BitPos.{BitPos}
use Rattle.bits.specs.Calls.{cursor_at, width_max, written_in, written_of}
use Rattle.bits.proofs.Rooms.{Fitting, fitting, room_fits}
use Rattle.bits.proofs.Laws.{length-written}
use Rattle.tables.specs.Table.{Table}
use Rattle.tables.specs.Check.{check_of, payload_max}
use Rattle.walking.specs.Runs.{Run, ran, stopped}
use Rattle.fields.specs.declared.DecodeRefusal.{DecodeRefusal}
use Rattle.fields.specs.declared.DecodeRefusal.TheVariants.{NoRoom}
use Rattle.fields.specs.declared.Shape.{Shape}
use Rattle.fields.specs.declared.Shape.TheVariants.{Number}
use Rattle.fields.specs.Payload.{Payload, payload_of}
use Rattle.fields.specs.Shapes.{shape_of}
use Rattle.fields.specs.Taken.{short_of, room_at, taken_by}
use Rattle.reading.specs.declared.Span.{Span}
use Rattle.reading.specs.declared.Reading.{Reading}
use Rattle.reading.specs.declared.Progress.{Progress}
use Rattle.reading.specs.declared.Walk.{Walk}
use Rattle.reading.specs.Filling.{working_of, prepared_of}
use Rattle.reading.specs.Decode.{walk_of, reading_of, readings, spans_of, end_of, decoded_in, decoded_of_lem, read_into, readings_of, ended_at, refused_with}
use Rattle.reading.specs.Steps.{start_of, next_of, handed_in}
use Rattle.reading.specs.Demand3.{unskipped_in, Free, span_in, room_enough_lem}
use Rattle.reading.proofs.Ending.{not-both, same-refusal}
use Rattle.reading.proofs.Working.{readied, working-le}
use Rattle.reading.proofs.Looped.{Going, turned, handed_out}
use Rattle.reading.proofs.Roomy.{count-unskipped, never-full, never-prepared}
use Rattle.reading.proofs.Demand3.{demand-3}

-- ## One run

-- a payload that decodes
pub record Decodes (t : Table) (received : List ℕ) (padded room : ℕ) (vs : List Span) (s : Progress) : Type 0 where
  pub ready : prepared_of t (length received) padded ≡ Ok tt
  pub run : walk_of t (payload_of (working_of t received)) room ≡ ran vs s

module _ (t : Table) (received : List ℕ) (padded room : ℕ) where
  -- the working payload
  abbrev working : Payload
  working = payload_of (working_of t received)

  -- an end is answered where it decodes: the end that the spans come to, and the number of fields met that are not skipped
  pub answers : (vs : List Span) (s : Progress) → Decodes t received padded room vs s → decoded_of_lem t received padded room ≡ ended_at s.at (unskipped_in t vs)
  answers vs s d =
      ap (λ (q : Result (Unit {0}) DecodeRefusal). decoded_in q t working room) d.ready ∙ ap (end_of t working) d.run ∙ ap (ended_at s.at) (count-unskipped t working vs)

  by-run : (end : BitPos) (n : ℕ) → prepared_of t (length received) padded ≡ Ok tt → (w : Run Span Progress DecodeRefusal) → walk_of t working room ≡ w
      → end_of t working w ≡ ended_at end n → (vs : List Span) × (s : Progress) × Decodes t received padded room vs s
  by-run end n q (ran vs s) w e = (vs, s, record { ready = q; run = w })
  by-run end n q (stopped vs f) w e = not-both (sym e)

  by-prepared : (end : BitPos) (n : ℕ) (q : Result (Unit {0}) DecodeRefusal) → prepared_of t (length received) padded ≡ q → decoded_in q t working room ≡ ended_at end n
      → (vs : List Span) × (s : Progress) × Decodes t received padded room vs s
  by-prepared end n (Ok tt) q e = by-run end n q (walk_of t working room) refl e
  by-prepared end n (Err x) q e = not-both (sym e)

  -- .. and nowhere else
  pub answered : (end : BitPos) (n : ℕ) → decoded_of_lem t received padded room ≡ ended_at end n → (vs : List Span) × (s : Progress) × Decodes t received padded room vs s
  answered end n h = by-prepared end n (prepared_of t (length received) padded) refl h

  pub reads : (vs : List Span) (s : Progress) → Decodes t received padded room vs s → readings_of t received padded room ≡ readings t working vs
  reads vs s d = ap (λ (q : Result (Unit {0}) DecodeRefusal). read_into q t working room) d.ready ∙ ap (λ (r : Run Span Progress DecodeRefusal). readings t working (spans_of r)) d.run

-- ## Two runs

-- a number that was read can be written where it stands
number_fits : (p : Payload) (i : ℕ) (early : Bool) (w at n : ℕ) (sh : Shape) (strict : Bool) → sh ≡ Number strict → taken_by sh p i early w at ≡ Ok n → Fitting p.size at n width_max
number_fits p i early w at n sh strict q e = go strict (room_at p at w) refl (ap (λ (x : Shape). taken_by x p i early w at) (sym q) ∙ e)
  where
    go : (b : Bool) (r : Result ⊤ BitRefusal) → room_at p at w ≡ r → short_of b i r (Ok w) ≡ Ok n → Fitting p.size at n width_max
    go true (Ok u) h g = let y : w ≡ n = cc in subst (λ (m : ℕ). Fitting p.size at m width_max) y (fitting p.size at w width_max h)
    go false (Ok u) h g = let y : w ≡ n = cc in subst (λ (m : ℕ). Fitting p.size at m width_max) y (fitting p.size at w width_max h)
    go true (Err x) h g = cc
    go false (Err x) h g = cc

-- over what was received, and over it with one number, at v, changed to the bits of x: `for_each_field` answers the same end and count, and
-- `next_field` hands out the same readings but the one at v, which stands there still and has x's bits as its raw
pub record TwoRuns (t : Table) (received received' : List ℕ) (padded room : ℕ) (v : Span) (x : ℕ) : Type 0 where
  -- the change is what a write of x into the span leaves, which the bit call accepts
  pub call : written_of received (cursor_at v.start.0) v.bits.0 width_max x ≡ received'
  pub answer : decoded_of_lem t received' padded room ≡ decoded_of_lem t received padded room
  pub before : List Reading
  pub old : Reading
  pub new : Reading
  pub later : List Reading
  pub were : readings_of t received padded room ≡ before ++ old ∷ later
  pub are : readings_of t received' padded room ≡ before ++ new ∷ later
  pub handed : (turns : ℕ) → t.count * 20000 < turns → handed_in t (payload_of (working_of t received)) room turns start_of ≡ before ++ old ∷ later
  pub handed' : (turns : ℕ) → t.count * 20000 < turns → handed_in t (payload_of (working_of t received')) room turns start_of ≡ before ++ new ∷ later
  pub stood : span_in old ≡ v
  pub stands : span_in new ≡ v
  pub raw : new.raw ≡ Some (x % 2 ^ v.bits.0)

pub two_runs : (t : Table) (received : List ℕ) (padded room : ℕ) (us : List Span) (v : Span) (ws : List Span) (s : Progress)
    → Decodes t received padded room (us ++ v ∷ ws) s → Free t received v → (x : ℕ) → TwoRuns t received (written received v.start.0 v.bits.0 x) padded room v x
two_runs t received padded room us v ws s d free x =
    let received' = written received v.start.0 v.bits.0 x in
    let p = payload_of (working_of t received) in
    let vs = us ++ v ∷ ws in
    let d3 = demand-3 t received padded room vs s d.ready d.run in
    let k = d3.change us v ws refl free x in
    let ready : prepared_of t (length received') padded ≡ Ok tt = ap (λ (n : ℕ). prepared_of t n padded) (length-written received v.start.0 v.bits.0 x) ∙ d.ready in
    let d' : Decodes t received' padded room vs s = record { ready = ready; run = k.decodes } in
    let f = t.field v.field in
    let fits = number_fits p v.field _ f.width v.start.0 v.bits.0 (shape_of f) free.strict free.number (d3.ruled us v ws refl) in
    let short : length received ≤ payload_max = (readied t (length received) padded d.ready).payload in
    let a = reads t received padded room vs s d ∙ k.were in
    let b = reads t received' padded room vs s d' ∙ k.are in
    record {
      call = ap (λ (r : Result ⊤ BitRefusal). written_in r received (cursor_at v.start.0) v.bits.0 x)
          (room_fits (length received) v.start.0 v.bits.0 width_max (record { short = omega arith; some = fits.some; narrow = fits.narrow; inside = omega (arith, free.inside) }));
      answer = answers t received' padded room vs s d' ∙ sym (answers t received padded room vs s d);
      before = readings t p us;
      old = reading_of t p v;
      new = reading_of t (payload_of (working_of t received')) v;
      later = readings t p ws;
      were = a;
      are = b;
      handed = λ turns l. handed_out t received padded room turns d.ready l ∙ a;
      handed' = λ turns l. handed_out t received' padded room turns ready l ∙ b;
      stood = refl;
      stands = refl;
      raw = k.new;
    }

-- ## Room

-- with room for 1,785 readings 9 is never given: a payload has at most 223 bytes, and `never-full` says why one more than its bits is enough
never-by-run : (t : Table) → check_of t ≡ Ok tt → (p : Payload) → p.size ≤ payload_max → (room : ℕ) → room_enough_lem ≤ room → (i n : ℕ) (w : Run Span Progress DecodeRefusal)
    → walk_of t p room ≡ w → end_of t p w ≡ refused_with (NoRoom i) n → ⊥
never-by-run t ok p small room enough i n (ran vs s) w e = not-both e
never-by-run t ok p small room enough i n (stopped vs f) w e =
    let g = same-refusal e in
    never-full t ok p room (omega arith) vs i (w ∙ ap (stopped vs) g)

module _ (t : Table) (received padded : List ℕ) (room : ℕ) (enough : room_enough_lem ≤ room) (i n : ℕ) where
  full-by-prepared : (q : Result (Unit {0}) DecodeRefusal) → prepared_of t (length received) (length padded) ≡ q → decoded_in q t (payload_of (working_of t received)) room ≡ refused_with (NoRoom i) n → ⊥
  full-by-prepared (Ok tt) q e =
      never-by-run t (readied t (length received) (length padded) q).table (payload_of (working_of t received)) (working-le t received padded q) room enough i n _ refl e
  full-by-prepared (Err x) q e = let g = same-refusal e in never-prepared t (length received) (length padded) i (q ∙ ap Err g)

  pub enough-room : decoded_of_lem t received (length padded) room ≡ refused_with (NoRoom i) n → ⊥
  enough-room h = full-by-prepared (prepared_of t (length received) (length padded)) refl h

-- nor is it by a turn, at any place of the walk from `start` on
pub enough-turn : (t : Table) → check_of t ≡ Ok tt → (p : Payload) → p.size ≤ payload_max → (room : ℕ) → room_enough_lem ≤ room → (w : Walk) → Going t p room w → (i : ℕ)
    → (next_of t p room w).answer ≡ Err (NoRoom i) → ⊥
enough-turn t ok p small room enough w g i h = never-by-run t ok p small room enough i _ (walk_of t p room) refl ((turned t p room ok w g).stops (NoRoom i) h)
