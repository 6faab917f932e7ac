-- What holds of each refusal that a field can give, of no room and of too many elements holds of the refusal at which a walk stops; and a decode is refused
-- before its walk or as its walk is. Assumes nothing.
use mathlib.Core.Path.{◌≡◌, refl, ap, ◌∙◌, subst}
use mathlib.Core.Bool.{Bool, true, false}
use mathlib.Core.List.{List}
use mathlib.Core.Logic.{◌⊎◌, inl, inr}
use Prim.Native.Nat.{ℕ, ◌*◌, ◌≤◌}
use native.Mathlib.Omega.{arith}
use lib.Dec.{ltb}
use lib.ListN.{length}
use Rattle.std.specs.Prelude.{Result, Ok, Err}
use Rattle.descriptor.specs.declared.FieldDescriptor.{FieldDescriptor}
use Rattle.tables.specs.Table.{Table}
use Rattle.tables.specs.Check.{check_of, payload_max}
use Rattle.walking.specs.Runs.{Run, ran, stopped}
use Rattle.walking.specs.Walk.{hit, miss, check, walk_from, Element}
use Rattle.walking.proofs.Lawful.{Looks, Lawful, lawful-stopped, lawful-fields}
use Rattle.fields.specs.declared.DecodeRefusal.{DecodeRefusal}
use Rattle.fields.specs.declared.DecodeRefusal.TheVariants.{NoRoom}
use Rattle.fields.specs.declared.Shape.{Shape}
use Rattle.fields.specs.declared.Shape.TheVariants.{Number, Gap, Fixed, Whole, Lau, Lz}
use Rattle.fields.specs.declared.FieldRead.{FieldRead}
use Rattle.fields.specs.declared.FieldRead.TheVariants as read
use Rattle.fields.specs.Payload.{Payload, payload_of}
use Rattle.fields.specs.Shapes.{shape_of}
use Rattle.fields.specs.Taken.{taken_of}
use Rattle.fields.specs.Content.{read_over, field_read_of}
use Rattle.reading.specs.declared.Span.{Span}
use Rattle.reading.specs.declared.Progress.{Progress}
use Rattle.reading.specs.Groups.{too_many}
use Rattle.reading.specs.Filling.{working_of, prepared_of}
use Rattle.reading.specs.Decode.{settled, one_of, count_of, beginning, walk_of, end_of, decoded_in, decoded_of_lem, refused_with}
use Rattle.reading.proofs.Passed.{passed-one}
use Rattle.reading.proofs.Ending.{not-both, same-refusal}
use Rattle.reading.proofs.Working.{readied, working-le}

-- what is read of a field is refused as its bits are
as-taken : (sh : Shape) (d : FieldDescriptor) (p : Payload) (at : ℕ) (o : Result ℕ DecodeRefusal) (f : DecodeRefusal) → read_over o sh d p at ≡ Err f → o ≡ Err f
as-taken sh d p at (Err e) f h = let z : e ≡ f = cc in ap Err z
as-taken (Number b) d p at (Ok n) f h = cc
as-taken Gap d p at (Ok n) f h = cc
as-taken Fixed d p at (Ok n) f h = cc
as-taken Whole d p at (Ok n) f h = cc
as-taken Lau d p at (Ok n) f h = cc
as-taken Lz d p at (Ok n) f h = cc

-- ## The walk

module _ (t : Table) (p : Payload) (room : ℕ) (P : DecodeRefusal → Type 0)
    (field : (i : ℕ) (e : Element) (last : Bool) (at : ℕ) (f : DecodeRefusal) → Looks t t.count i e last → at ≤ p.size * 8
    → taken_of p (t.field i) i last at ≡ Err f → P f)
    (full : (i : ℕ) → P (NoRoom i)) (over : (k n m : ℕ) → P (too_many k n m)) where
  no_room : (b : Bool) (i : ℕ) (v : Span) (z : Progress) (f : DecodeRefusal) → check b (NoRoom i) (hit v z) ≡ miss f → P f
  unfolding check
  no_room true i v z f h = cc
  no_room false i v z f h = let k : NoRoom i ≡ f = cc in subst P k (full i)

  -- a field that starts in the payload ends there ..
  abbrev Within : Progress → List Span → Progress → Type 0
  Within s vs z = s.at.0 ≤ p.size * 8 → z.at.0 ≤ p.size * 8

  -- .. and if it is refused, P holds
  abbrev Stops : Progress → DecodeRefusal → Type 0
  Stops s f = s.at.0 ≤ p.size * 8 → P f

  stops-by : (i : ℕ) (e : Element) (last : Bool) (s : Progress) (f : DecodeRefusal) → Looks t t.count i e last → (q : Result FieldRead DecodeRefusal)
      → field_read_of p (t.field i) i last s.at.0 ≡ q → settled t room i e s q ≡ miss f → Stops s f
  stops-by i e last s f l (Ok (read.Got n raw x)) g h w = no_room (ltb s.made room) i _ _ f h
  stops-by i e last s f l (Ok (read.Skipped n)) g h w = cc
  stops-by i e last s f l (Err x) g h w =
      let k : x ≡ f = cc in
      field i e last s.at.0 f l w
      (as-taken (shape_of (t.field i)) (t.field i) p s.at.0 (taken_of p (t.field i) i last s.at.0) f (g ∙ ap Err k))

  lawful : Lawful Within Stops beginning (walk_of t p room)
  unfolding walk_from
  lawful = lawful-fields t (one_of t p room) (count_of t p) too_many t.count Within Stops (λ s l. l) (λ s m z us ws a b l. b (a l))
      (λ i e last s v z l h. (passed-one t p room i e last s v z l h).inside)
      (λ i e last s f l h. stops-by i e last s f l (field_read_of p (t.field i) i last s.at.0) refl h)
      (λ k s w. over k _ _) beginning

  pub walk-refusal : (vs : List Span) (f : DecodeRefusal) → walk_of t p room ≡ stopped vs f → P f
  walk-refusal vs f e = let h = lawful-stopped (rw e at lawful) in h.2 (h.1 (omega arith))

-- ## All of it

module _ (t : Table) (received padded : List ℕ) (room : ℕ) (f : DecodeRefusal) (n : ℕ) (P : DecodeRefusal → Type 0)
    (walk : check_of t ≡ Ok tt → (payload_of (working_of t received)).size ≤ payload_max → (vs : List Span)
    → walk_of t (payload_of (working_of t received)) room ≡ stopped vs f → P f) where
  abbrev working : Payload
  working = payload_of (working_of t received)

  by-run : prepared_of t (length received) (length padded) ≡ Ok tt → (w : Run Span Progress DecodeRefusal) → walk_of t working room ≡ w
      → end_of t working w ≡ refused_with f n → P f
  by-run q (ran vs s) w e = not-both e
  by-run q (stopped vs x) w e =
      let k = same-refusal e in
      walk (readied t (length received) (length padded) q).table (working-le t received padded q) vs (w ∙ ap (stopped vs) k)

  by-prepared : (q : Result (Unit {0}) DecodeRefusal) → prepared_of t (length received) (length padded) ≡ q → decoded_in q t working room ≡ refused_with f n → P f ⊎ (q ≡ Err f)
  by-prepared (Ok tt) q e = inl (by-run q (walk_of t working room) refl e)
  by-prepared (Err x) q e = let k = same-refusal e in inr (ap Err k)

  -- the walk gave it, or it was given before
  pub decode-refusal : decoded_of_lem t received (length padded) room ≡ refused_with f n → P f ⊎ (prepared_of t (length received) (length padded) ≡ Err f)
  decode-refusal h = by-prepared (prepared_of t (length received) (length padded)) refl h
