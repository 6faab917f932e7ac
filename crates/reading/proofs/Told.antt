-- What a field that was read says of itself. Assumes nothing.
use mathlib.Core.Path.{◌≡◌, refl, ap, subst}
use mathlib.Core.Bool.{Bool}
use mathlib.Core.List.{List, ◌∷◌}
use Prim.Native.Nat.{ℕ}
use Rattle.std.specs.Prelude.{Option, Result, Ok, Err}
use Rattle.bits.specs.declared.BitPos.{BitPos}
use Rattle.descriptor.specs.declared.FieldDescriptor.{FieldDescriptor}
use Rattle.descriptor.specs.declared.PgnValue.{PgnValue}
use Rattle.fields.specs.declared.DecodeRefusal.{DecodeRefusal}
use Rattle.fields.specs.declared.Shape.{Shape}
use Rattle.fields.specs.declared.Shape.TheVariants.{Number, Gap, Fixed, Whole, Lau, Lz}
use Rattle.fields.specs.declared.FieldRead.TheVariants as read
use Rattle.reading.specs.declared.Reading.{Reading}
use Rattle.reading.specs.declared.Span.{Span}
use Rattle.reading.specs.declared.Answer.TheVariants.{Met, Skipped}
use Rattle.fields.specs.Payload.{Payload}
use Rattle.fields.specs.Shapes.{shape_of}
use Rattle.fields.specs.Taken.{taken_of}
use Rattle.fields.specs.Content.{raw_in, value_in, read_over, field_read_of}
use Rattle.reading.specs.Decode.{with_reading}
use Rattle.reading.specs.Steps.{met_by}
use Rattle.fields.proofs.Inside.{Fits, Inside, taken_in, took_in}

-- a field that takes n bits and has a reading
pub record Told (sh : Shape) (f : FieldDescriptor) (p : Payload) (at : ℕ) (o : Result ℕ DecodeRefusal) (n : ℕ) (r : Option ℕ) (x : PgnValue) : Type 0 where
  pub took : o ≡ Ok n
  pub raw : r ≡ raw_in sh p at n
  pub value : x ≡ value_in sh f p at n
  pub met : (q : Reading) (v : Span) → met_by sh q v ≡ Met q
  pub kept : (q : Reading) (qs : List Reading) → with_reading sh q qs ≡ q ∷ qs

-- a field that takes n bits and is skipped
pub record Gone (sh : Shape) (o : Result ℕ DecodeRefusal) (n : ℕ) : Type 0 where
  pub took : o ≡ Ok n
  pub met : (q : Reading) (v : Span) → met_by sh q v ≡ Skipped v
  pub kept : (q : Reading) (qs : List Reading) → with_reading sh q qs ≡ qs

module _ (f : FieldDescriptor) (p : Payload) (at : ℕ) (n : BitPos) where
  got-by : (r : Option ℕ) (x : PgnValue) (o : Result ℕ DecodeRefusal) (sh : Shape) → read_over o sh f p at ≡ Ok (read.Got n r x) → Told sh f p at o n.0 r x
  got-by r x (Err e) sh h = cc
  got-by r x (Ok m) Gap h = cc
  got-by r x (Ok m) (Number b) h = let e : m ≡ n.0 = cc in record { took = ap Ok e; raw = cc; value = cc; met = λ q v. refl; kept = λ q qs. refl }
  got-by r x (Ok m) Fixed h = let e : m ≡ n.0 = cc in record { took = ap Ok e; raw = cc; value = cc; met = λ q v. refl; kept = λ q qs. refl }
  got-by r x (Ok m) Whole h = let e : m ≡ n.0 = cc in record { took = ap Ok e; raw = cc; value = cc; met = λ q v. refl; kept = λ q qs. refl }
  got-by r x (Ok m) Lau h = let e : m ≡ n.0 = cc in record { took = ap Ok e; raw = cc; value = cc; met = λ q v. refl; kept = λ q qs. refl }
  got-by r x (Ok m) Lz h = let e : m ≡ n.0 = cc in record { took = ap Ok e; raw = cc; value = cc; met = λ q v. refl; kept = λ q qs. refl }

  gone-by : (o : Result ℕ DecodeRefusal) (sh : Shape) → read_over o sh f p at ≡ Ok (read.Skipped n) → Gone sh o n.0
  gone-by (Err e) sh h = cc
  gone-by (Ok m) Gap h = let e : m ≡ n.0 = cc in record { took = ap Ok e; met = λ q v. refl; kept = λ q qs. refl }
  gone-by (Ok m) (Number b) h = cc
  gone-by (Ok m) Fixed h = cc
  gone-by (Ok m) Whole h = cc
  gone-by (Ok m) Lau h = cc
  gone-by (Ok m) Lz h = cc

  pub told : (i : ℕ) (early : Bool) (r : Option ℕ) (x : PgnValue) → field_read_of p f i early at ≡ Ok (read.Got n r x) → Told (shape_of f) f p at (taken_of p f i early at) n.0 r x
  told i early r x h = got-by r x (taken_of p f i early at) (shape_of f) h

  pub gone : (i : ℕ) (early : Bool) → field_read_of p f i early at ≡ Ok (read.Skipped n) → Gone (shape_of f) (taken_of p f i early at) n.0
  gone i early h = gone-by (taken_of p f i early at) (shape_of f) h

  -- what is taken lies in the payload
  pub lies_in : (i : ℕ) (early : Bool) → taken_of p f i early at ≡ Ok n.0 → Fits p at n.0
  lies_in i early h = took_in p at (subst (λ (o : Result ℕ DecodeRefusal). Inside p at o) h (taken_in p at (shape_of f) i early f.width))
