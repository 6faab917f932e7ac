-- A reading whose raw is none has text or bytes: so its line has place:length, and never the '-' of any other value. Assumes nothing.
use mathlib.Core.Path.{◌≡◌}
use Prim.Native.Nat.{ℕ}
use native.Mathlib.Omega.{arith}
use Rattle.std.specs.Prelude.{None}
use Rattle.descriptor.specs.declared.FieldDescriptor.{FieldDescriptor}
use Rattle.descriptor.specs.declared.PgnValue.{PgnValue}
use Rattle.descriptor.specs.declared.PgnValue.TheVariants.{U64, U32, U16, U8, I64, I32, I16, I8, F64, F32, Bytes}
use Rattle.tables.specs.Table.{Table}
use Rattle.fields.specs.declared.Shape.{Shape}
use Rattle.fields.specs.declared.Shape.TheVariants.{Number, Gap, Fixed, Whole, Lau, Lz}
use Rattle.fields.specs.Payload.{Payload}
use Rattle.fields.specs.Shapes.{shape_of}
use Rattle.fields.specs.Content.{raw_in, value_in}
use Rattle.reading.specs.declared.Span.{Span}
use Rattle.reading.specs.Decode.{reading_of}

abbrev pub IsBytes : PgnValue → Type 0
IsBytes (U64 x) = ⊥
IsBytes (U32 x) = ⊥
IsBytes (U16 x) = ⊥
IsBytes (U8 x) = ⊥
IsBytes (I64 x) = ⊥
IsBytes (I32 x) = ⊥
IsBytes (I16 x) = ⊥
IsBytes (I8 x) = ⊥
IsBytes (F64 x) = ⊥
IsBytes (F32 x) = ⊥
IsBytes (Bytes b) = Unit {0}

by_shape : (sh : Shape) (f : FieldDescriptor) (p : Payload) (at n : ℕ) → raw_in sh p at n ≡ None → IsBytes (value_in sh f p at n)
by_shape (Number strict) f p at n h = let z : ◌≡◌ {A = ℕ} 0 1 = cc in absurd (omega arith)
by_shape Gap f p at n h = tt
by_shape Fixed f p at n h = tt
by_shape Whole f p at n h = tt
by_shape Lau f p at n h = tt
by_shape Lz f p at n h = tt

pub absent-is-bytes : (t : Table) (p : Payload) (v : Span) → (reading_of t p v).raw ≡ None → IsBytes (reading_of t p v).value
absent-is-bytes t p v h = let f = t.field v.field in by_shape (shape_of f) f p v.start.0 v.bits.0 h
