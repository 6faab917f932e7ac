-- What was weighed has room. Assumes nothing.
use Rattle.std.specs.Prelude.{Result, Ok, Err, Option, Some, None, ⊤}
use mathlib.Core.Path.{◌≡◌, refl, sym}
use mathlib.Core.Bool.{Bool, true, false, not, ◌||◌}
use Prim.Native.Nat.{ℕ, ◌+◌, ◌-◌, ◌*◌, ◌/◌, ◌%◌, ◌≤◌}
use native.Mathlib.Omega.{arith}
use lib.Dec.{eqb, ltb}
use borrow.Author.Tests.{ltb-false, eqb-true, not-false}
use Rattle.weighing.specs.declared.EncodeRefusal.{EncodeRefusal}
use Rattle.bits.specs.Bits.{pick}
use Rattle.bits.specs.Calls.{bits, saturated, room_of}
use Rattle.bits.specs.declared.BitRefusal.TheVariants.{NonAlignedBit, OutOfBits}
use Rattle.bits.specs.declared.BitRefusal.{BitRefusal}
use Rattle.bits.proofs.Rooms.{fitting}
use Rattle.descriptor.specs.declared.FieldDescriptor.{FieldDescriptor}
use Rattle.descriptor.specs.declared.PgnBytes.{PgnBytes}
use Rattle.descriptor.specs.declared.PgnValue.{PgnValue}
use Rattle.descriptor.specs.declared.PgnValue.TheVariants.{U64, U32, U16, U8, I64, I32, I16, I8, F64, F32, Bytes}
use Rattle.numbers.specs.Conversions.{raw_of_lem}
use Rattle.numbers.specs.declared.NumberRefusal.{NumberRefusal}
use Rattle.numbers.specs.declared.NumberRefusal.TheVariants as number
use Rattle.fields.specs.declared.Shape.{Shape}
use Rattle.fields.specs.declared.Shape.TheVariants as shape
use Rattle.fields.specs.Shapes.{shape_of}
use Rattle.weighing.specs.declared.Lead.{Lead}
use Rattle.weighing.specs.declared.Lead.TheVariants.{Bare, Counted, Encoded, Empty}
use Rattle.weighing.specs.declared.Weighed.{Weighed}
use Rattle.weighing.specs.declared.Weighed.TheVariants.{Text}
use Rattle.weighing.specs.declared.EncodeRefusal.TheVariants.{BitWriteError, TextTooLong}
use Rattle.weighing.specs.Weigh.{if_room_lem, if_aligned_lem, at_field_lem, number_by, gap_of, text_by, unencoded, lau_by, by_bytes, weighed_by, weighed_of}
use Rattle.tables.specs.Check.{payload_max}
use Rattle.writing.specs.Ink.{Whole, Puttable}

module _ (size at lent : ℕ) where
  abbrev P : Result Weighed EncodeRefusal → Type 0
  P w = Puttable size at w lent

  picked : (b : Bool) (x y : Result Weighed EncodeRefusal) → (b ≡ true → P x) → (b ≡ false → P y) → P (pick b x y)
  picked true x y f g = f refl
  picked false x y f g = g refl

  at_room : (r : Result ⊤ BitRefusal) (i : ℕ) (w : Result Weighed EncodeRefusal) → (r ≡ Ok tt → P w) → P (at_field_lem r i w)
  at_room (Ok u) i w f = f refl
  at_room (Err e) i w f = refl

  pub gap-puts : (f : FieldDescriptor) (i : ℕ) → P (gap_of f i size at)
  gap-puts f i = at_room (room_of size at f.width 64) i _ (λ h. let g = fitting size at f.width 64 h in (g.short, g.inside))

  or-false : (a b : Bool) → (a || b) ≡ false → (a ≡ false) × (b ≡ false)
  or-false true b h = (h, cc)
  or-false false b h = (refl, h)

  module _ (small : size ≤ payload_max) where
    number-puts : (r : Result ℕ NumberRefusal) (i w : ℕ) → P (number_by r i size at w)
    number-puts (Ok x) i w = at_room (room_of size at w 64) i _ (λ h. let f = fitting size at w 64 h in (small, (f.some, (f.narrow, f.inside))))
    number-puts (Err (number.BadWidth n)) i w = refl
    number-puts (Err number.OutOfRange) i w = refl
    number-puts (Err number.WrongKind) i w = refl

    room-puts : (b : PgnBytes) (i n : ℕ) (lead : Lead) → b.start.0 + b.len.0 ≤ lent → Whole n lead b.len.0 → P (if_room_lem i size at n (Ok (Text (bits n) lead b)))
    room-puts b i n lead l w =
        picked (ltb (size * 8) (at + n)) (Err (BitWriteError i (OutOfBits (bits n) (bits (size * 8 - at))))) (Ok (Text (bits n) lead b)) (λ _. refl) (λ m. (small, (ltb-false _ _ m, (l, w))))

    aligned-puts : (i put : ℕ) (w : Result Weighed EncodeRefusal) → P w → P (if_aligned_lem i at put w)
    aligned-puts i put w h = picked (eqb (at % 8) 0) w (Err (BitWriteError i (NonAlignedBit (bits (saturated (at + put)))))) (λ _. h) (λ _. refl)

    text-puts : (b : PgnBytes) (i : ℕ) (over aligned : Bool) (put n : ℕ) (lead : Lead) → (over ≡ false → Whole n lead b.len.0) → P (text_by b i lent size at over aligned put n lead)
    text-puts b i over aligned put n lead w =
        let told : Result Weighed EncodeRefusal = if_room_lem i size at n (Ok (Text (bits n) lead b)) in
        picked (over || ltb lent (b.start.0 + b.len.0)) (Err (TextTooLong i)) (pick aligned (if_aligned_lem i at put told) told) (λ _. refl)
        (λ h. let o = or-false over (ltb lent (b.start.0 + b.len.0)) h in
        let q : P told = room-puts b i n lead (ltb-false _ _ o.1) (w o.0) in
        picked aligned (if_aligned_lem i at put told) told (λ _. aligned-puts i put told q) (λ _. q))

    unencoded-puts : (e : Option ℕ) (i : ℕ) (w : Result Weighed EncodeRefusal) → P w → P (unencoded e i w)
    unencoded-puts None i w h = h
    unencoded-puts (Some x) i w h = refl

    around-more : (n : ℕ) → 16 + 8 * n ≡ 8 * (n + 2)
    around-more n = omega arith

    lau-puts : (e : Option ℕ) (b : PgnBytes) (i : ℕ) → P (lau_by e b i lent size at)
    lau-puts None b i =
        picked (eqb b.len.0 0) _ _ (λ _. text-puts b i false false 0 8 Empty (λ _. record { bytes = 1; same = refl; fits = omega arith })) (λ _. refl)
    lau-puts (Some x) b i =
        text-puts b i (ltb 221 b.len.0) (not (eqb b.len.0 0)) 16 (16 + 8 * b.len.0) (Encoded x) (λ _. record { bytes = b.len.0 + 2; same = around-more b.len.0; fits = omega arith })

    bytes-puts : (v : PgnValue) (i : ℕ) (f : PgnBytes → Result Weighed EncodeRefusal) → ((b : PgnBytes) → P (f b)) → P (by_bytes v i f)
    bytes-puts (Bytes b) i f h = h b
    bytes-puts (U64 n) i f h = refl
    bytes-puts (U32 n) i f h = refl
    bytes-puts (U16 n) i f h = refl
    bytes-puts (U8 n) i f h = refl
    bytes-puts (I64 z) i f h = refl
    bytes-puts (I32 z) i f h = refl
    bytes-puts (I16 z) i f h = refl
    bytes-puts (I8 z) i f h = refl
    bytes-puts (F64 x) i f h = refl
    bytes-puts (F32 x) i f h = refl

    by_shape : (sh : Shape) (f : FieldDescriptor) (i : ℕ) (v : PgnValue) → P (weighed_by sh f i v lent size at)
    by_shape (shape.Number strict) f i v = number-puts (raw_of_lem f v) i f.width
    by_shape shape.Gap f i v = gap-puts f i
    by_shape shape.Fixed f i v =
        bytes-puts v i _
        (λ b. unencoded-puts b.encoding i _ (text-puts b i (ltb (f.width / 8) b.len.0) true 0 (8 * (f.width / 8)) Bare (λ o. record { bytes = f.width / 8; same = refl; fits = ltb-false _ _ o })))
    by_shape shape.Whole f i v =
        bytes-puts v i _
        (λ b. unencoded-puts b.encoding i _ (text-puts b i (not (eqb (8 * b.len.0) f.width)) true 0 f.width Bare (λ o. record { bytes = b.len.0; same = sym (eqb-true _ _ (not-false _ o)); fits = omega arith })))
    by_shape shape.Lau f i v = bytes-puts v i _ (λ b. lau-puts b.encoding b i)
    by_shape shape.Lz f i v =
        bytes-puts v i _
        (λ b. unencoded-puts b.encoding i _
        (text-puts b i (ltb 221 b.len.0) (not (eqb b.len.0 0)) 8 (16 + 8 * b.len.0) Counted (λ _. record { bytes = b.len.0 + 2; same = around-more b.len.0; fits = omega arith })))

  pub weighed-puts : (f : FieldDescriptor) (i : ℕ) (v : PgnValue) → P (weighed_of f i v lent size at)
  weighed-puts f i v = picked (ltb payload_max size) _ _ (λ _. refl) (λ h. by_shape (ltb-false _ _ h) (shape_of f) f i v)
