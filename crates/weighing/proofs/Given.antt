-- "No refusal is given otherwise", of one value in a field of an accepted table, in a buffer of 223 bytes at most: 2, 3, 10, 11 or 13, never 1 or 6.
-- Assumes nothing.
use Rattle.bits.specs.declared.BitRefusal.{BitRefusal}
use Rattle.std.specs.Prelude.{Result, Ok, Err, Option, Some, None, ⊤}
use mathlib.Core.Path.{◌≡◌, refl, sym, ap, ◌∙◌}
use mathlib.Core.Bool.{Bool, true, false, not}
use Prim.Native.Nat.{ℕ, ◌+◌, ◌*◌, ◌/◌, ◌%◌, ◌≤◌, ◌<◌}
use lib.Dec.{eqb, ltb}
use Rattle.weighing.specs.declared.EncodeRefusal.{EncodeRefusal}
use Rattle.bits.specs.Bits.{pick}
use Rattle.bits.specs.Calls.{bits, room_of, width_max}
use Rattle.descriptor.specs.declared.FieldDescriptor.{FieldDescriptor}
use Rattle.descriptor.specs.declared.PgnBytes.{PgnBytes}
use Rattle.descriptor.specs.declared.PgnValue.{PgnValue}
use Rattle.descriptor.specs.declared.PgnValue.TheVariants.{U64, U32, U16, U8, I64, I32, I16, I8, F64, F32, Bytes}
use Rattle.numbers.specs.Holds.{holds_of}
use Rattle.numbers.specs.Conversions.{held_raw_of, if_held, raw_of_lem}
use Rattle.numbers.proofs.Fitting.{no-width}
use Rattle.numbers.specs.declared.NumberRefusal.{NumberRefusal}
use Rattle.numbers.specs.declared.NumberRefusal.TheVariants as number
use Rattle.tables.specs.Table.{Table}
use Rattle.tables.specs.Check.{check_of, payload_max}
use Rattle.fields.specs.declared.Shape.{Shape}
use Rattle.fields.specs.declared.Shape.TheVariants as shape
use Rattle.fields.specs.Shapes.{shape_of, is_number, is_gap_lem}
use Rattle.fields.proofs.Cut.{in_bits}
use Rattle.fields.proofs.Numeric.{holds-number}
use Rattle.fields.proofs.Given.{Fair, fits, beyond-bits, beyond-bytes, unaligned, bits-fair}
use Rattle.weighing.specs.declared.Lead.{Lead}
use Rattle.weighing.specs.declared.Lead.TheVariants.{Bare, Counted, Encoded, Empty}
use Rattle.weighing.specs.declared.Weighed.{Weighed}
use Rattle.weighing.specs.declared.Weighed.TheVariants.{Number, Gap, Text}
use Rattle.weighing.specs.Refusals.{number_of, given_by_encode}
use Rattle.weighing.specs.Weigh.{text_max, at_field_lem, if_room_lem, number_by, gap_of, too_long_lem, text_by, unencoded, lau_by, by_bytes, weighed_by, weighed_of}

-- what is weighed, or a refusal that an encode gives
abbrev pub Given : Result Weighed EncodeRefusal → Type 0
Given (Ok w) = Unit {0}
Given (Err f) = given_by_encode (number_of f) ≡ true

at_field : {r : Result ⊤ BitRefusal} (i : ℕ) (w : Result Weighed EncodeRefusal) → Fair r → Given w → Given (at_field_lem r i w)
at_field i w fits h = h
at_field i w beyond-bits h = refl
at_field i w beyond-bytes h = refl
at_field i w unaligned h = refl

either : (b : Bool) (x y : Result Weighed EncodeRefusal) → Given x → Given y → Given (pick b x y)
either true x y h k = h
either false x y h k = k

number-given : (x : Result ℕ NumberRefusal) (i size at w : ℕ) → ((n : ℕ) → x ≡ Err (number.BadWidth n) → ⊥) → Fair (room_of size at w width_max) → Given (number_by x i size at w)
number-given (Ok r) i size at w h f = at_field i (Ok (Number (bits w) r)) f tt
number-given (Err (number.BadWidth n)) i size at w h f = absurd (h n refl)
number-given (Err number.OutOfRange) i size at w h f = refl
number-given (Err number.WrongKind) i size at w h f = refl

-- a field that holds a number has a width
sized : (f : FieldDescriptor) (v : PgnValue) → holds_of f ≡ Ok tt → (n : ℕ) → raw_of_lem f v ≡ Err (number.BadWidth n) → ⊥
sized f v h n e = no-width f v n (sym (ap (λ (x : Result (Unit {0}) NumberRefusal). if_held x (held_raw_of f v)) h) ∙ e)

-- ## Text and bytes

module _ (b : PgnBytes) (i lent size at : ℕ) where
  text-given : (over aligned : Bool) (put n : ℕ) (lead : Lead) → Given (text_by b i lent size at over aligned put n lead)
  text-given over aligned put n lead =
      either (too_long_lem b lent over) _ _ refl
      (either aligned _ _
      (either (eqb (at % 8) 0) _ _ room refl)
      room)
    where
      room : Given (if_room_lem i size at n (Ok (Text (bits n) lead b)))
      room = either (ltb (size * 8) (at + n)) _ (Ok (Text (bits n) lead b)) refl tt

  bare-given : (e : Option ℕ) (w : Result Weighed EncodeRefusal) → Given w → Given (unencoded e i w)
  bare-given None w h = h
  bare-given (Some x) w h = refl

  lau-given : (e : Option ℕ) → Given (lau_by e b i lent size at)
  lau-given None = either (eqb b.len.0 0) _ _ (text-given false false 0 8 Empty) refl
  lau-given (Some x) = text-given (ltb text_max b.len.0) (not (eqb b.len.0 0)) 16 (16 + 8 * b.len.0) (Encoded x)

bytes-given : (v : PgnValue) (i : ℕ) (says : PgnBytes → Result Weighed EncodeRefusal) → ((b : PgnBytes) → Given (says b)) → Given (by_bytes v i says)
bytes-given (Bytes b) i says h = h b
bytes-given (U64 n) i says h = refl
bytes-given (U32 n) i says h = refl
bytes-given (U16 n) i says h = refl
bytes-given (U8 n) i says h = refl
bytes-given (I64 z) i says h = refl
bytes-given (I32 z) i says h = refl
bytes-given (I16 z) i says h = refl
bytes-given (I8 z) i says h = refl
bytes-given (F64 x) i says h = refl
bytes-given (F32 x) i says h = refl

-- ## A field

shape-given : (sh : Shape) (f : FieldDescriptor) (i : ℕ) (v : PgnValue) (lent size at : ℕ) → (is_number sh ≡ true → holds_of f ≡ Ok tt)
    → (in_bits sh ≡ true → Fair (room_of size at f.width width_max)) → Given (weighed_by sh f i v lent size at)
shape-given (shape.Number strict) f i v lent size at k h = number-given (raw_of_lem f v) i size at f.width (sized f v (k refl)) (h refl)
shape-given shape.Gap f i v lent size at k h = at_field i (Ok (Gap (bits f.width))) (h refl) tt
shape-given shape.Fixed f i v lent size at k h =
    bytes-given v i _ (λ b. bare-given b i lent size at b.encoding _ (text-given b i lent size at (ltb (f.width / 8) b.len.0) true 0 (8 * (f.width / 8)) Bare))
shape-given shape.Whole f i v lent size at k h =
    bytes-given v i _ (λ b. bare-given b i lent size at b.encoding _ (text-given b i lent size at (not (eqb (8 * b.len.0) f.width)) true 0 f.width Bare))
shape-given shape.Lau f i v lent size at k h = bytes-given v i _ (λ b. lau-given b i lent size at b.encoding)
shape-given shape.Lz f i v lent size at k h =
    bytes-given v i _
    (λ b. bare-given b i lent size at b.encoding _ (text-given b i lent size at (ltb text_max b.len.0) (not (eqb b.len.0 0)) 8 (16 + 8 * b.len.0) Counted))

module _ (t : Table) (ok : check_of t ≡ Ok tt) (i : ℕ) (l : i < t.count) (size : ℕ) (small : size ≤ payload_max) (at : ℕ) where
  pub weighed-given : (v : PgnValue) (lent : ℕ) → Given (weighed_of (t.field i) i v lent size at)
  weighed-given v lent =
      either (ltb payload_max size) _ _ refl (shape-given (shape_of (t.field i)) (t.field i) i v lent size at (holds-number t ok i l) (λ s. bits-fair t ok i l s size small at))

  pub gap-given : is_gap_lem (shape_of (t.field i)) ≡ true → Given (gap_of (t.field i) i size at)
  gap-given g = at_field i (Ok (Gap (bits (t.field i).width))) (bits-fair t ok i l (in-bits (shape_of (t.field i)) g) size small at) tt
    where
      in-bits : (sh : Shape) → is_gap_lem sh ≡ true → in_bits sh ≡ true
      in-bits (shape.Number strict) h = refl
      in-bits shape.Gap h = refl
      in-bits shape.Fixed h = h
      in-bits shape.Whole h = h
      in-bits shape.Lau h = h
      in-bits shape.Lz h = h
