-- What texts and bytes are read as, once the bit calls have said what room there is. Assumes nothing.
use mathlib.Core.Path.{◌≡◌, refl, sym, ap, ap₂, ◌∙◌}
use mathlib.Core.Bool.{Bool, true, false, ◌&&◌}
use mathlib.Core.List.{List}
use Prim.Native.Nat.{ℕ, ◌+◌, ◌-◌, ◌*◌, ◌/◌, ◌≤◌, ◌<◌, min}
use native.Mathlib.Omega.{arith}
use lib.Dec.{ltb}
use borrow.Author.Tests.{le-ltb, lt-ltb}
use Rattle.bits.specs.declared.BitRefusal.{BitRefusal}
use Rattle.bits.specs.declared.Read.{Read}
use Rattle.std.specs.Prelude.{Some, None, Result, Ok, Err, ⊤}
use Rattle.bits.specs.Bits.{pick}
use Rattle.bits.specs.Calls.{bits, cursor_at, read_in, advance_in}
use Rattle.bits.specs.declared.Cursor.{Cursor}
use Rattle.descriptor.specs.declared.FieldDescriptor.{FieldDescriptor}
use Rattle.numbers.specs.Scaling.{scale_of}
use Rattle.tables.specs.Check.{payload_max}
use Rattle.fields.specs.declared.DecodeRefusal.{DecodeRefusal}
use Rattle.fields.specs.declared.DecodeRefusal.TheVariants.{InvalidDataLength}
use Rattle.fields.specs.declared.Shape.{Shape}
use Rattle.fields.specs.declared.Shape.TheVariants as shape
use Rattle.fields.specs.declared.FieldRead.{FieldRead}
use Rattle.fields.specs.declared.FieldRead.TheVariants as read
use Rattle.fields.specs.Payload.{Payload, payload_of, bits_left}
use Rattle.fields.specs.Taken.{if_room_lem, if_length, short_of, room_at, text_room_lem, fixed_bytes_lem, lau_taken, closed_at_lem, lz_taken}
use Rattle.fields.specs.Content.{text_at_lem, text_read_lem, refused_of, read_over}

-- a StringFix takes at most its size
min-le : (a b : ℕ) → min a b ≤ a
min-le a b = omega arith

pub fixed-le : (p : Payload) (early : Bool) (at w : ℕ) → fixed_bytes_lem p early at w ≤ w / 8
fixed-le p early at w = go (early && ltb 32 (w / 8))
  where
    go : (b : Bool) → pick b (min (w / 8) (bits_left p at / 8)) (w / 8) ≤ w / 8
    go true = min-le _ _
    go false = omega arith

-- ## StringLau

-- a length byte over 223, of whatever it is the length
pub too_long : (i len : ℕ) (later : Result ℕ DecodeRefusal) (sh : Shape) (f : FieldDescriptor) (p : Payload) (at : ℕ) → payload_max < len
    → Err (InvalidDataLength i) ≡ read_over (if_length i len later) sh f p at
too_long i len later sh f p at l = ap (λ (b : Bool). read_over (pick b (Err (InvalidDataLength i)) later) sh f p at) (sym (lt-ltb payload_max len l))

short-enough : (i len : ℕ) (later : Result ℕ DecodeRefusal) → len ≤ payload_max → later ≡ if_length i len later
short-enough i len later l = ap (λ (b : Bool). pick b (Err (InvalidDataLength i)) later) (sym (le-ltb payload_max len l))

module _ (f : FieldDescriptor) (s : List ℕ) (i at len : ℕ) where
  abbrev p : Payload
  p = payload_of s

  -- what stands after the length byte
  abbrev rest : Result ℕ DecodeRefusal
  rest = if_room_lem (room_at p (at + 8) 8) i (if_room_lem (text_room_lem p (at + 16) (len - 2)) i (Ok (16 + 8 * (len - 2))))

  lau-none : len < 2 → Ok 8 ≡ pick (ltb len 2) (Ok 8) rest
  lau-none l = ap (λ (b : Bool). pick b (Ok 8) rest) (sym (lt-ltb len 2 l))

  lau-more : 2 ≤ len → rest ≡ pick (ltb len 2) (Ok 8) rest
  lau-more l = ap (λ (b : Bool). pick b (Ok 8) rest) (sym (le-ltb len 2 l))

  pub lau-empty : len ≤ payload_max → len < 2 → text_read_lem (Ok tt) i 8 0 0 None ≡ read_over (lau_taken p i at len) shape.Lau f p at
  lau-empty l m = ap (λ (t : Result ℕ DecodeRefusal). read_over t shape.Lau f p at) (lau-none m ∙ short-enough i len _ l)

  -- the encoding byte as it was read
  abbrev pub lau_says : Result (Read ℕ) BitRefusal → Result FieldRead DecodeRefusal
  lau_says (Ok a) = text_read_lem (text_room_lem p (at + 16) (len - 2)) i (16 + 8 * (len - 2)) (at / 8 + 2) (len - 2) (Some a.value)
  lau_says (Err e) = refused_of i e

  text_in : (r : Result ⊤ BitRefusal) → text_read_lem r i (16 + 8 * (len - 2)) (at / 8 + 2) (len - 2) (Some (p.bits (at + 8) 8))
      ≡ read_over (if_room_lem r i (Ok (16 + 8 * (len - 2)))) shape.Lau f p at
  text_in (Ok u) =
      let k : len - 2 ≡ (16 + 8 * (len - 2)) / 8 - 2 = omega arith in
      let b : ltb (16 + 8 * (len - 2)) 16 ≡ false = le-ltb (16 + 8 * (len - 2)) 16 (omega arith) in
      ap₂ (λ (x : ℕ) (y : Bool). Ok (read.Got (bits (16 + 8 * (len - 2))) None (text_at_lem (at / 8 + 2) x (pick y None (Some (p.bits (at + 8) 8)))))) k (sym b)
  text_in (Err e) = refl

  lau-says : (r : Result ⊤ BitRefusal) → lau_says (read_in r s (cursor_at (at + 8)) 8)
      ≡ read_over (if_room_lem r i (if_room_lem (text_room_lem p (at + 16) (len - 2)) i (Ok (16 + 8 * (len - 2))))) shape.Lau f p at
  lau-says (Ok u) = text_in (text_room_lem p (at + 16) (len - 2))
  lau-says (Err e) = refl

  pub lau-text : len ≤ payload_max → 2 ≤ len → lau_says (read_in (room_at p (at + 8) 8) s (cursor_at (at + 8)) 8) ≡ read_over (lau_taken p i at len) shape.Lau f p at
  lau-text l m = lau-says (room_at p (at + 8) 8) ∙ ap (λ (t : Result ℕ DecodeRefusal). read_over t shape.Lau f p at) (lau-more m ∙ short-enough i len _ l)

-- ## StringLz

lz-in : (r : Result ⊤ BitRefusal) (f : FieldDescriptor) (p : Payload) (i at len n : ℕ) → len ≡ p.bits at 8
    → text_read_lem r i n (at / 8 + 1) len None ≡ read_over (if_room_lem r i (Ok n)) shape.Lz f p at
lz-in (Ok u) f p i at len n h = ap (λ (x : ℕ). Ok (read.Got (bits n) None (text_at_lem (at / 8 + 1) x None))) h
lz-in (Err e) f p i at len n h = refl

pub lz-text : (f : FieldDescriptor) (p : Payload) (i at len : ℕ) → len ≤ payload_max → len ≡ p.bits at 8
    → text_read_lem (text_room_lem p (at + 8) len) i (closed_at_lem p at (8 + 8 * len)) (at / 8 + 1) len None ≡ read_over (lz_taken p i at len) shape.Lz f p at
lz-text f p i at len l h =
    lz-in (text_room_lem p (at + 8) len) f p i at len (closed_at_lem p at (8 + 8 * len)) h ∙ ap (λ (t : Result ℕ DecodeRefusal). read_over t shape.Lz f p at) (short-enough i len _ l)

-- ## Numbers and skipped bits

module _ (f : FieldDescriptor) (s : List ℕ) (i at : ℕ) where
  abbrev pub number_says : Bool → Result (Read ℕ) BitRefusal → Result FieldRead DecodeRefusal
  number_says strict (Ok a) = Ok (read.Got (bits f.width) (Some a.value) (scale_of f a.value))
  number_says true (Err e) = Err (InvalidDataLength i)
  number_says false (Err e) = refused_of i e

  pub number-says : (strict : Bool) (r : Result ⊤ BitRefusal) → number_says strict (read_in r s (cursor_at at) f.width)
      ≡ read_over (short_of strict i r (Ok f.width)) (shape.Number strict) f (payload_of s) at
  number-says true (Ok u) = refl
  number-says false (Ok u) = refl
  number-says true (Err e) = refl
  number-says false (Err e) = refl

  abbrev pub gap_says : Result Cursor BitRefusal → Result FieldRead DecodeRefusal
  gap_says (Ok d) = Ok (read.Skipped (bits f.width))
  gap_says (Err e) = refused_of i e

  pub gap-says : (r : Result ⊤ BitRefusal) → gap_says (advance_in r (cursor_at at) f.width) ≡ read_over (if_room_lem r i (Ok f.width)) shape.Gap f (payload_of s) at
  gap-says (Ok u) = refl
  gap-says (Err e) = refl
