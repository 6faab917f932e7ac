-- What it says of a field that something was weighed for it: a number that has room, bits that are skipped, or bytes that lie in the lent
-- text. Assumes nothing.
use Rattle.bits.specs.declared.BitRefusal.{BitRefusal}
use Rattle.std.specs.Prelude.{Result, Ok, Err, Option, Some, None, ⊤}
use mathlib.Core.Path.{◌≡◌, refl, subst}
use mathlib.Core.Bool.{Bool, true, false, not, ◌||◌}
use Prim.Native.Nat.{ℕ, ◌+◌, ◌-◌, ◌*◌, ◌/◌, ◌%◌, ◌≤◌, ◌<◌}
use native.Mathlib.Omega.{arith}
use lib.Dec.{eqb, ltb}
use borrow.Author.Tests.{ltb-false, eqb-true, not-false, ne_eqb}
use Rattle.bits.specs.Bits.{pick}
use Rattle.bits.specs.Calls.{bits, bytes, saturated, room_of}
use Rattle.bits.specs.declared.BitRefusal.TheVariants.{NonAlignedBit, OutOfBits}
use Rattle.bits.proofs.Rooms.{fitting}
use Rattle.descriptor.specs.declared.FieldDescriptor.{FieldDescriptor}
use Rattle.descriptor.specs.declared.PgnBytes.{PgnBytes}
use Rattle.descriptor.specs.declared.PgnValue.{PgnValue}
use Rattle.descriptor.specs.declared.PgnValue.TheVariants.{U64, U32, U16, U8, I64, I32, I16, I8, F64, F32, Bytes}
use Rattle.numbers.specs.Conversions.{raw_of_lem}
use Rattle.numbers.specs.declared.NumberRefusal.{NumberRefusal}
use Rattle.numbers.specs.declared.NumberRefusal.TheVariants as number
use Rattle.fields.specs.declared.Shape.{Shape}
use Rattle.fields.specs.declared.Shape.TheVariants as shape
use Rattle.fields.specs.Shapes.{shape_of, is_gap_lem}
use Rattle.numbers.specs.Held.{HeldByte, Held}
use Rattle.offers.specs.declared.Offer.{Offer}
use Rattle.offers.specs.declared.Offer.TheVariants.{Nothing, NoKind, Value}
use Rattle.weighing.specs.declared.EncodeRefusal.{EncodeRefusal}
use Rattle.weighing.specs.declared.EncodeRefusal.TheVariants.{BitWriteError, TextTooLong, WrongLength}
use Rattle.weighing.specs.declared.Lead.{Lead}
use Rattle.weighing.specs.declared.Lead.TheVariants.{Bare, Counted, Encoded, Empty}
use Rattle.weighing.specs.declared.Weighed.{Weighed}
use Rattle.weighing.specs.declared.Weighed.TheVariants.{Number, Gap, Text}
use Rattle.weighing.specs.Weigh.{at_field_lem, if_room_lem, if_aligned_lem, number_by, gap_of, text_by, unencoded, fixed_of, whole_of, lz_of, lau_by, by_bytes, weighed_by}
use Rattle.tables.specs.Check.{payload_max}
use Rattle.writing.specs.Encode.{offered_of, content_of_lem}
use Rattle.writing.specs.ReadBack.{Offers}

pub byted : (b : PgnBytes) (x : ℕ) → Held (Bytes b) → b.encoding ≡ Some x → x < 256
byted b x g q = subst HeldByte q g

-- in a field of this shape at bit `at`, with `lent` bytes of lent text. `G` is what is known of a value that is offered
module _ (G : PgnValue → Type 0) (f : FieldDescriptor) (lent at : ℕ) where
  abbrev pub Lies : PgnBytes → Type 0
  Lies b = b.start.0 + b.len.0 ≤ lent

  -- an empty text needs no alignment
  abbrev pub Aligned : PgnBytes → Type 0
  Aligned b = 0 < b.len.0 → at % 8 ≡ 0

  pub data Meant : Shape → Result Weighed EncodeRefusal → Type 0 where
    a-number : {strict : Bool} (v : PgnValue) {r : ℕ} → G v → raw_of_lem f v ≡ Ok r → 0 < f.width → f.width ≤ 64 → Meant (shape.Number strict) (Ok (Number (bits f.width) r))
    a-gap : 0 < f.width → f.width ≤ 64 → Meant shape.Gap (Ok (Gap (bits f.width)))
    a-fixed : {b : PgnBytes} → at % 8 ≡ 0 → b.len.0 ≤ f.width / 8 → Lies b → Meant shape.Fixed (Ok (Text (bits (8 * (f.width / 8))) Bare b))
    a-whole : {b : PgnBytes} → at % 8 ≡ 0 → 8 * b.len.0 ≡ f.width → Lies b → Meant shape.Whole (Ok (Text (bits f.width) Bare b))
    a-lz : {b : PgnBytes} → b.len.0 ≤ 221 → Aligned b → Lies b → Meant shape.Lz (Ok (Text (bits (16 + 8 * b.len.0)) Counted b))
    a-lau : {b : PgnBytes} {x : ℕ} → G (Bytes b) → b.encoding ≡ Some x → b.len.0 ≤ 221 → Aligned b → Lies b → Meant shape.Lau (Ok (Text (bits (16 + 8 * b.len.0)) (Encoded x) b))
    an-absent : {b : PgnBytes} → b.len.0 ≡ 0 → Lies b → Meant shape.Lau (Ok (Text (bits 8) Empty b))
    refused : {sh : Shape} {e : EncodeRefusal} → Meant sh (Err e)

  picked : (sh : Shape) (c : Bool) (x y : Result Weighed EncodeRefusal) → (c ≡ true → Meant sh x) → (c ≡ false → Meant sh y) → Meant sh (pick c x y)
  picked sh true x y h k = h refl
  picked sh false x y h k = k refl

  or-false : (a b : Bool) → (a || b) ≡ false → (a ≡ false) × (b ≡ false)
  or-false true b h = (h, cc)
  or-false false b h = (refl, h)

  module _ (i size : ℕ) where
    at_room : (sh : Shape) (r : Result ⊤ BitRefusal) (w : Result Weighed EncodeRefusal) → (r ≡ Ok tt → Meant sh w) → Meant sh (at_field_lem r i w)
    at_room sh (Ok u) w h = h refl
    at_room sh (Err e) w h = refused

    number-meant : (strict : Bool) (v : PgnValue) → G v → (x : Result ℕ NumberRefusal) → raw_of_lem f v ≡ x → Meant (shape.Number strict) (number_by x i size at f.width)
    number-meant strict v g (Ok r) q =
        at_room (shape.Number strict) (room_of size at f.width 64) (Ok (Number (bits f.width) r)) (λ h. let k = fitting size at f.width 64 h in a-number v g q k.some k.narrow)
    number-meant strict v g (Err (number.BadWidth n)) q = refused
    number-meant strict v g (Err number.OutOfRange) q = refused
    number-meant strict v g (Err number.WrongKind) q = refused

    gap-meant : Meant shape.Gap (gap_of f i size at)
    gap-meant = at_room shape.Gap (room_of size at f.width 64) (Ok (Gap (bits f.width))) (λ h. let k = fitting size at f.width 64 h in a-gap k.some k.narrow)

    text-meant : (sh : Shape) (b : PgnBytes) (over aligned : Bool) (put n : ℕ) (lead : Lead)
        → (over ≡ false → (aligned ≡ true → at % 8 ≡ 0) → Lies b → Meant sh (Ok (Text (bits n) lead b))) → Meant sh (text_by b i lent size at over aligned put n lead)
    text-meant sh b over aligned put n lead h =
        let told : Result Weighed EncodeRefusal = if_room_lem i size at n (Ok (Text (bits n) lead b)) in
        let fits : (aligned ≡ true → at % 8 ≡ 0) → over ≡ false → Lies b → Meant sh told =
        λ a o l. picked sh (ltb (size * 8) (at + n)) (Err (BitWriteError i (OutOfBits (bits n) (bits (size * 8 - at))))) (Ok (Text (bits n) lead b)) (λ _. refused) (λ _. h o a l) in
        picked sh (over || ltb lent (b.start.0 + b.len.0)) (Err (TextTooLong i)) (pick aligned (if_aligned_lem i at put told) told) (λ _. refused)
        (λ q. let o = or-false over (ltb lent (b.start.0 + b.len.0)) q in
        let l : Lies b = ltb-false lent (b.start.0 + b.len.0) o.1 in
        picked sh aligned (if_aligned_lem i at put told) told
        (λ _. picked sh (eqb (at % 8) 0) told (Err (BitWriteError i (NonAlignedBit (bits (saturated (at + put)))))) (λ z. fits (λ _. eqb-true (at % 8) 0 z) o.0 l) (λ _. refused))
        (λ z. fits (λ y. absurd cc) o.0 l))

    unencoded-meant : (sh : Shape) (e : Option ℕ) (w : Result Weighed EncodeRefusal) → Meant sh w → Meant sh (unencoded e i w)
    unencoded-meant sh None w h = h
    unencoded-meant sh (Some x) w h = refused

    -- a text that is not empty is tested so
    tested : (b : PgnBytes) → (not (eqb b.len.0 0) ≡ true → at % 8 ≡ 0) → Aligned b
    tested b a l = a (rw (ne_eqb b.len.0 0 (λ (z : b.len.0 ≡ 0). omega arith)))

    fixed-meant : (b : PgnBytes) → Meant shape.Fixed (fixed_of b i lent size at f.width)
    fixed-meant b =
        unencoded-meant shape.Fixed b.encoding _
        (text-meant shape.Fixed b (ltb (f.width / 8) b.len.0) true 0 (8 * (f.width / 8)) Bare (λ o a l. a-fixed (a refl) (ltb-false (f.width / 8) b.len.0 o) l))

    whole-meant : (b : PgnBytes) → Meant shape.Whole (whole_of b i lent size at f.width)
    whole-meant b =
        unencoded-meant shape.Whole b.encoding _
        (text-meant shape.Whole b (not (eqb (8 * b.len.0) f.width)) true 0 f.width Bare (λ o a l. a-whole (a refl) (eqb-true (8 * b.len.0) f.width (not-false _ o)) l))

    lz-meant : (b : PgnBytes) → Meant shape.Lz (lz_of b i lent size at)
    lz-meant b =
        unencoded-meant shape.Lz b.encoding _
        (text-meant shape.Lz b (ltb 221 b.len.0) (not (eqb b.len.0 0)) 8 (16 + 8 * b.len.0) Counted (λ o a l. a-lz (ltb-false 221 b.len.0 o) (tested b a) l))

    lau-meant : (b : PgnBytes) → G (Bytes b) → (e : Option ℕ) → b.encoding ≡ e → Meant shape.Lau (lau_by e b i lent size at)
    lau-meant b g None q =
        picked shape.Lau (eqb b.len.0 0) _ _ (λ z. text-meant shape.Lau b false false 0 8 Empty (λ o a l. an-absent (eqb-true b.len.0 0 z) l)) (λ _. refused)
    lau-meant b g (Some x) q =
        text-meant shape.Lau b (ltb 221 b.len.0) (not (eqb b.len.0 0)) 16 (16 + 8 * b.len.0) (Encoded x)
        (λ o a l. a-lau g q (ltb-false 221 b.len.0 o) (tested b a) l)

    bytes-meant : (sh : Shape) (v : PgnValue) (says : PgnBytes → Result Weighed EncodeRefusal) → G v → ((b : PgnBytes) → G (Bytes b) → Meant sh (says b)) → Meant sh (by_bytes v i says)
    bytes-meant sh (Bytes b) says g h = h b g
    bytes-meant sh (U64 n) says g h = refused
    bytes-meant sh (U32 n) says g h = refused
    bytes-meant sh (U16 n) says g h = refused
    bytes-meant sh (U8 n) says g h = refused
    bytes-meant sh (I64 z) says g h = refused
    bytes-meant sh (I32 z) says g h = refused
    bytes-meant sh (I16 z) says g h = refused
    bytes-meant sh (I8 z) says g h = refused
    bytes-meant sh (F64 x) says g h = refused
    bytes-meant sh (F32 x) says g h = refused

    by_shape : (sh : Shape) (v : PgnValue) → G v → Meant sh (weighed_by sh f i v lent size at)
    by_shape (shape.Number strict) v g = number-meant strict v g (raw_of_lem f v) refl
    by_shape shape.Gap v g = gap-meant
    by_shape shape.Fixed v g = bytes-meant shape.Fixed v _ g (λ b q. fixed-meant b)
    by_shape shape.Whole v g = bytes-meant shape.Whole v _ g (λ b q. whole-meant b)
    by_shape shape.Lau v g = bytes-meant shape.Lau v _ g (λ b q. lau-meant b q b.encoding refl)
    by_shape shape.Lz v g = bytes-meant shape.Lz v _ g (λ b q. lz-meant b)

    offered-meant : (o : Offer) → Offers G o → Meant (shape_of f) (offered_of o f i lent size at)
    offered-meant Nothing k = refused
    offered-meant NoKind k = refused
    offered-meant (Value v) k = picked (shape_of f) (ltb payload_max size) (Err (WrongLength (bytes size))) _ (λ _. refused) (λ _. by_shape (shape_of f) v k)

    gapped : (sh : Shape) (w : Result Weighed EncodeRefusal) → Meant sh w → Meant sh (pick (is_gap_lem sh) (gap_of f i size at) w)
    gapped (shape.Number strict) w h = h
    gapped shape.Gap w h = gap-meant
    gapped shape.Fixed w h = h
    gapped shape.Whole w h = h
    gapped shape.Lau w h = h
    gapped shape.Lz w h = h

    -- what comes of an offer
    pub content-meant : (o : Offer) → Offers G o → Meant (shape_of f) (content_of_lem o f i lent size at)
    content-meant o k = gapped (shape_of f) (offered_of o f i lent size at) (offered-meant o k)
