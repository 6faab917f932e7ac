-- One field that was weighed and is held by a payload is read back: it takes the bits that it was written in (`taken_back`), is read as what was
-- written (`raw-back`, `reads_as`), and so is its reading (`back`). Assumes nothing.
use Rattle.walking.specs.Walk.{Element}
use Rattle.std.specs.Prelude.{Result, Ok, Err, Some, None}
use mathlib.Core.Path.{◌≡◌, refl, sym, ap, ◌∙◌, subst}
use mathlib.Core.Bool.{Bool}
use mathlib.Core.List.{List, [], ◌∷◌, ◌++◌}
use Prim.Native.Nat.{ℕ, ◌+◌, ◌-◌, ◌*◌, ◌/◌, ◌%◌, ◌^◌, ◌≤◌, ◌<◌}
use native.Mathlib.Nat.{mod-eq_of_lt}
use native.Mathlib.Omega.{arith}
use lib.ListN.{length}
use lib.Dec.{eqb}
use borrow.Author.Tests.{le-ltb}
use Rattle.bits.specs.Bits.{pick}
use Rattle.bits.specs.Calls.{bits}
use Rattle.bits.specs.declared.BitPos.{BitPos}
use Rattle.descriptor.specs.declared.FieldDescriptor.{FieldDescriptor}
use Rattle.descriptor.specs.declared.PgnBytes.{PgnBytes}
use Rattle.descriptor.specs.declared.PgnValue.{PgnValue}
use Rattle.descriptor.specs.declared.PgnValue.TheVariants.{Bytes}
use Rattle.numbers.specs.Conversions.{raw_of_lem}
use Rattle.numbers.specs.Scaling.{scale_of}
use Rattle.tables.specs.Table.{Table}
use Rattle.tables.specs.Check.{payload_max}
use Rattle.fields.specs.declared.DecodeRefusal.{DecodeRefusal}
use Rattle.fields.specs.declared.FieldRead.{FieldRead}
use Rattle.fields.specs.declared.FieldRead.TheVariants as read
use Rattle.fields.specs.declared.Shape.{Shape}
use Rattle.fields.specs.declared.Shape.TheVariants as shape
use Rattle.fields.specs.Payload.{Payload}
use Rattle.fields.specs.Shapes.{shape_of}
use Rattle.fields.specs.Taken.{taken_by, taken_of}
use Rattle.fields.specs.Content.{encoding_in_lem, raw_in, value_in, read_as, read_over, field_read_of}
use Rattle.fields.proofs.Filled.{length-full}
use Rattle.reading.specs.declared.Reading.{Reading}
use Rattle.reading.specs.Decode.{reading_of}
use Rattle.offers.specs.declared.Offer.{Offer}
use Rattle.weighing.specs.declared.EncodeRefusal.{EncodeRefusal}
use Rattle.weighing.specs.declared.Lead.{Lead}
use Rattle.weighing.specs.declared.Lead.TheVariants.{Bare, Counted, Encoded}
use Rattle.weighing.specs.declared.Weighed.{Weighed}
use Rattle.weighing.specs.declared.Weighed.TheVariants.{Number, Gap, Text}
use Rattle.writing.specs.Ink.{text_in_lem}
use Rattle.writing.specs.Encode.{mark_at, content_of_lem}
use Rattle.writing.specs.Strokes.{size_of, span_of}
use Rattle.writing.specs.ReadBack.{bytes_at, Back, text_back, AllBytes, Offers}
use Rattle.writing.proofs.Holding.{Holds, Kept}
use Rattle.writing.proofs.Pours.{text-long}
use Rattle.writing.proofs.Meant.{Meant, a-number, a-gap, a-fixed, a-whole, a-lz, a-lau, an-absent, refused, content-meant}
use Rattle.writing.proofs.BytesBack.{part_bytes, filled-bytes, Stand, stand-head, stand-tail, stand-left, stand-after, text-bytes}
use Rattle.writing.proofs.FieldTaken.{number-took, gap-took, fixed-took, whole-took, lz-took, lau-took, absent-took}

-- a field of which that was written is read as this
pub data ReadsAs (f : FieldDescriptor) (x : Result FieldRead DecodeRefusal) : Result Weighed EncodeRefusal → Type 0 where
  as_number : {n : BitPos} {r : ℕ} → x ≡ Ok (read.Got n (Some r) (scale_of f r)) → ReadsAs f x (Ok (Number n r))
  as-gap : {n : BitPos} → x ≡ Ok (read.Skipped n) → ReadsAs f x (Ok (Gap n))
  as-text : {n : BitPos} {lead : Lead} {b : PgnBytes} (v : PgnValue) → x ≡ Ok (read.Got n None v) → ReadsAs f x (Ok (Text n lead b))
  as-refused : {e : EncodeRefusal} → ReadsAs f x (Err e)

-- `G` is what is known of a value that is offered: its raw has no bit past the field's width, its encoding byte is a byte
module _ (G : PgnValue → Type 0) (byte_fits : (b : PgnBytes) (x : ℕ) → G (Bytes b) → b.encoding ≡ Some x → x < 256)
    (p : Payload) (small : p.size ≤ payload_max) (lent : List ℕ) (bytes : AllBytes lent) where
  module _ (f : FieldDescriptor) (fits : (v : PgnValue) (r : ℕ) → G v → raw_of_lem f v ≡ Ok r → f.width ≤ 64 → r < 2 ^ f.width) (e : Element) (i at : ℕ) where
    abbrev M : Shape → Result Weighed EncodeRefusal → Type 0
    M = Meant G f (length lent) at

    abbrev H : Result Weighed EncodeRefusal → Type 0
    H w = Holds p lent (mark_at i e at w)

    -- the length byte of a StringLz, and the zero after it
    lz-length : (b : PgnBytes) → b.len.0 ≤ 221 → b.start.0 + b.len.0 ≤ length lent → H (Ok (Text (bits (16 + 8 * b.len.0)) Counted b)) → p.bits at 8 ≡ b.len.0
    lz-length b l m h =
        let q = text-long lent b.start.0 b.len.0 m in
        stand-head p at (length (text_in_lem lent b)) (text_in_lem lent b ++ 0 ∷ []) (omega (arith, q, l)) h.inked ∙ q

    lz-zero : (b : PgnBytes) → b.start.0 + b.len.0 ≤ length lent → H (Ok (Text (bits (16 + 8 * b.len.0)) Counted b)) → p.bits (at + (8 + 8 * b.len.0)) 8 ≡ 0
    lz-zero b m h =
        let text = text_in_lem lent b in
        let q = text-long lent b.start.0 b.len.0 m in
        let z : at + (8 + 8 * b.len.0) ≡ at + 8 + 8 * length text = omega (arith, q) in
        ap (λ (k : ℕ). p.bits k 8) z ∙ stand-after p (at + 8) 0 text [] (stand-tail p at (at + 8) (length text) (text ++ 0 ∷ []) refl h.inked)

    -- of a StringLau
    lau-length : (b : PgnBytes) (x : ℕ) → b.len.0 ≤ 221 → b.start.0 + b.len.0 ≤ length lent → H (Ok (Text (bits (16 + 8 * b.len.0)) (Encoded x) b)) → p.bits at 8 ≡ b.len.0 + 2
    lau-length b x l m h =
        let q = text-long lent b.start.0 b.len.0 m in
        stand-head p at (length (text_in_lem lent b) + 2) (x ∷ text_in_lem lent b) (omega (arith, q, l)) h.inked ∙ ap (λ (k : ℕ). k + 2) q

    -- it takes the bits that it was written in
    takes : (last : Bool) {sh : Shape} {w : Result Weighed EncodeRefusal} → M sh w → H w → Kept w → taken_by sh p i last f.width at ≡ Ok (size_of w).0
    takes last (a-number {strict = strict} v g q l m) h k = number-took p small i last f.width at strict l m h.inside
    takes last (a-gap l m) h k = gap-took p small i last f.width at l m h.inside
    takes last (a-fixed a l m) h k = fixed-took p small i last f.width at a h.inside
    takes last (a-whole {b = b} a q m) h k =
        let z : 8 * (f.width / 8) ≡ f.width = omega (arith, q) in
        whole-took p small i last f.width at a (omega (arith, z, h.inside)) ∙ ap Ok z
    takes last (a-lz {b = b} l a m) h k = lz-took p small i last f.width at b.len.0 l a h.inside (lz-length b l m h) (lz-zero b m h)
    takes last (a-lau {b = b} {x = x} g q l a m) h k = lau-took p small i last f.width at b.len.0 l a h.inside (lau-length b x l m h)
    takes last (an-absent q m) h k = absent-took p small i last f.width at h.inside (stand-head p at 1 [] (omega arith) h.inked)
    takes last refused h k = absurd k

    -- the raw is the one that was written
    raw-in : (v : PgnValue) (r : ℕ) → G v → raw_of_lem f v ≡ Ok r → f.width ≤ 64 → H (Ok (Number (bits f.width) r)) → p.bits at f.width ≡ r
    raw-in v r g q m h = h.inked ∙ mod-eq_of_lt (fits v r g q m)

    raw-is : {sh : Shape} {n : BitPos} {r : ℕ} → M sh (Ok (Number n r)) → H (Ok (Number n r)) → p.bits at n.0 ≡ r
    raw-is (a-number v {r = r} g q l m) h = raw-in v r g q m h

    -- what is read of it
    over : (sh : Shape) {x : Result ℕ DecodeRefusal} {n : ℕ} → x ≡ Ok n → read_over x sh f p at ≡ Ok (read_as sh f p at n)
    over sh q = ap (λ (y : Result ℕ DecodeRefusal). read_over y sh f p at) q

    reads-by : {sh : Shape} {w : Result Weighed EncodeRefusal} → M sh w → H w → (x : Result ℕ DecodeRefusal) → (Kept w → x ≡ Ok (size_of w).0) → ReadsAs f (read_over x sh f p at) w
    reads-by (a-number {strict = strict} v {r = r} g q l m) h x k =
        as_number (over (shape.Number strict) (k tt) ∙ ap (λ (y : ℕ). Ok (read.Got (bits f.width) (Some y) (scale_of f y))) (raw-in v r g q m h))
    reads-by (a-gap l m) h x k = as-gap (over shape.Gap (k tt))
    reads-by (a-fixed a l m) h x k = as-text _ (over shape.Fixed (k tt))
    reads-by (a-whole a q m) h x k = as-text _ (over shape.Whole (k tt))
    reads-by (a-lz l a m) h x k = as-text _ (over shape.Lz (k tt))
    reads-by (a-lau g q l a m) h x k = as-text _ (over shape.Lau (k tt))
    reads-by (an-absent q m) h x k = as-text _ (over shape.Lau (k tt))
    reads-by refused h x k = as-refused

    -- ## Bytes

    -- a StringFix or a Binary, of n bits
    bare-bytes : (b : PgnBytes) (n : ℕ) → at % 8 ≡ 0 → b.len.0 ≤ n / 8 → b.start.0 + b.len.0 ≤ length lent → H (Ok (Text (bits n) Bare b))
        → bytes_at p (pick (eqb (n / 8) 0) 0 (at / 8)) (n / 8) ≡ text_back Bare n (text_in_lem lent b)
    bare-bytes b n a l m h =
        let text = text_in_lem lent b in
        let q = text-long lent b.start.0 b.len.0 m in
        let z : at ≡ 8 * (at / 8) = omega (arith, a) in
        text-bytes p (at / 8) at (n / 8) (text_back Bare n text) (length-full text (n / 8) (omega (arith, q, l))) (λ _. z)
        (filled-bytes text (n / 8 - length text) (part_bytes b.start.0 b.len.0 lent bytes)) h.inked

    lz-bytes : (b : PgnBytes) → b.len.0 ≤ 221 → (0 < b.len.0 → at % 8 ≡ 0) → b.start.0 + b.len.0 ≤ length lent → H (Ok (Text (bits (16 + 8 * b.len.0)) Counted b))
        → bytes_at p (pick (eqb (p.bits at 8) 0) 0 (at / 8 + 1)) (p.bits at 8) ≡ text_in_lem lent b
    lz-bytes b l a m h =
        let text = text_in_lem lent b in
        let q = text-long lent b.start.0 b.len.0 m in
        let c = lz-length b l m h in
        text-bytes p (at / 8 + 1) (at + 8) (p.bits at 8) text (q ∙ sym c) (λ k. let z = a (omega (arith, k, c)) in omega arith)
        (part_bytes b.start.0 b.len.0 lent bytes)
        (stand-left p (at + 8) text (0 ∷ []) (stand-tail p at (at + 8) (length text) (text ++ 0 ∷ []) refl h.inked))

    -- from the encoding byte on
    lau-rest : (b : PgnBytes) (x : ℕ) → H (Ok (Text (bits (16 + 8 * b.len.0)) (Encoded x) b)) → Stand p (at + 8) (x ∷ text_in_lem lent b)
    lau-rest b x h = stand-tail p at (at + 8) (length (text_in_lem lent b) + 2) (x ∷ text_in_lem lent b) refl h.inked

    lau-bytes : (b : PgnBytes) (x k : ℕ) → k ≡ b.len.0 → (0 < b.len.0 → at % 8 ≡ 0) → b.start.0 + b.len.0 ≤ length lent → H (Ok (Text (bits (16 + 8 * b.len.0)) (Encoded x) b))
        → bytes_at p (pick (eqb k 0) 0 (at / 8 + 2)) k ≡ text_in_lem lent b
    lau-bytes b x k c a m h =
        let text = text_in_lem lent b in
        let q = text-long lent b.start.0 b.len.0 m in
        let z : at + 16 ≡ at + 8 + 8 = omega arith in
        text-bytes p (at / 8 + 2) (at + 16) k text (q ∙ sym c) (λ j. let y = a (omega (arith, j, c)) in omega arith)
        (part_bytes b.start.0 b.len.0 lent bytes)
        (stand-tail p (at + 8) (at + 16) x text z (lau-rest b x h))

    lau-encoding : (b : PgnBytes) (x : ℕ) → x < 256 → H (Ok (Text (bits (16 + 8 * b.len.0)) (Encoded x) b)) → encoding_in_lem p at (16 + 8 * b.len.0) ≡ Some x
    lau-encoding b x l h = rw (le-ltb (16 + 8 * b.len.0) 16 (omega arith)) (ap Some (stand-head p (at + 8) x (text_in_lem lent b) l (lau-rest b x h)))

    -- a reading of it
    is-back : (r : Reading) {sh : Shape} {w : Result Weighed EncodeRefusal} → M sh w → H w → Kept w → r.raw ≡ raw_in sh p at (size_of w).0 → r.value ≡ value_in sh f p at (size_of w).0 → Back p lent r w
    is-back r (a-number v {r = n} g q l m) h k x y = x ∙ ap Some (raw-in v n g q m h)
    is-back r (a-gap l m) h k x y = tt
    is-back r (a-fixed {b = b} a l m) h k x y =
        record { place = _; value = y; none = x; encoded = refl; bytes = bare-bytes b (8 * (f.width / 8)) a (omega (arith, l)) m h }
    is-back r (a-whole {b = b} a q m) h k x y = record { place = _; value = y; none = x; encoded = refl; bytes = bare-bytes b f.width a (omega (arith, q)) m h }
    is-back r (a-lz {b = b} l a m) h k x y = record { place = _; value = y; none = x; encoded = refl; bytes = lz-bytes b l a m h }
    is-back r (a-lau {b = b} {x = c} g q l a m) h k x y =
        record { place = _; value = y; none = x; encoded = lau-encoding b c (byte_fits b c g q) h; bytes = lau-bytes b c ((16 + 8 * b.len.0) / 8 - 2) (omega arith) a m h }
    is-back r (an-absent q m) h k x y =
        record { place = _; value = y; none = x; encoded = refl; bytes = text-bytes p (at / 8 + 2) at 0 [] refl (λ z. absurd (omega arith)) tt (λ j z. absurd (omega arith)) }
    is-back r refused h k x y = absurd k

-- ## Of a table

module _ (G : PgnValue → Type 0) (byte_fits : (b : PgnBytes) (x : ℕ) → G (Bytes b) → b.encoding ≡ Some x → x < 256)
    (t : Table) (raw-fits : (i : ℕ) → i < t.count → (v : PgnValue) (r : ℕ) → G v → raw_of_lem (t.field i) v ≡ Ok r → (t.field i).width ≤ 64 → r < 2 ^ (t.field i).width)
    (p : Payload) (small : p.size ≤ payload_max) (lent : List ℕ) (bytes : AllBytes lent) (size : ℕ) where
  -- what came of an offer at field i, and is held
  module _ (i : ℕ) (l : i < t.count) (e : Element) (at : ℕ) (o : Offer) (known : Offers G o) (w : Result Weighed EncodeRefusal)
      (says : w ≡ content_of_lem o (t.field i) i (length lent) size at) (held : Holds p lent (mark_at i e at w)) where
    meant : Meant G (t.field i) (length lent) at (shape_of (t.field i)) w
    meant = subst (Meant G (t.field i) (length lent) at (shape_of (t.field i))) (sym says) (content-meant G (t.field i) (length lent) at i size o known)

    -- the same bits are taken ..
    pub taken_back : (last : Bool) → Kept w → taken_of p (t.field i) i last at ≡ Ok (size_of w).0
    taken_back last k = takes G byte_fits p small lent bytes (t.field i) (raw-fits i l) e i at last meant held k

    -- .. the same is read ..
    pub reads_as : (last : Bool) → ReadsAs (t.field i) (field_read_of p (t.field i) i last at) w
    reads_as last = reads-by G byte_fits p small lent bytes (t.field i) (raw-fits i l) e i at meant held (taken_of p (t.field i) i last at) (taken_back last)

    -- .. and the reading says so
    pub back : Kept w → Back p lent (reading_of t p (span_of (mark_at i e at w))) w
    back k = is-back G byte_fits p small lent bytes (t.field i) (raw-fits i l) e i at (reading_of t p (span_of (mark_at i e at w))) meant held k refl refl

  pub raw-back : (i : ℕ) → i < t.count → (e : Element) (at : ℕ) (o : Offer) → Offers G o → (n : BitPos) (r : ℕ)
      → Ok (Number n r) ≡ content_of_lem o (t.field i) i (length lent) size at → Holds p lent (mark_at i e at (Ok (Number n r))) → p.bits at n.0 ≡ r
  raw-back i l e at o known n r says held = raw-is G byte_fits p small lent bytes (t.field i) (raw-fits i l) e i at (meant i l e at o known (Ok (Number n r)) says held) held
