-- A field takes the bits that it was written in: of a payload of at most 223 bytes that has them. Assumes nothing.
use mathlib.Core.Path.{◌≡◌, refl, ap, ◌∙◌}
use mathlib.Core.Bool.{Bool, true, false, ◌&&◌}
use Prim.Native.Nat.{ℕ, ◌+◌, ◌-◌, ◌*◌, ◌/◌, ◌%◌, ◌≤◌, ◌<◌, min}
use native.Mathlib.Omega.{arith}
use lib.Dec.{eqb, ltb}
use borrow.Author.Tests.{le-ltb, eqb-false}
use Rattle.bits.specs.declared.BitRefusal.{BitRefusal}
use Rattle.std.specs.Prelude.{Result, Ok, ⊤}
use Rattle.bits.specs.Bits.{pick}
use Rattle.bits.proofs.Rooms.{room_fits, slice_fits}
use Rattle.fields.specs.declared.DecodeRefusal.{DecodeRefusal}
use Rattle.fields.specs.declared.Shape.TheVariants as shape
use Rattle.fields.specs.Payload.{Payload, bits_left}
use Rattle.fields.specs.Taken.{if_room_lem, short_of, if_length, room_at, bytes_room_lem, text_room_lem, fixed_bytes_lem, closed_at_lem, taken_by}
use Rattle.tables.specs.Check.{payload_max}

-- what follows a test that says nothing against it
room-if : (r : Result ⊤ BitRefusal) (i : ℕ) (later : Result ℕ DecodeRefusal) → r ≡ Ok tt → if_room_lem r i later ≡ later
room-if r i later h = ap (λ (x : Result ⊤ BitRefusal). if_room_lem x i later) h

room-short : (strict : Bool) (i : ℕ) (r : Result ⊤ BitRefusal) (later : Result ℕ DecodeRefusal) → r ≡ Ok tt → short_of strict i r later ≡ later
room-short true i r later h = ap (λ (x : Result ⊤ BitRefusal). short_of true i x later) h
room-short false i r later h = ap (λ (x : Result ⊤ BitRefusal). short_of false i x later) h

length-if : (i len : ℕ) (later : Result ℕ DecodeRefusal) → len ≤ payload_max → if_length i len later ≡ later
length-if i len later l = rw (le-ltb payload_max len l)

module _ (p : Payload) (small : p.size ≤ payload_max) where
  bits-room : (at n : ℕ) → 0 < n → n ≤ 64 → at + n ≤ p.size * 8 → room_at p at n ≡ Ok tt
  bits-room at n l m k = room_fits p.size at n 64 (record { short = omega (arith, small); some = l; narrow = m; inside = k })

  bytes-room : (at n : ℕ) → at % 8 ≡ 0 → at + 8 * n ≤ p.size * 8 → bytes_room_lem p at n ≡ Ok tt
  bytes-room at n a k = slice_fits p.size at n (record { short = omega (arith, small); aligned = a; inside = omega (arith, a, k) })

  text-room : (at n : ℕ) → (0 < n → at % 8 ≡ 0) → at + 8 * n ≤ p.size * 8 → text_room_lem p at n ≡ Ok tt
  text-room at n a k = go (eqb n 0) refl
    where
      go : (b : Bool) → eqb n 0 ≡ b → pick b (Ok tt) (bytes_room_lem p at n) ≡ Ok tt
      go true q = refl
      go false q = let z = eqb-false n 0 q in bytes-room at n (a (omega arith)) k

  -- a StringFix that is wholly there does not stop early
  fixed-all : (early : Bool) (at w : ℕ) → at + 8 * (w / 8) ≤ p.size * 8 → fixed_bytes_lem p early at w ≡ w / 8
  fixed-all early at w k = go (early && ltb 32 (w / 8))
    where
      least : min (w / 8) (bits_left p at / 8) ≡ w / 8
      least = omega (arith, small, k)

      go : (b : Bool) → pick b (min (w / 8) (bits_left p at / 8)) (w / 8) ≡ w / 8
      go true = least
      go false = refl

  module _ (i : ℕ) (early : Bool) (w at : ℕ) where
    pub number-took : (strict : Bool) → 0 < w → w ≤ 64 → at + w ≤ p.size * 8 → taken_by (shape.Number strict) p i early w at ≡ Ok w
    number-took strict l m k = room-short strict i (room_at p at w) (Ok w) (bits-room at w l m k)

    pub gap-took : 0 < w → w ≤ 64 → at + w ≤ p.size * 8 → taken_by shape.Gap p i early w at ≡ Ok w
    gap-took l m k = room-if (room_at p at w) i (Ok w) (bits-room at w l m k)

    pub fixed-took : at % 8 ≡ 0 → at + 8 * (w / 8) ≤ p.size * 8 → taken_by shape.Fixed p i early w at ≡ Ok (8 * (w / 8))
    fixed-took a k = rw (fixed-all early at w k) (room-if (bytes_room_lem p at (w / 8)) i (Ok (8 * (w / 8))) (bytes-room at (w / 8) a k))

    pub whole-took : at % 8 ≡ 0 → at + 8 * (w / 8) ≤ p.size * 8 → taken_by shape.Whole p i early w at ≡ Ok (8 * (w / 8))
    whole-took a k = room-if (bytes_room_lem p at (w / 8)) i (Ok (8 * (w / 8))) (bytes-room at (w / 8) a k)

    -- by its length byte, and the zero after the text
    pub lz-took : (n : ℕ) → n ≤ 221 → (0 < n → at % 8 ≡ 0) → at + (16 + 8 * n) ≤ p.size * 8 → p.bits at 8 ≡ n → p.bits (at + (8 + 8 * n)) 8 ≡ 0
        → taken_by shape.Lz p i early w at ≡ Ok (16 + 8 * n)
    lz-took n l a k h z =
        let closed : closed_at_lem p at (8 + 8 * n) ≡ 16 + 8 * n = rw (bits-room (at + (8 + 8 * n)) 8 (omega arith) (omega arith) (omega (arith, k)), z) (omega arith) in
        rw (bits-room at 8 (omega arith) (omega arith) (omega (arith, k)), h)
        (length-if i n _ (omega (arith, l))
        ∙ room-if (text_room_lem p (at + 8) n) i _ (text-room (at + 8) n (λ m. let q = a m in omega arith) (omega (arith, k)))
        ∙ ap Ok closed)

    -- by its length byte
    pub lau-took : (n : ℕ) → n ≤ 221 → (0 < n → at % 8 ≡ 0) → at + (16 + 8 * n) ≤ p.size * 8 → p.bits at 8 ≡ n + 2 → taken_by shape.Lau p i early w at ≡ Ok (16 + 8 * n)
    lau-took n l a k h =
        let two : n + 2 - 2 ≡ n = omega arith in
        rw (bits-room at 8 (omega arith) (omega arith) (omega (arith, k)), h)
        (length-if i (n + 2) _ (omega (arith, l))
        ∙ rw (le-ltb (n + 2) 2 (omega arith), two)
        (room-if (room_at p (at + 8) 8) i _ (bits-room (at + 8) 8 (omega arith) (omega arith) (omega (arith, k)))
        ∙ room-if (text_room_lem p (at + 16) n) i _ (text-room (at + 16) n (λ m. let q = a m in omega arith) (omega (arith, k)))))

    pub absent-took : at + 8 ≤ p.size * 8 → p.bits at 8 ≡ 1 → taken_by shape.Lau p i early w at ≡ Ok 8
    absent-took k h = rw (bits-room at 8 (omega arith) (omega arith) (omega (arith, k)), h)
