-- What a bit call says against a field: what holds of each answer that the bit calls give on the way to it holds of its refusal. Assumes nothing.
use mathlib.Core.Path.{◌≡◌, refl}
use mathlib.Core.Bool.{Bool, true, false}
use Prim.Native.Nat.{ℕ, ◌+◌, ◌-◌, ◌*◌, ◌/◌}
use native.Mathlib.Omega.{arith}
use lib.Dec.{eqb, ltb}
use Rattle.bits.specs.declared.BitRefusal.{BitRefusal}
use Rattle.std.specs.Prelude.{Result, Ok, Err, ⊤}
use Rattle.bits.specs.Bits.{pick}
use Rattle.tables.specs.Check.{payload_max}
use Rattle.fields.specs.declared.DecodeRefusal.{DecodeRefusal}
use Rattle.fields.specs.declared.DecodeRefusal.TheVariants.{BitReaderError, InvalidDataLength, RepetitionsExceedCapacity, WrongLength, TableRefused, NoRoom}
use Rattle.fields.specs.declared.Shape.{Shape}
use Rattle.fields.specs.declared.Shape.TheVariants.{Number, Gap, Fixed, Whole, Lau, Lz}
use Rattle.fields.specs.Payload.{Payload}
use Rattle.fields.specs.Taken.{if_room_lem, short_of, room_at, bytes_room_lem, text_room_lem, fixed_bytes_lem, lau_taken, closed_at_lem, lz_taken, taken_by}
use Rattle.fields.proofs.Cut.{in_bits}

module _ (Q : Result ⊤ BitRefusal → Type 0) where
  -- the refusal is 4, or one of a bit call of which Q holds; a field gives no other
  abbrev pub Against : DecodeRefusal → Type 0
  Against (BitReaderError i e) = Q (Err e)
  Against (InvalidDataLength i) = Unit {0}
  Against (RepetitionsExceedCapacity set count maximum) = ⊥
  Against (WrongLength n) = ⊥
  Against (TableRefused rule index) = ⊥
  Against (NoRoom i) = ⊥

  abbrev pub Meets : Result ℕ DecodeRefusal → Type 0
  Meets (Ok n) = Unit {0}
  Meets (Err f) = Against f

  if-room : (r : Result ⊤ BitRefusal) (i : ℕ) (later : Result ℕ DecodeRefusal) → Q r → (r ≡ Ok tt → Meets later) → Meets (if_room_lem r i later)
  if-room (Ok u) i later a h = h refl
  if-room (Err e) i later a h = a

  short-of : (strict : Bool) (i : ℕ) (r : Result ⊤ BitRefusal) (n : ℕ) → Q r → Meets (short_of strict i r (Ok n))
  short-of true i (Ok u) n a = tt
  short-of false i (Ok u) n a = tt
  short-of true i (Err e) n a = tt
  short-of false i (Err e) n a = a

  either : (b : Bool) (x y : Result ℕ DecodeRefusal) → Meets x → Meets y → Meets (pick b x y)
  either true x y h k = h
  either false x y h k = k

  -- From: where bytes may be asked for
  module _ (p : Payload) (From : ℕ → Type 0) (fits : Q (Ok tt)) (byte : (at : ℕ) → Q (room_at p at 8))
      (after : (at next : ℕ) → next ≡ at + 8 → room_at p at 8 ≡ Ok tt → From next) (slice : (at n : ℕ) → From at → Q (bytes_room_lem p at n)) where
    text : (at n : ℕ) → From at → Q (text_room_lem p at n)
    text at n l = go (eqb n 0)
      where
        go : (b : Bool) → Q (pick b (Ok tt) (bytes_room_lem p at n))
        go true = fits
        go false = slice at n l

    lau : (i at len : ℕ) → Meets (lau_taken p i at len)
    lau i at len =
        either (ltb payload_max len) (Err (InvalidDataLength i)) _ tt
        (either (ltb len 2) (Ok 8) _ tt
        (if-room (room_at p (at + 8) 8) i _ (byte (at + 8)) (λ h.
        if-room (text_room_lem p (at + 16) (len - 2)) i (Ok (16 + 8 * (len - 2)))
        (text (at + 16) (len - 2) (after (at + 8) (at + 16) (omega arith) h)) (λ g. tt))))

    lz : (i at len : ℕ) → From (at + 8) → Meets (lz_taken p i at len)
    lz i at len l =
        either (ltb payload_max len) (Err (InvalidDataLength i)) _ tt
        (if-room (text_room_lem p (at + 8) len) i (Ok (closed_at_lem p at (8 + 8 * len))) (text (at + 8) len l) (λ g. tt))

    pub taken-meets : (i at : ℕ) → From at → (sh : Shape) (early : Bool) (w : ℕ) → (in_bits sh ≡ true → Q (room_at p at w)) → Meets (taken_by sh p i early w at)
    taken-meets i at l (Number strict) early w f = short-of strict i (room_at p at w) w (f refl)
    taken-meets i at l Gap early w f = if-room (room_at p at w) i (Ok w) (f refl) (λ h. tt)
    taken-meets i at l Fixed early w f =
        if-room (bytes_room_lem p at (fixed_bytes_lem p early at w)) i (Ok (8 * fixed_bytes_lem p early at w)) (slice at (fixed_bytes_lem p early at w) l) (λ h. tt)
    taken-meets i at l Whole early w f = if-room (bytes_room_lem p at (w / 8)) i (Ok (8 * (w / 8))) (slice at (w / 8) l) (λ h. tt)
    taken-meets i at l Lau early w f = if-room (room_at p at 8) i _ (byte at) (λ h. lau i at (p.bits at 8))
    taken-meets i at l Lz early w f = if-room (room_at p at 8) i _ (byte at) (λ h. lz i at (p.bits at 8) (after at (at + 8) refl h))
