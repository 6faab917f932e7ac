-- "No refusal is given otherwise", of one field of an accepted table, in a payload of 223 bytes at most: what a bit call may say against it is 2 or 3, never 1 or
-- 6. Assumes nothing.
use mathlib.Core.Path.{◌≡◌, refl, sym, subst}
use mathlib.Core.Bool.{Bool, true, false, not}
use Prim.Native.Nat.{ℕ, ◌+◌, ◌-◌, ◌*◌, ◌/◌, ◌%◌, ◌≤◌, ◌<◌}
use native.Mathlib.Omega.{arith}
use lib.Dec.{eqb, ltb}
use borrow.Author.Tests.{le-ltb}
use Rattle.bits.specs.declared.BitRefusal.{BitRefusal}
use Rattle.std.specs.Prelude.{Result, Ok, Err, ⊤}
use Rattle.bits.specs.Calls.{bits, refuse, room_of, out_of_bytes, width_max}
use Rattle.bits.specs.declared.BitPos.{BitPos}
use Rattle.bits.specs.declared.ByteCount.{ByteCount}
use Rattle.bits.specs.declared.BitRefusal.TheVariants.{NonAlignedBit, OutOfBits, OutOfBytes}
use Rattle.tables.specs.Table.{Table}
use Rattle.tables.specs.Check.{check_of, payload_max}
use Rattle.fields.specs.declared.DecodeRefusal.{DecodeRefusal}
use Rattle.fields.specs.declared.DecodeRefusal.TheVariants.{BitReaderError, InvalidDataLength, RepetitionsExceedCapacity, WrongLength, TableRefused, NoRoom}
use Rattle.fields.specs.Payload.{Payload}
use Rattle.fields.specs.Refusals.{number_of, given_in_walk}
use Rattle.fields.specs.Shapes.{shape_of}
use Rattle.fields.specs.Taken.{if_room_lem, room_at, bytes_room_lem, taken_of}
use Rattle.fields.proofs.Cut.{in_bits, room-only, cut_short}
use Rattle.fields.proofs.Against.{Meets, taken-meets}

-- ## Bit calls

-- "beyond the buffer" and "byte slice at a cursor not a multiple of 8"
pub data Fair : Result ⊤ BitRefusal → Type 0 where
  fits : Fair (Ok tt)
  beyond-bits : {asked there : BitPos} → Fair (Err (OutOfBits asked there))
  beyond-bytes : {asked there : ByteCount} → Fair (Err (OutOfBytes asked there))
  unaligned : {at : BitPos} → Fair (Err (NonAlignedBit at))

beyond : (size at w : ℕ) (b : Bool) → Fair (refuse b (OutOfBits (bits w) (bits (size * 8 - at))) (Ok tt))
beyond size at w true = beyond-bits
beyond size at w false = fits

-- a number or a skipped field
pub bits-fair : (t : Table) → check_of t ≡ Ok tt → (i : ℕ) → i < t.count → in_bits (shape_of (t.field i)) ≡ true → (size : ℕ) → size ≤ payload_max → (at : ℕ)
    → Fair (room_of size at (t.field i).width width_max)
bits-fair t ok i l s size small at =
    subst Fair (sym (cut_short t ok i l s size small at)) (beyond size at (t.field i).width (ltb (size * 8) (at + (t.field i).width)))

module _ (p : Payload) (small : p.size ≤ payload_max) (at : ℕ) where
  -- a length byte or an encoding byte
  byte-fair : Fair (room_at p at 8)
  byte-fair = subst Fair (sym (room-only p.size at 8 small (omega arith) (omega arith))) (beyond p.size at 8 (ltb (p.size * 8) (at + 8)))

  bytes-fair : (n : ℕ) → Fair (bytes_room_lem p at n)
  bytes-fair n = rw (le-ltb 65536 p.size (omega (arith, small))) (go (not (eqb (at % 8) 0)) (ltb p.size (at / 8 + n)))
    where
      go : (a b : Bool) → Fair (refuse a (NonAlignedBit (bits at)) (refuse b (out_of_bytes p.size at n) (Ok tt)))
      go true b = unaligned
      go false true = beyond-bytes
      go false false = fits

-- ## Fields

-- what is taken, or a refusal that the walk of a decode gives
abbrev pub Given : Result ℕ DecodeRefusal → Type 0
Given (Ok n) = Unit {0}
Given (Err f) = given_in_walk (number_of f) ≡ true

fair-given : {r : Result ⊤ BitRefusal} (i : ℕ) → Fair r → Given (if_room_lem r i (Ok 0))
fair-given i fits = tt
fair-given i beyond-bits = refl
fair-given i beyond-bytes = refl
fair-given i unaligned = refl

given_by : (o : Result ℕ DecodeRefusal) → Meets Fair o → Given o
given_by (Ok n) h = tt
given_by (Err (BitReaderError i e)) h = fair-given i h
given_by (Err (InvalidDataLength i)) h = refl
given_by (Err (RepetitionsExceedCapacity set count maximum)) h = absurd h
given_by (Err (WrongLength n)) h = absurd h
given_by (Err (TableRefused rule index)) h = absurd h
given_by (Err (NoRoom i)) h = absurd h

pub field-given : (t : Table) → check_of t ≡ Ok tt → (i : ℕ) → i < t.count → (p : Payload) → p.size ≤ payload_max → (early : Bool) (at : ℕ) → Given (taken_of p (t.field i) i early at)
field-given t ok i l p small early at =
    given_by (taken_of p (t.field i) i early at)
    (taken-meets Fair p (λ (place : ℕ). Unit {0}) fits (byte-fair p small) (λ place next e h. tt) (λ place n w. bytes-fair p small place n)
    i at tt (shape_of (t.field i)) early (t.field i).width (λ s. bits-fair t ok i l s p.size small at))
