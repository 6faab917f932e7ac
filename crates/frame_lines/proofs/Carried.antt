-- What a refusal of a decode carries: at most three values. Assumes nothing.
use mathlib.Core.Path.{◌≡◌}
use mathlib.Core.List.{[], ◌∷◌}
use Prim.Native.Nat.{ℕ, ◌≤◌}
use native.Mathlib.Omega.{arith}
use lib.ListN.{length, take, get_or}
use Rattle.text.specs.Refusals.{refused_text}
use Rattle.text.proofs.Carrying as carried
use Rattle.bits.specs.declared.BitRefusal.{BitRefusal}
use Rattle.bits.specs.declared.BitRefusal.TheVariants.{BufferTooLong, TooLongForType, NonAlignedBit, OutOfBits, OutOfBytes}
use Rattle.bits.specs.Refusals as bit
use Rattle.fields.specs.declared.DecodeRefusal.{DecodeRefusal}
use Rattle.fields.specs.declared.DecodeRefusal.TheVariants.{BitReaderError, InvalidDataLength, RepetitionsExceedCapacity, WrongLength, TableRefused, NoRoom}
use Rattle.fields.specs.Refusals.{number_of, carried_of}

pub bit-few : (e : BitRefusal) → length (bit.carried_of e) ≤ 2
bit-few (TooLongForType max asked) = omega arith
bit-few (OutOfBits asked available) = omega arith
bit-few (OutOfBytes asked available) = omega arith
bit-few (NonAlignedBit cursor) = omega arith
bit-few (BufferTooLong len) = omega arith

pub few : (e : DecodeRefusal) → length (carried_of e) ≤ 3
few (BitReaderError field refusal) = omega (arith, bit-few refusal)
few (InvalidDataLength field) = omega arith
few (RepetitionsExceedCapacity set count maximum) = omega arith
few (WrongLength length) = omega arith
few (TableRefused rule index) = omega arith
few (NoRoom field) = omega arith

-- the refusal's number, and of the values at the first three places as many as it carries, are the refusal
pub carried-all : (e : DecodeRefusal) {number count first second third : ℕ} → number ≡ number_of e → count ≡ length (carried_of e)
    → first ≡ get_or (carried_of e) 0 0 → second ≡ get_or (carried_of e) 1 0 → third ≡ get_or (carried_of e) 2 0
    → refused_text number (take count (first ∷ second ∷ third ∷ [])) ≡ refused_text (number_of e) (carried_of e)
carried-all e n k a b c = carried.carried-all (number_of e) (carried_of e) (few e) n k a b c
