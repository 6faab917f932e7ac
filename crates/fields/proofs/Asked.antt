-- Refusal 2 of a field that starts in the payload asks for more than is left, in bits or in bytes: the empty slice past the end, which asks for no more, is met by
-- none. Assumes nothing.
use mathlib.Core.Bool.{Bool}
use Prim.Native.Nat.{ℕ, ◌*◌, ◌≤◌}
use native.Mathlib.Omega.{arith}
use Rattle.std.specs.Prelude.{Err}
use Rattle.bits.proofs.Rooms.{Above, number-above, slice-above, fitting}
use Rattle.descriptor.specs.declared.FieldDescriptor.{FieldDescriptor}
use Rattle.fields.specs.declared.DecodeRefusal.{DecodeRefusal}
use Rattle.fields.specs.declared.DecodeRefusal.TheVariants.{BitReaderError, InvalidDataLength, RepetitionsExceedCapacity, WrongLength, TableRefused, NoRoom}
use Rattle.fields.specs.Payload.{Payload}
use Rattle.fields.specs.Shapes.{shape_of}
use Rattle.fields.specs.Taken.{taken_of}
use Rattle.fields.proofs.Against.{Against, Meets, taken-meets}

-- in a refusal 2 at a field asked is above available; of any other it says nothing
abbrev pub Asks : DecodeRefusal → Type 0
Asks (BitReaderError i e) = Above (Err e)
Asks (InvalidDataLength i) = Unit {0}
Asks (RepetitionsExceedCapacity set count maximum) = Unit {0}
Asks (WrongLength n) = Unit {0}
Asks (TableRefused rule index) = Unit {0}
Asks (NoRoom i) = Unit {0}

pub asks-against : (f : DecodeRefusal) → Against Above f → Asks f
asks-against (BitReaderError i e) h = h
asks-against (InvalidDataLength i) h = tt
asks-against (RepetitionsExceedCapacity set count maximum) h = tt
asks-against (WrongLength n) h = tt
asks-against (TableRefused rule index) h = tt
asks-against (NoRoom i) h = tt

-- any field, accepted or not
pub field-asks : (p : Payload) (f : FieldDescriptor) (i : ℕ) (early : Bool) (at : ℕ) → at ≤ p.size * 8 → Meets Above (taken_of p f i early at)
field-asks p f i early at l =
    taken-meets Above p (λ (place : ℕ). place ≤ p.size * 8) tt (λ place. number-above p.size place 8 64)
    (λ place next e h. omega (arith, e, (fitting p.size place 8 64 h).inside)) (λ place n w. slice-above p.size place n w)
    i at l (shape_of f) early f.width (λ s. number-above p.size at f.width 64)
