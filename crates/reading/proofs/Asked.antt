-- In refusal 2 of a decode asked is above available, in bits and in bytes: by any table, of any payload. Assumes nothing.
use mathlib.Core.Path.{◌≡◌, subst}
use mathlib.Core.Bool.{true, false≢true}
use mathlib.Core.List.{List}
use mathlib.Core.Logic.{⊎_elim}
use Prim.Native.Nat.{ℕ}
use lib.ListN.{length}
use Rattle.bits.specs.declared.BitRefusal.TheVariants.{BufferTooLong, TooLongForType, NonAlignedBit, OutOfBits, OutOfBytes}
use Rattle.bits.proofs.Rooms.{Above}
use Rattle.tables.specs.Table.{Table}
use Rattle.fields.specs.declared.DecodeRefusal.{DecodeRefusal}
use Rattle.fields.specs.declared.DecodeRefusal.TheVariants.{BitReaderError, InvalidDataLength, RepetitionsExceedCapacity, WrongLength, TableRefused, NoRoom}
use Rattle.fields.specs.Payload.{payload_of}
use Rattle.fields.specs.Refusals.{number_of, touches_nothing_lem}
use Rattle.fields.proofs.Against.{Meets}
use Rattle.fields.proofs.Asked.{Asks, asks-against, field-asks}
use Rattle.reading.specs.Filling.{working_of}
use Rattle.reading.specs.Decode.{decoded_of_lem, refused_with}
use Rattle.reading.proofs.Stopped.{walk-refusal, decode-refusal}
use Rattle.reading.proofs.Given.{prepared-spares}

-- what is given before the walk is no refusal 2
spared-asks : (f : DecodeRefusal) → touches_nothing_lem (number_of f) ≡ true → Asks f
spared-asks (BitReaderError i (BufferTooLong len)) h = tt
spared-asks (BitReaderError i (TooLongForType max asked)) h = tt
spared-asks (BitReaderError i (NonAlignedBit at)) h = tt
spared-asks (BitReaderError i (OutOfBits asked available)) h = absurd (false≢true h)
spared-asks (BitReaderError i (OutOfBytes asked available)) h = absurd (false≢true h)
spared-asks (InvalidDataLength i) h = tt
spared-asks (RepetitionsExceedCapacity set count maximum) h = tt
spared-asks (WrongLength n) h = tt
spared-asks (TableRefused rule index) h = tt
spared-asks (NoRoom i) h = tt

pub decode-asks : (t : Table) (received padded : List ℕ) (room : ℕ) (f : DecodeRefusal) (n : ℕ) → decoded_of_lem t received (length padded) room ≡ refused_with f n → Asks f
decode-asks t received padded room f n h =
    ⊎_elim (λ a. a) (λ q. spared-asks f (prepared-spares t (length received) (length padded) f q))
    (decode-refusal t received padded room f n Asks
    (λ ok small vs e. walk-refusal t (payload_of (working_of t received)) room Asks
    (λ i x last at g l w k. asks-against g (subst (Meets Above) k (field-asks (payload_of (working_of t received)) (t.field i) i last at w))) (λ i. tt) (λ k c m. tt) vs f e) h)
