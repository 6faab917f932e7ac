-- What a caller has from the cells of a decode: the length of the working payload, and whether refusal 2 counts bits or bytes. Assumes nothing.
use mathlib.Core.Path.{◌≡◌, refl, sym, ap, ◌∙◌}
use mathlib.Core.Bool.{Bool, true, false, not}
use mathlib.Core.List.{List}
use Prim.Native.Nat.{ℕ}
use native.Mathlib.Nat.{le_of_lt}
use native.Mathlib.Omega.{arith}
use Rattle.std.specs.Prelude.{Result, Ok, Err}
use lib.Dec.{eqb}
use lib.ListN.{length, get_or}
use borrow.Author.Tests.{ne_eqb}
use Rattle.bits.specs.Bits.{pick}
use Rattle.bits.specs.declared.BitPos.{BitPos}
use Rattle.bits.specs.declared.BitRefusal.TheVariants.{BufferTooLong, TooLongForType, NonAlignedBit, OutOfBits, OutOfBytes}
use Rattle.tables.specs.Table.{Table}
use Rattle.fields.specs.declared.DecodeRefusal.{DecodeRefusal}
use Rattle.fields.specs.declared.DecodeRefusal.TheVariants.{BitReaderError, InvalidDataLength, RepetitionsExceedCapacity, WrongLength, TableRefused, NoRoom}
use Rattle.fields.specs.Refusals.{touches_nothing_lem}
use Rattle.fields.proofs.Filled.{length-full}
use Rattle.reading.specs.declared.Decoded.{Decoded}
use Rattle.reading.specs.Filling.{fills, working_of}
use Rattle.reading.proofs.Working.{filled-lt}
use Rattle.samopute_c.specs.Decodes.{status_by, decoded_status, cells_by, decoded_cells, cells_of, length_by}

-- ## The length of the working payload

second : (count filled : ℕ) (o : Result BitPos DecodeRefusal) → get_or (cells_by count filled o) 1 0 ≡ filled
second count filled (Ok end) = refl
second count filled (Err e) = refl

module _ (t : Table) (received : List ℕ) where
  -- a filled payload has the table's length, which is not 0
  by : (b : Bool) → fills t (length received) ≡ b → length_by (pick (fills t (length received)) t.length 0) (length received) ≡ length (working_of t received)
  by true h =
      let l = filled-lt t (length received) h in
      rw (h, ne_eqb t.length 0 (λ z. omega arith)) (sym (length-full received t.length (le_of_lt l)))
  by false h = rw h

  -- unless the call was refused with a number that touches nothing, 7 or 8: the second cell, or the bytes received where it is 0
  pub working-length : (d : Decoded) → touches_nothing_lem (decoded_status d) ≡ false
      → length_by (get_or (cells_of t (length received) d) 1 0) (length received) ≡ length (working_of t received)
  working-length d n =
      let filled = pick (fills t (length received)) t.length 0 in
      ap (λ (x : ℕ). length_by x (length received)) (second d.count _ d.end ∙ ap (λ (b : Bool). pick b 0 filled) n) ∙ by (fills t (length received)) refl

-- ## What refusal 2 counts

-- the last cell is 0 exactly where the status is not 2
pub unit-of-2 : (filled : ℕ) (d : Decoded) → eqb (get_or (decoded_cells filled d) 5 0) 0 ≡ not (eqb (decoded_status d) 2)
unit-of-2 filled d = go d.count d.end
  where
    go : (count : ℕ) (o : Result BitPos DecodeRefusal) → eqb (get_or (cells_by count filled o) 5 0) 0 ≡ not (eqb (status_by o) 2)
    go count (Ok end) = refl
    go count (Err (BitReaderError field (TooLongForType max asked))) = refl
    go count (Err (BitReaderError field (OutOfBits asked available))) = refl
    go count (Err (BitReaderError field (OutOfBytes asked available))) = refl
    go count (Err (BitReaderError field (NonAlignedBit cursor))) = refl
    go count (Err (BitReaderError field (BufferTooLong len))) = refl
    go count (Err (InvalidDataLength field)) = refl
    go count (Err (RepetitionsExceedCapacity set n maximum)) = refl
    go count (Err (WrongLength length)) = refl
    go count (Err (TableRefused rule index)) = refl
    go count (Err (NoRoom field)) = refl
