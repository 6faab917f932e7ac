-- Kinds and resolutions by number.
use Rattle.std.specs.Prelude.{ℕ, List, [], ◌∷◌, eqb, get_or}
use Rattle.std.specs.Float.{nan, binary32}
use Rattle.std.specs.Float.Ieee.{of_bits}
use Rattle.bits.specs.Bits.{pick}
use Rattle.descriptor.specs.declared.FieldKind.{FieldKind}
use Rattle.descriptor.specs.declared.FieldKind.TheVariants.{Number, Float as Real, Lookup, IndirectLookup, BitLookup, Pgn, Date, Time, Duration, Mmsi, Decimal, StringFix, StringLz, StringLau, Binary, Reserved, Spare, IsoName, Unimplemented}
use Rattle.descriptor.specs.declared.Resolution.{Resolution}
use Rattle.descriptor.specs.declared.Resolution.TheVariants.{Unscaled, Single, Double}

-- the kinds by their codes, from 0 on
abbrev pub kinds : List FieldKind
kinds =
    Number ∷ Real ∷ Lookup ∷ IndirectLookup ∷ BitLookup ∷ Pgn ∷ Date ∷ Time ∷ Duration ∷ Mmsi ∷ Decimal ∷ StringFix ∷ StringLz ∷ StringLau
    ∷ Binary ∷ Reserved ∷ Spare ∷ IsoName ∷ []

-- the kind with a code; every other code is no kind that the paper has
abbrev pub kind_of : ℕ → FieldKind
kind_of code = get_or kinds code Unimplemented

-- a resolution that lacks its mark, or whose mark is broken: its factor is no number, and so is in no range
abbrev pub broken : Resolution
broken = Single nan

-- without a mark: none, if its bits are all 0
abbrev pub unmarked_of : ℕ → Resolution
unmarked_of bits = pick (eqb bits 0) Unscaled broken

-- the resolution with a mark and a factor's bits: "With it a mark, single or double"
abbrev pub resolution_of_lem : ℕ → ℕ → Resolution
resolution_of_lem mark bits = get_or (unmarked_of bits ∷ Single (of_bits binary32 bits) ∷ Double (of_bits binary32 bits) ∷ []) mark broken
