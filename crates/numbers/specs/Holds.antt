-- Which fields hold a number: document 01, "Reading a payload", and refusals 1 and 11.
use Rattle.std.specs.Prelude.{ℕ, ◌%◌, Bool, true, false, not, ◌&&◌, Result, Ok, Err, leb, eqb}
use Rattle.bits.specs.Bits.{pick}
use Rattle.bits.specs.Calls.{width_max}
use Rattle.descriptor.specs.declared.FieldKind.{FieldKind}
use Rattle.descriptor.specs.declared.FieldKind.TheVariants as kind
use Rattle.descriptor.specs.declared.FieldDescriptor.{FieldDescriptor}
use Rattle.numbers.specs.declared.NumberRefusal.{NumberRefusal}
use Rattle.numbers.specs.declared.NumberRefusal.TheVariants.{BadWidth, WrongKind}

-- 1: "width 0, or over the call's maximum"
abbrev pub is_width_lem : ℕ → Bool
is_width_lem n = leb 1 n && leb n width_max

-- the kinds that hold a number: "Binary of whole bytes is bytes, else a number". A kind that document 01 does not have holds none
abbrev pub is_numeric_lem : FieldKind → ℕ → Bool
is_numeric_lem kind.BitLookup w = true
is_numeric_lem kind.Number w = true
is_numeric_lem kind.Lookup w = true
is_numeric_lem kind.IndirectLookup w = true
is_numeric_lem kind.Pgn w = true
is_numeric_lem kind.IsoName w = true
is_numeric_lem kind.Float w = true
is_numeric_lem kind.Reserved w = false
is_numeric_lem kind.Spare w = false
is_numeric_lem kind.StringFix w = false
is_numeric_lem kind.StringLz w = false
is_numeric_lem kind.StringLau w = false
is_numeric_lem kind.Binary w = not (eqb (w % 8) 0)
is_numeric_lem kind.Date w = true
is_numeric_lem kind.Mmsi w = true
is_numeric_lem kind.Duration w = true
is_numeric_lem kind.Time w = true
is_numeric_lem kind.Decimal w = false
is_numeric_lem kind.Unimplemented w = false

-- a field that holds no number is told before a width that no number has: a StringLz has none
abbrev pub holds_of : FieldDescriptor → Result (Unit {0}) NumberRefusal
holds_of f = pick (is_numeric_lem f.kind f.width) (pick (is_width_lem f.width) (Ok tt) (Err (BadWidth f.width))) (Err WrongKind)
