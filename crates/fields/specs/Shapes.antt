-- What the kinds are on the wire: document 01, "Reading a payload".
use Rattle.std.specs.Prelude.{ℕ, ◌%◌, Bool, true, false, eqb}
use Rattle.bits.specs.Bits.{pick}
use Rattle.descriptor.specs.declared.FieldKind.{FieldKind}
use Rattle.descriptor.specs.declared.FieldKind.TheVariants as kind
use Rattle.descriptor.specs.declared.FieldDescriptor.{FieldDescriptor}
use Rattle.fields.specs.declared.Shape.{Shape}
use Rattle.fields.specs.declared.Shape.TheVariants.{Number, Gap, Fixed, Whole, Lau, Lz}

-- "Binary of whole bytes is bytes, else a number"
abbrev pub binary_of : ℕ → Shape
binary_of width = pick (eqb (width % 8) 0) Whole (Number false)

-- "Number kinds (BitLookup to IsoName in b) cut short give 4": these are strict. A kind that no accepted table has is a number that is not
abbrev pub shape_by : FieldKind → ℕ → Shape
shape_by kind.BitLookup w = Number true
shape_by kind.Number w = Number true
shape_by kind.Lookup w = Number true
shape_by kind.IndirectLookup w = Number true
shape_by kind.Pgn w = Number true
shape_by kind.IsoName w = Number true
shape_by kind.Float w = Number false
shape_by kind.Reserved w = Gap
shape_by kind.Spare w = Gap
shape_by kind.StringFix w = Fixed
shape_by kind.StringLz w = Lz
shape_by kind.StringLau w = Lau
shape_by kind.Binary w = binary_of w
shape_by kind.Date w = Number false
shape_by kind.Mmsi w = Number false
shape_by kind.Duration w = Number false
shape_by kind.Time w = Number false
shape_by kind.Decimal w = Number false
shape_by kind.Unimplemented w = Number false

-- of a field
abbrev pub shape_of : FieldDescriptor → Shape
shape_of f = shape_by f.kind f.width

-- a raw
abbrev pub is_number : Shape → Bool
is_number (Number strict) = true
is_number Gap = false
is_number Fixed = false
is_number Whole = false
is_number Lau = false
is_number Lz = false

-- bits that are skipped
abbrev pub is_gap_lem : Shape → Bool
is_gap_lem (Number strict) = false
is_gap_lem Gap = true
is_gap_lem Fixed = false
is_gap_lem Whole = false
is_gap_lem Lau = false
is_gap_lem Lz = false
