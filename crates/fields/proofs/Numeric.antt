-- By an accepted table a field that is a number on the wire holds one, of 1 to 64 bits: no value gets 1 there, and none 11 for the field's sake.
-- Assumes nothing.
use mathlib.Core.Path.{◌≡◌, refl}
use mathlib.Core.Bool.{Bool, true, false, not, false≢true}
use Prim.Native.Nat.{ℕ, ◌%◌, ◌<◌}
use lib.Dec.{eqb}
use Rattle.std.specs.Prelude.{Ok}
use Rattle.bits.specs.Bits.{pick}
use Rattle.descriptor.specs.declared.FieldKind.{FieldKind}
use Rattle.descriptor.specs.declared.FieldKind.TheVariants as kind
use Rattle.numbers.specs.Holds.{is_numeric_lem, holds_of}
use Rattle.numbers.proofs.Numeric as numbers
use Rattle.tables.specs.Table.{Table}
use Rattle.tables.specs.Rules.{class_of_lem, known}
use Rattle.tables.specs.Check.{check_of}
use Rattle.tables.proofs.Accepted.{kinds, widths}
use Rattle.fields.specs.declared.Shape.{Shape}
use Rattle.fields.specs.declared.Shape.TheVariants.{Number, Gap, Fixed, Whole, Lau, Lz}
use Rattle.fields.specs.Shapes.{shape_by, shape_of, is_number}
use Rattle.fields.proofs.Cut.{in_bits, bits-width}

binary : (b : Bool) → is_number (pick b Whole (Number false)) ≡ true → not b ≡ true
binary true s = absurd (false≢true s)
binary false s = refl

numeric : (k : FieldKind) (w : ℕ) → is_number (shape_by k w) ≡ true → known (class_of_lem k) ≡ true → is_numeric_lem k w ≡ true
numeric kind.BitLookup w s h = refl
numeric kind.Number w s h = refl
numeric kind.Lookup w s h = refl
numeric kind.IndirectLookup w s h = refl
numeric kind.Pgn w s h = refl
numeric kind.IsoName w s h = refl
numeric kind.Float w s h = refl
numeric kind.Reserved w s h = absurd (false≢true s)
numeric kind.Spare w s h = absurd (false≢true s)
numeric kind.StringFix w s h = absurd (false≢true s)
numeric kind.StringLz w s h = absurd (false≢true s)
numeric kind.StringLau w s h = absurd (false≢true s)
numeric kind.Binary w s h = binary (eqb (w % 8) 0) s
numeric kind.Date w s h = refl
numeric kind.Mmsi w s h = refl
numeric kind.Duration w s h = refl
numeric kind.Time w s h = refl
numeric kind.Decimal w s h = absurd (false≢true h)
numeric kind.Unimplemented w s h = absurd (false≢true h)

in-bits : (sh : Shape) → is_number sh ≡ true → in_bits sh ≡ true
in-bits (Number strict) h = refl
in-bits Gap h = refl
in-bits Fixed h = h
in-bits Whole h = h
in-bits Lau h = h
in-bits Lz h = h

pub holds-number : (t : Table) → check_of t ≡ Ok tt → (i : ℕ) → i < t.count → is_number (shape_of (t.field i)) ≡ true → holds_of (t.field i) ≡ Ok tt
holds-number t ok i l s =
    let f = t.field i in
    let w = bits-width f.kind f.width (in-bits (shape_of f) s) (widths t ok i l) in
    numbers.holds f (numeric f.kind f.width s (kinds t ok i l)) w.0 w.1
