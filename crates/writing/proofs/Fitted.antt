-- The raw of a value in a field of an accepted table fits the field. Assumes nothing.
use mathlib.Core.Path.{◌≡◌}
use mathlib.Core.Bool.{true}
use Prim.Native.Nat.{ℕ, ◌^◌, ◌≤◌, ◌<◌}
use native.Mathlib.Omega.{arith}
use borrow.Author.Tests.{eqb-true}
use Rattle.std.specs.Prelude.{Ok}
use Rattle.descriptor.specs.declared.FieldKind.{FieldKind}
use Rattle.descriptor.specs.declared.FieldKind.TheVariants as kind
use Rattle.descriptor.specs.declared.PgnValue.{PgnValue}
use Rattle.numbers.specs.Conversions.{raw_of_lem}
use Rattle.numbers.specs.Scaling.{rule_of_lem}
use Rattle.numbers.specs.Held.{Held}
use Rattle.numbers.proofs.Fitting.{Wide, raw-below}
use Rattle.tables.specs.Table.{Table}
use Rattle.tables.specs.Check.{check_of}
use Rattle.tables.specs.Rules.{class_of_lem, width_fits_lem}
use Rattle.tables.proofs.Accepted.{widths}

-- rule c: a Float has 32 bits
wide : (k : FieldKind) (w : ℕ) → width_fits_lem (class_of_lem k) w ≡ true → Wide (rule_of_lem k) w
wide kind.Float w h = let e : w ≡ 32 = eqb-true w 32 h in omega arith
wide kind.Number w h = tt
wide kind.Lookup w h = tt
wide kind.IndirectLookup w h = tt
wide kind.Pgn w h = tt
wide kind.IsoName w h = tt
wide kind.Date w h = tt
wide kind.Mmsi w h = tt
wide kind.Duration w h = tt
wide kind.Time w h = tt
wide kind.BitLookup w h = tt
wide kind.Binary w h = tt
wide kind.Decimal w h = tt
wide kind.StringFix w h = tt
wide kind.StringLz w h = tt
wide kind.StringLau w h = tt
wide kind.Reserved w h = tt
wide kind.Spare w h = tt
wide kind.Unimplemented w h = tt

pub raw-fits : (t : Table) → check_of t ≡ Ok tt → (i : ℕ) → i < t.count → (v : PgnValue) (r : ℕ) → Held v → raw_of_lem (t.field i) v ≡ Ok r
    → (t.field i).width ≤ 64 → r < 2 ^ (t.field i).width
raw-fits t ok i l v r h e w = raw-below (t.field i) v r h w (wide (t.field i).kind (t.field i).width (widths t ok i l)) e
