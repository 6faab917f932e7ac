-- "number field cut short" is what 4 means, and 1 and 6 are given for no number and no skipped field: by an accepted table, in a payload or a buffer of 223 bytes at most,
-- such a field is refused exactly where it ends beyond the payload. Assumes nothing.
use mathlib.Core.Path.{◌≡◌, refl, sym, ap, ◌∙◌}
use mathlib.Core.Bool.{Bool, true, false, not, ◌&&◌, ◌||◌, false≢true}
use Prim.Native.Nat.{ℕ, zero, suc, ◌+◌, ◌-◌, ◌*◌, ◌%◌, ◌≤◌, ◌<◌}
use native.Mathlib.Omega.{arith}
use lib.Dec.{eqb, leb, ltb}
use borrow.Author.Tests.{le-ltb, leb-true, eqb-true, ne_eqb}
use Rattle.std.specs.Prelude.{Ok}
use Rattle.bits.specs.Bits.{pick}
use Rattle.bits.specs.Calls.{bits, refuse, room_of, width_max}
use Rattle.bits.specs.declared.BitRefusal.TheVariants.{OutOfBits}
use Rattle.descriptor.specs.declared.FieldKind.{FieldKind}
use Rattle.descriptor.specs.declared.FieldKind.TheVariants as kind
use Rattle.tables.specs.Table.{Table}
use Rattle.tables.specs.Rules.{class_of_lem, within, whole_bytes_lem, width_fits_lem}
use Rattle.tables.specs.Check.{check_of, payload_max}
use Rattle.tables.proofs.Accepted.{between, widths}
use Rattle.fields.specs.declared.Shape.{Shape}
use Rattle.fields.specs.declared.Shape.TheVariants.{Number, Whole}
use Rattle.fields.specs.Shapes.{binary_of, shape_by, shape_of, is_number, is_gap_lem}

some : (n : ℕ) → (n ≡ 0 → ⊥) → 1 ≤ n
some zero f = absurd (f refl)
some (suc n) f = omega arith

-- a number, or bits that are skipped
abbrev pub in_bits : Shape → Bool
in_bits sh = is_number sh || is_gap_lem sh

-- a Binary that is a number is no multiple of 8
binary : (w : ℕ) → in_bits (binary_of w) ≡ true → (whole_bytes_lem w || (not (eqb (w % 8) 0) && leb w 63)) ≡ true → (1 ≤ w) × (w ≤ 64)
binary w s h = go (eqb (w % 8) 0) refl s h
  where
    go : (b : Bool) → eqb (w % 8) 0 ≡ b → in_bits (pick b Whole (Number false)) ≡ true → ((b && within 8 1784 w) || (not b && leb w 63)) ≡ true → (1 ≤ w) × (w ≤ 64)
    go true e s h = absurd (false≢true s)
    go false e s h =
        let l = leb-true w 63 h in
        let none : w ≡ 0 → ⊥ = λ z. let y : ◌≡◌ {A = Bool} true false = sym (ap (λ (n : ℕ). eqb (n % 8) 0) z) ∙ e in cc in
        (some w none, omega (arith, l))

pub bits-width : (k : FieldKind) (w : ℕ) → in_bits (shape_by k w) ≡ true → width_fits_lem (class_of_lem k) w ≡ true → (1 ≤ w) × (w ≤ 64)
bits-width kind.BitLookup w s h = between 1 64 w h
bits-width kind.Number w s h = between 1 64 w h
bits-width kind.Lookup w s h = between 1 64 w h
bits-width kind.IndirectLookup w s h = between 1 64 w h
bits-width kind.Pgn w s h = between 1 64 w h
bits-width kind.IsoName w s h = between 1 64 w h
bits-width kind.Float w s h = let e = eqb-true w 32 h in (omega (arith, e), omega (arith, e))
bits-width kind.Reserved w s h = between 1 64 w h
bits-width kind.Spare w s h = between 1 64 w h
bits-width kind.StringFix w s h = absurd (false≢true s)
bits-width kind.StringLz w s h = absurd (false≢true s)
bits-width kind.StringLau w s h = absurd (false≢true s)
bits-width kind.Binary w s h = binary w s h
bits-width kind.Date w s h = between 1 64 w h
bits-width kind.Mmsi w s h = between 1 64 w h
bits-width kind.Duration w s h = between 1 64 w h
bits-width kind.Time w s h = between 1 64 w h
bits-width kind.Decimal w s h = between 1 64 w h
bits-width kind.Unimplemented w s h = between 1 64 w h

pub room-only : (size at w : ℕ) → size ≤ payload_max → 1 ≤ w → w ≤ 64 → room_of size at w width_max ≡ refuse (ltb (size * 8) (at + w)) (OutOfBits (bits w) (bits (size * 8 - at))) (Ok tt)
room-only size at w l a b =
    let m : size ≤ 65536 = omega (arith, l) in
    let n : w ≡ 0 → ⊥ = λ z. omega (arith, z, a) in
    rw (le-ltb 65536 size m, ne_eqb w 0 n, le-ltb 64 w b)

pub cut_short : (t : Table) → check_of t ≡ Ok tt → (i : ℕ) → i < t.count → in_bits (shape_of (t.field i)) ≡ true → (size : ℕ) → size ≤ payload_max → (at : ℕ)
    → room_of size at (t.field i).width width_max ≡ refuse (ltb (size * 8) (at + (t.field i).width)) (OutOfBits (bits (t.field i).width) (bits (size * 8 - at))) (Ok tt)
cut_short t ok i l s size small at =
    let w = bits-width (t.field i).kind (t.field i).width s (widths t ok i l) in
    room-only size at (t.field i).width small w.0 w.1
