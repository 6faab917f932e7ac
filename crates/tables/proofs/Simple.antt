-- What a field is whose word says that it is a simple number; and it keeps the rules. Assumes nothing.
use mathlib.Core.Path.{◌≡◌, refl, sym, ap, ap₂, ◌∙◌}
use mathlib.Core.Logic.{◌⊎◌, inl, inr}
use mathlib.Core.Bool.{Bool, true, false, not, ◌&&◌, ◌||◌}
use Prim.Native.Nat.{ℕ, ◌+◌, ◌/◌, ◌%◌, ◌^◌, ◌≤◌, ◌<◌}
use native.Mathlib.Omega.{arith}
use lib.Dec.{eqb, leb}
use borrow.Author.Tests.{ne_eqb, le-leb, leb-true, eqb-true}
use Rattle.bits.specs.Bits.{pick}
use Rattle.descriptor.specs.Kinds.{kind_of, resolution_of_lem}
use Rattle.descriptor.specs.declared.FieldKind.TheVariants.{Number, Lookup}
use Rattle.descriptor.specs.declared.FieldDescriptor.{FieldDescriptor}
use Rattle.tables.specs.declared.KindClass.{KindClass}
use Rattle.tables.specs.declared.KindClass.TheVariants.{Numeric}
use Rattle.tables.specs.Table.{Table, part, field_of, simple_width_lem, Simple}
use Rattle.tables.specs.Rules.{class_of_lem, known, within, width_fits_lem, resolution_fits_lem, sign_fits_lem, scaled, last_only, in_sets_lem, place_fits_lem}
use Rattle.tables.specs.Check.{KeptField}

-- the tests that it passed
record Passed (w : ℕ) : Type 0 where
  bare : w / 2 ^ 24 ≡ 0
  kind : (w % 2 ^ 8 ≡ 0) ⊎ (w % 2 ^ 8 ≡ 2)
  short : part w 8 16 ≤ 64
  width : simple_width_lem w ≡ part w 8 16

passed : (w : ℕ) → 0 < simple_width_lem w → Passed w
passed w h = go (eqb (w / 2 ^ 24) 0) (eqb (w % 2 ^ 8) 0) (eqb (w % 2 ^ 8) 2) (leb (part w 8 16) 64) refl refl refl refl h
  where
    go : (a x y d : Bool) → eqb (w / 2 ^ 24) 0 ≡ a → eqb (w % 2 ^ 8) 0 ≡ x → eqb (w % 2 ^ 8) 2 ≡ y → leb (part w 8 16) 64 ≡ d
        → 0 < pick (a && ((x || y) && d)) (part w 8 16) 0 → Passed w
    go false x y d e f g k h = absurd (omega (arith, h))
    go true false false d e f g k h = absurd (omega (arith, h))
    go true true y false e f g k h = absurd (omega (arith, h))
    go true true y true e f g k h =
        record {
          bare = eqb-true _ _ e;
          kind = inl (eqb-true _ _ f);
          short = leb-true _ _ k;
          width = ap₂ (λ (p q : Bool). pick (p && ((q || eqb (w % 2 ^ 8) 2) && leb (part w 8 16) 64)) (part w 8 16) 0) e f ∙ ap (λ (q : Bool). pick q (part w 8 16) 0) k;
        }
    go true false true false e f g k h = absurd (omega (arith, h))
    go true false true true e f g k h =
        record {
          bare = eqb-true _ _ e;
          kind = inr (eqb-true _ _ g);
          short = leb-true _ _ k;
          width = ap₂ (λ (p q : Bool). pick (p && ((eqb (w % 2 ^ 8) 0 || q) && leb (part w 8 16) 64)) (part w 8 16) 0) e g ∙ ap (λ (p : Bool). pick ((p || true) && leb (part w 8 16) 64) (part w 8 16) 0) f ∙ ap (λ (q : Bool). pick q (part w 8 16) 0) k;
        }

-- the bits from 24 on are 0: the sign's, the mark's two and the resolution's
unsigned : (w : ℕ) → w / 16777216 ≡ 0 → w / 16777216 % 2 ≡ 0
unsigned w h = omega (arith, h)

unmarked : (w : ℕ) → w / 16777216 ≡ 0 → w / 33554432 % 4 ≡ 0
unmarked w h = omega (arith, h)

plain : (w : ℕ) → w / 16777216 ≡ 0 → w / 4294967296 % 4294967296 ≡ 0
plain w h = omega (arith, h)

pub simple : (w : ℕ) → 0 < simple_width_lem w → Simple (field_of w) (simple_width_lem w)
simple w h =
    let p = passed w h in
    let s = unsigned w p.bare in
    let m = unmarked w p.bare in
    let b = plain w p.bare in
    record {
      kind = by p.kind;
      width = sym p.width;
      unsigned = ne_eqb (part w 24 1) 1 (λ z. omega (arith, s, z));
      unscaled = ap₂ resolution_of_lem m b;
      small = omega (arith, p.short, p.width);
    }
  where
    by : (w % 2 ^ 8 ≡ 0) ⊎ (w % 2 ^ 8 ≡ 2) → ((field_of w).kind ≡ Number) ⊎ ((field_of w).kind ≡ Lookup)
    by (inl e) = inl (ap kind_of e)
    by (inr e) = inr (ap kind_of e)

-- ## It keeps the rules

-- a numeric kind fits anywhere
pub anywhere : (t : Table) (i : ℕ) → class_of_lem (t.field i).kind ≡ Numeric → place_fits_lem t i ≡ true
anywhere t i e = ap (λ (x : KindClass). not (last_only x) || (eqb (i + 1) t.count && not (in_sets_lem t i t.sets))) e

pub numeric : {f : FieldDescriptor} {n : ℕ} → Simple f n → class_of_lem f.kind ≡ Numeric
numeric {f} {n} p = by p.kind
  where
    by : (f.kind ≡ Number) ⊎ (f.kind ≡ Lookup) → class_of_lem f.kind ≡ Numeric
    by (inl e) = ap class_of_lem e
    by (inr e) = ap class_of_lem e

pub simple-kept : (t : Table) (i n : ℕ) → 0 < n → Simple (t.field i) n → KeptField t i
simple-kept t i n h p =
    let f = t.field i in
    let e = numeric p in
    let w : within 1 64 f.width ≡ true = ap₂ (λ (x y : Bool). x && y) (le-leb 1 f.width (omega (arith, h, p.width))) (le-leb f.width 64 (omega (arith, p.small, p.width))) in
    record {
      b = ap known e;
      c = ap (λ (x : KindClass). width_fits_lem x f.width) e ∙ w;
      d = ap₂ resolution_fits_lem e p.unscaled;
      e = ap (λ (x : KindClass). sign_fits_lem x f.width f.signed (scaled f.resolution)) e;
      f = anywhere t i e;
    }
