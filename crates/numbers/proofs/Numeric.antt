-- Which fields hold a number: those of a numeric kind, of 1 to 64 bits; and only they give a raw. Assumes nothing.
use mathlib.Core.Path.{◌≡◌, refl, sym, ap, ap₂, ◌∙◌}
use mathlib.Core.Bool.{Bool, true, false, ◌&&◌, true≢false, false≢true}
use Prim.Native.Nat.{ℕ, ◌≤◌}
use native.Mathlib.Omega.{arith}
use lib.Dec.{leb}
use borrow.Author.Tests.{leb-true, le-leb}
use Rattle.std.specs.Prelude.{Result, Ok, Err}
use Rattle.bits.specs.Bits.{pick}
use Rattle.bits.specs.Calls.{width_max}
use Rattle.descriptor.specs.declared.FieldDescriptor.{FieldDescriptor}
use Rattle.numbers.specs.declared.NumberRefusal.{NumberRefusal}
use Rattle.numbers.specs.declared.NumberRefusal.TheVariants.{BadWidth, OutOfRange, WrongKind}
use Rattle.numbers.specs.Holds.{is_width_lem, is_numeric_lem, holds_of}
use Rattle.numbers.specs.Conversions.{if_held}

-- a width is of 1 to 64 bits
pub width-in : (n : ℕ) → is_width_lem n ≡ true → (1 ≤ n) × (n ≤ 64)
width-in n h = go (leb 1 n) (leb n width_max) refl refl h
  where
    go : (x y : Bool) → leb 1 n ≡ x → leb n width_max ≡ y → x && y ≡ true → (1 ≤ n) × (n ≤ 64)
    go true true e f h = (leb-true 1 n e, leb-true n width_max f)
    go true false e f h = absurd (false≢true h)
    go false y e f h = absurd (false≢true h)

-- a field of a numeric kind, of 1 to 64 bits, holds a number
pub holds : (f : FieldDescriptor) → is_numeric_lem f.kind f.width ≡ true → 1 ≤ f.width → f.width ≤ 64 → holds_of f ≡ Ok tt
holds f k l h =
    ap₂ (λ (x y : Bool). pick x (pick y (Ok tt) (Err (BadWidth f.width))) (Err WrongKind)) k
    (ap₂ (λ (x y : Bool). x && y) (le-leb 1 f.width l) (le-leb f.width width_max h))

-- a field that gives a raw holds a number
pub given-held : (h : Result (Unit {0}) NumberRefusal) (x : Result ℕ NumberRefusal) (r : ℕ) → if_held h x ≡ Ok r → x ≡ Ok r
given-held (Ok u) x r e = e
given-held (Err w) x r e = let z : ◌≡◌ {A = ℕ} 0 1 = cc in absurd (omega arith)

-- whether a field holds a number is no question of range: 10 is never the answer
abbrev unranged : Result (Unit {0}) NumberRefusal → Bool
unranged (Ok u) = true
unranged (Err (BadWidth n)) = true
unranged (Err OutOfRange) = false
unranged (Err WrongKind) = true

pub held-in-range : (f : FieldDescriptor) → holds_of f ≡ Err OutOfRange → ⊥
held-in-range f h = go (is_numeric_lem f.kind f.width) (is_width_lem f.width) (Ok tt) refl h
  where
    go : (k w : Bool) (u : Result (Unit {0}) NumberRefusal) → unranged u ≡ true → pick k (pick w u (Err (BadWidth f.width))) (Err WrongKind) ≡ Err OutOfRange → ⊥
    go true true u l e = true≢false (sym l ∙ ap unranged e)
    go true false u l e = true≢false (ap unranged e)
    go false w u l e = true≢false (ap unranged e)
