-- A float of 2^64 or more: it is 2^64, or at least 4,096 beyond it, since an `f64` has 53 digits. So of the limits only that
-- of the unsigned 64-bit raws is near one, and near 2^64 alone. Assumes nothing.
use mathlib.Core.Path.{◌≡◌, refl, sym, ap, ap₂, ◌∙◌, subst}
use mathlib.Core.Logic.{◌⊎◌, inl, inr, ⊎_elim}
use mathlib.Core.Bool.{Bool, true, false, ◌&&◌, true≢false, false≢true}
use Prim.Native.Nat.{ℕ, zero, suc, ◌+◌, ◌-◌, ◌*◌, ◌/◌, ◌%◌, ◌^◌, ◌≤◌, ◌<◌}
use native.Mathlib.Nat.{div-one, mul-one, div-le_self, mul-div_cancel, mul_assoc, lt_of_lt_of_le, mul-le-mul_left}
use native.Mathlib.Omega.{arith}
use lib.Dec.{T, ltb, leb, eqb, ltb→lt}
use lib.IntN.{ℤ, pos, negsuc}
use lib.Pow.{pow_mono, pow-add}
use lib.Ieee.{Float, nan, inf, fin, binary64, up, down, fits, eq, level, of_bits}
use lib.Ieee.Fits.{and_l, and_r, down_pos}
use borrow.Author.Tests.{ltb-false, lt-leb, eqb-true, eq-eqb}
use Rattle.std.specs.Prelude.{None, Result, Ok, Err}
use Rattle.bits.specs.Bits.{pick}
use Rattle.bits.proofs.Written.{below}
use Rattle.rounding.specs.Truncation.{cut_to, truncated_of, below64}
use Rattle.numbers.specs.declared.NumberRefusal.{NumberRefusal}
use Rattle.numbers.specs.declared.NumberRefusal.TheVariants.{OutOfRange}
use Rattle.numbers.specs.Quantizing.{limit_of_lem, nearly_of, cut_of}

-- the code's 2^64
pub edge : of_bits binary64 0x43f0_0000_0000_0000 ≡ fin false 1 (pos 64)
unfolding of_bits
edge = refl

-- an `f64` has 53 digits
digits : (s : Bool) (m : ℕ) (e : ℤ) → T (fits binary64 (fin s m e)) → m < 2 ^ 53
unfolding fits
digits s zero e h = omega arith
digits s (suc m) e h =
    let a = eqb (suc m % 2) 1 in
    let b = ltb (suc m) (2 ^ 53) in
    let c = leb (down e) (2 ^ 1074) in
    let d = ltb (suc m * up e) (2 ^ 1024 * down e) in
    ltb→lt (suc m) (2 ^ 53) (and_r a b (and_l (a && b) c (and_l (a && b && c) d h)))

-- its whole part from 2^64 on
far : (m : ℕ) (e : ℤ) → m < 2 ^ 53 → 2 ^ 64 ≤ m * up e / down e → (m * up e ≡ 2 ^ 64 * down e) ⊎ (2 ^ 64 + 4096 ≤ m * up e / down e)
far m (negsuc k) h g =
    let l : m * 1 / 2 ^ suc k ≤ m * 1 = div-le_self (m * 1) (2 ^ suc k) in
    absurd (omega arith)
far m (pos k) h g = subst (λ (x : ℕ). (m * 2 ^ k ≡ 2 ^ 64) ⊎ (2 ^ 64 + 4096 ≤ x)) (sym (div-one (m * 2 ^ k))) (⊎_elim
    (λ (l : k < 12).
    let p : 2 ^ k ≤ 2 ^ 11 = pow_mono {j = 11} (omega arith) in
    let q : m * 2 ^ k ≤ m * 2048 = mul-le-mul_left m p in
    absurd (omega arith))
    (λ (l : 12 ≤ k).
    let j : ℕ = k - 12 in
    let d : k ≡ j + 12 = omega arith in
    let e : m * 2 ^ k ≡ m * 2 ^ j * 4096 = ap (λ (i : ℕ). m * 2 ^ i) d ∙ ap (λ (x : ℕ). m * x) (pow-add 2 j 12) ∙ sym (mul_assoc m (2 ^ j) 4096) in
    let b : 2 ^ 64 ≤ m * 2 ^ k = big in
    ⊎_elim (λ (u : m * 2 ^ j < 2 ^ 52 + 1). inl (omega arith)) (λ (u : 2 ^ 52 + 1 ≤ m * 2 ^ j). inr (omega arith)) (below (m * 2 ^ j) (2 ^ 52 + 1)))
    (below k 12))
  where
    big : 2 ^ 64 ≤ m * 2 ^ k
    big = subst (λ (x : ℕ). 2 ^ 64 ≤ x) (div-one (m * 2 ^ k)) g

-- ---- beyond every limit

none : (b : Bool) → pick {A = Result ℕ NumberRefusal} b (Err OutOfRange) (Err OutOfRange) ≡ Err OutOfRange
none true = refl
none false = refl

-- a magnitude beyond the limit and what lies near it
pub refused : (n : ℕ) (signed negative : Bool) (m : ℕ) → limit_of_lem n signed negative + 2 ^ (n - 53) < m → nearly_of n signed negative m ≡ Err OutOfRange
refused n signed negative m h =
    let limit = limit_of_lem n signed negative in
    let l : limit < m = omega arith in
    simp (lt-leb m limit l, lt-leb m (limit + 2 ^ (n - 53)) h) (none (ltb 53 n))

-- of 64 bits at most, a limit and what lies near it end below 2^64, but for the unsigned 64 bits
slack : (n : ℕ) → n ≤ 64 → 2 ^ (n - 53) ≤ 2048
slack n h = pow_mono {j = 11} (omega arith)

pub signed-small : (n : ℕ) (negative : Bool) → n ≤ 64 → limit_of_lem n true negative + 2 ^ (n - 53) < 2 ^ 64
signed-small n true h = let a : 2 ^ (n - 1) ≤ 2 ^ 63 = pow_mono {j = 63} (omega arith) in let b = slack n h in omega arith
signed-small n false h = let a : 2 ^ (n - 1) ≤ 2 ^ 63 = pow_mono {j = 63} (omega arith) in let b = slack n h in omega arith

pub below-small : (n : ℕ) → n ≤ 64 → limit_of_lem n false true + 2 ^ (n - 53) < 2 ^ 64
below-small n h = let b = slack n h in omega arith

pub narrow-small : (n : ℕ) → n < 64 → limit_of_lem n false false + 2 ^ (n - 53) < 2 ^ 64
narrow-small n h = let a : 2 ^ n ≤ 2 ^ 63 = pow_mono {j = 63} (omega arith) in let b = slack n (omega arith) in omega arith

-- ---- the four ends of the code

first : (x y : Bool) → x && y ≡ true → x ≡ true
first true y h = refl
first false y h = h

second : (x y : Bool) → x && y ≡ true → y ≡ true
second true y h = h
second false y h = absurd (false≢true h)

-- a positive number that is level with one above zero
same : (s : Bool) (a b : ℕ) → 0 < b → level s a false b ≡ true → (s ≡ false) × (a ≡ b)
same false a b p h = (refl, eqb-true a b (first (eqb a b) true h))
same true a b p h =
    let e : a ≡ b = eqb-true a b (first (eqb a b) (eqb a 0) h) in
    let z : a ≡ 0 = eqb-true a 0 (second (eqb a b) (eqb a 0) h) in
    absurd (omega arith)

-- what is equal to 2^64 is cut to it
edge-cut : (n : ℕ) (signed : Bool) (y : Float) → eq y (fin false 1 (pos 64)) ≡ true → cut_of n signed y ≡ nearly_of n signed false (2 ^ 64)
unfolding eq
edge-cut n signed nan h = absurd (false≢true h)
edge-cut n signed (inf s) h = absurd (false≢true h)
edge-cut n signed (fin s m e) h =
    let d : 0 < 2 ^ 64 * down e = omega (arith, down_pos e) in
    let k = same s (m * up e * 1) (2 ^ 64 * down e) d h in
    let q : m * up e / down e ≡ 2 ^ 64 = ap (λ (x : ℕ). x / down e) (sym (mul-one (m * up e)) ∙ k.1) ∙ mul-div_cancel (2 ^ 64) (down_pos e) in
    ap₂ (λ (t : Bool) (x : ℕ). nearly_of n signed t x) k.0 q

module _ (n : ℕ) (h : n ≤ 64) (y : Float) where
  -- 2^64 in a signed field
  pub edge-signed : eq y (fin false 1 (pos 64)) ≡ true → Err OutOfRange ≡ cut_of n true y
  edge-signed e = sym (edge-cut n true y e ∙ refused n true false (2 ^ 64) (signed-small n false h))

  -- 2^64 in an unsigned one of 64 bits, and of fewer
  pub edge-last : n ≡ 64 → eq y (fin false 1 (pos 64)) ≡ true → Ok 0xffff_ffff_ffff_ffff ≡ cut_of n false y
  edge-last w e = sym (edge-cut n false y e ∙ ap (λ (k : ℕ). nearly_of k false false (2 ^ 64)) w)

  pub edge-narrow : (n ≡ 64 → ⊥) → eq y (fin false 1 (pos 64)) ≡ true → Err OutOfRange ≡ cut_of n false y
  edge-narrow w e = sym (edge-cut n false y e ∙ refused n false false (2 ^ 64) (narrow-small n (omega arith)))

-- what is cut to 2^64 or more
large : (b s : Bool) (m : ℕ) → ltb m (2 ^ 64) ≡ b → below64 b (cut_to s m) ≡ None → 2 ^ 64 ≤ m
large true s m e h = let z : ◌≡◌ {A = ℕ} 0 1 = cc in absurd (omega arith)
large false s m e h = ltb-false m (2 ^ 64) e

-- in an unsigned field, above zero: of 64 bits it is 2^64, which was tested, or far beyond
unsigned-beyond : (n m : ℕ) (e : ℤ) → n ≤ 64 → m < 2 ^ 53 → 2 ^ 64 ≤ m * up e / down e → (m * up e ≡ 2 ^ 64 * down e → ⊥)
    → limit_of_lem n false false + 2 ^ (n - 53) < m * up e / down e
unsigned-beyond n m e h d g no_edge = ⊎_elim
    (λ (l : n < 64). let k = narrow-small n l in omega arith)
    (λ (l : 64 ≤ n). ⊎_elim
    (λ (q : m * up e ≡ 2 ^ 64 * down e). absurd (no_edge q))
    (λ (q : 2 ^ 64 + 4096 ≤ m * up e / down e).
    let w : n ≡ 64 = omega arith in
    subst (λ (k : ℕ). limit_of_lem k false false + 2 ^ (k - 53) < m * up e / down e) (sym w) (omega arith))
    (far m e d g))
    (below n 64)

other-fin : (n : ℕ) (signed s : Bool) (m : ℕ) (e : ℤ) → n ≤ 64 → m < 2 ^ 53 → 2 ^ 64 ≤ m * up e / down e → eq (fin s m e) (fin false 1 (pos 64)) ≡ false
    → nearly_of n signed s (m * up e / down e) ≡ Err OutOfRange
unfolding eq
other-fin n true s m e h d g f = refused n true s _ (lt_of_lt_of_le (signed-small n s h) g)
other-fin n false true m e h d g f = refused n false true _ (lt_of_lt_of_le (below-small n h) g)
other-fin n false false m e h d g f =
    refused n false false _ (unsigned-beyond n m e h d g (λ q.
    true≢false (sym (ap (λ (b : Bool). b && true) (eq-eqb (m * up e * 1) (2 ^ 64 * down e) (mul-one (m * up e) ∙ q))) ∙ f)))

-- any other float whose whole part does not fit 64 bits
pub other : (n : ℕ) (signed : Bool) (y : Float) → n ≤ 64 → T (fits binary64 y) → truncated_of y ≡ None → eq y (fin false 1 (pos 64)) ≡ false → Err OutOfRange ≡ cut_of n signed y
unfolding truncated_of
other n signed nan h t k f = refl
other n signed (inf s) h t k f = refl
other n signed (fin s m e) h t k f = sym (other-fin n signed s m e h (digits s m e t) (large (ltb (m * up e / down e) (2 ^ 64)) s (m * up e / down e) refl k) f)
