-- Numbers with a sign, and decimal numbers. Assumes nothing.
use mathlib.Core.Path.{◌≡◌, refl, ap}
use mathlib.Core.Bool.{Bool, true, false, ◌&&◌}
use mathlib.Core.List.{List}
use Prim.Native.Nat.{ℕ, suc, ◌+◌, ◌-◌, ◌*◌, ◌^◌, ◌≤◌, ◌<◌}
use native.Mathlib.Nat.{mul-le-mul_right, pow-le-pow_right, mod-eq_of_lt}
use native.Mathlib.Omega.{arith}
use borrow.Author.Tests.{ltb-true, ltb-false}
use lib.Dec.{ltb}
use lib.ListN.{length}
use lib.Pow.{pow-add}
use Rattle.std.specs.Prelude.{Option, Some, unwrap_or}
use Rattle.hexadecimal.proofs.Inverse.{both}
use Rattle.columns.specs.Numbers.{decimal_digits, decimal_in}
use Rattle.columns.proofs.Spelling.{number-below}
use Rattle.compose.specs.Decimals.{complement}

-- ## A sign

module _ (negative : Bool) (n : ℕ) where
  pub some-negative : negative && ltb 0 n ≡ true → 1 ≤ n
  some-negative e = ltb-true 0 n (both negative (ltb 0 n) e).1

  pub complement-some : n < 2 ^ 64 → negative && ltb 0 n ≡ true → 0xffff_ffff_ffff_ffff - (n - 1) ≡ complement negative n
  complement-some l e =
      let h = both negative (ltb 0 n) e in
      let some = ltb-true 0 n h.1 in
      let less : 2 ^ 64 - n < 2 ^ 64 = omega arith in
      rw h.0 (omega (arith, mod-eq_of_lt less))

pub complement-none : (negative : Bool) (n : ℕ) → negative && ltb 0 n ≡ false → n ≡ complement negative n
complement-none false n e = refl
complement-none true n e = let none : n ≡ 0 = omega (arith, ltb-false 0 n e) in rw none

-- ## A point

-- the power of so many places
pub power-fits : (n : ℕ) → n ≤ 15 → 10 ^ n < 2 ^ 64
power-fits n l = let m : 10 ^ n ≤ 10 ^ 15 = pow-le-pow_right (omega arith) l in omega (arith, m)

-- a number below a power of ten, then so many digits more
pub joined : (a b m k : ℕ) → a < 10 ^ m → b < 10 ^ k → m + k ≤ 15 → a * 10 ^ k + b < 2 ^ 64
joined a b m k l h f =
    let all : suc a * 10 ^ k ≤ 10 ^ m * 10 ^ k = mul-le-mul_right (10 ^ k) l in
    let most : 10 ^ (m + k) ≤ 10 ^ 15 = pow-le-pow_right (omega arith) f in
    omega (arith, pow-add 10 m k, all, most)

-- the digits before a point and those after it, as they were read, over a power of ten
pub fits : (whole rest : List ℕ) {a b power : ℕ} → decimal_in whole ≡ Some a → b ≡ unwrap_or (decimal_in rest) 0 → length whole + length rest ≤ 15 → power ≡ 10 ^ length rest → a * power + b < 2 ^ 64
fits whole rest {a} {b} e f few q =
    let first : a < 10 ^ length whole = omega (arith, number-below 10 decimal_digits whole (omega arith), ap (λ (n : Option ℕ). unwrap_or n 0) e) in
    let last : b < 10 ^ length rest = rw f (number-below 10 decimal_digits rest (omega arith)) in
    rw q (joined a b (length whole) (length rest) first last few)
