-- The value of a digit by the range that its byte lies in, and the digit by that of its value. Assumes nothing.
use Prim.Native.Nat.{ℕ, ◌+◌, ◌-◌, ◌%◌, ◌≤◌, ◌<◌}
use mathlib.Core.Path.{◌≡◌}
use borrow.Author.Tests.{lt-ltb, le-ltb}
use native.Mathlib.Omega.{arith}
use Rattle.hexadecimal.specs.Digits.{value_of, digit_of_lem}

pub below : (b : ℕ) → b < 48 → value_of b ≡ 16
below b h = simp (lt-ltb b 48 h)

pub low : (b : ℕ) → 48 ≤ b → b < 58 → value_of b ≡ b - 48
low b h k = simp (le-ltb b 48 h, lt-ltb b 58 k)

pub between : (b : ℕ) → 58 ≤ b → b < 65 → value_of b ≡ 16
between b h k =
    let far : 48 ≤ b = omega arith in
    simp (le-ltb b 48 far, le-ltb b 58 h, lt-ltb b 65 k)

pub high : (b : ℕ) → 65 ≤ b → b < 71 → value_of b ≡ b - 55
high b h k =
    let far : 48 ≤ b = omega arith in
    let farther : 58 ≤ b = omega arith in
    simp (le-ltb b 48 far, le-ltb b 58 farther, le-ltb b 65 h, lt-ltb b 71 k)

pub above : (b : ℕ) → 71 ≤ b → value_of b ≡ 16
above b h =
    let far : 48 ≤ b = omega arith in
    let farther : 58 ≤ b = omega arith in
    let farthest : 65 ≤ b = omega arith in
    simp (le-ltb b 48 far, le-ltb b 58 farther, le-ltb b 65 farthest, le-ltb b 71 h)

pub figure : (n : ℕ) → n % 16 < 10 → digit_of_lem n ≡ 48 + n % 16
figure n h = rw (lt-ltb (n % 16) 10 h)

pub letter : (n : ℕ) → 10 ≤ n % 16 → digit_of_lem n ≡ 55 + n % 16
letter n h = rw (le-ltb (n % 16) 10 h)
