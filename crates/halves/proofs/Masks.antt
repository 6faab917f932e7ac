-- So many ones, by the half that they end in. Assumes nothing.
use mathlib.Core.Path.{◌≡◌, sym, ap, ◌∙◌}
use Prim.Native.Nat.{ℕ, ◌+◌, ◌*◌, ◌/◌, ◌%◌, ◌-◌, ◌^◌, ◌≤◌, ◌<◌, min}
use native.Mathlib.Nat.{zero-add, min-eq_left}
use native.Mathlib.Omega.{arith}
use lib.Pow.{ones_split, ones_lt, high}

-- as many ones as are asked for, of up to 64
pub asked : (n : ℕ) → n ≤ 64 → 2 ^ min n 64 - 1 ≡ 2 ^ n - 1
asked n l = ap (λ (x : ℕ). 2 ^ x - 1) (min-eq_left l)

-- 32 ones, of which the m low places are kept
shifted-ones : (m r : ℕ) → 32 ≡ m + r → (2 ^ 32 - 1) / 2 ^ r ≡ 2 ^ m - 1
shifted-ones m r e = ap (λ (x : ℕ). (2 ^ x - 1) / 2 ^ r) e ∙ ap (λ (x : ℕ). x / 2 ^ r) (ones_split m r) ∙ high (2 ^ m - 1) r (ones_lt r)

pub below : (n : ℕ) → 0 < n → n ≤ 32 → 0 * 2 ^ 32 + (2 ^ 32 - 1) / 2 ^ (31 - (n - 1) % 32) ≡ 2 ^ min n 64 - 1
below n s l =
    let e : 32 ≡ n + (31 - (n - 1) % 32) = omega arith in
    zero-add _ ∙ shifted-ones n (31 - (n - 1) % 32) e ∙ sym (asked n (omega arith))

pub above : (n : ℕ) → 32 < n → n ≤ 64 → (2 ^ 32 - 1) / 2 ^ (31 - (n - 1) % 32) * 2 ^ 32 + (2 ^ 32 - 1) ≡ 2 ^ min n 64 - 1
above n s l =
    let e : 32 ≡ n - 32 + (31 - (n - 1) % 32) = omega arith in
    let d : n - 32 + 32 ≡ n = omega arith in
    ap (λ (x : ℕ). x * 2 ^ 32 + (2 ^ 32 - 1)) (shifted-ones (n - 32) (31 - (n - 1) % 32) e)
    ∙ sym (ones_split (n - 32) 32) ∙ ap (λ (x : ℕ). 2 ^ x - 1) d ∙ sym (asked n l)
