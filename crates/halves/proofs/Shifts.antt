-- A shift by a variable count, made of the halves of a number: by less than a half, by a half and more, by all. Assumes nothing.
use mathlib.Core.Path.{◌≡◌, sym, ap, ap₂, ◌∙◌, subst}
use Prim.Native.Nat.{ℕ, ◌+◌, ◌*◌, ◌/◌, ◌%◌, ◌-◌, ◌^◌, ◌≤◌, ◌<◌}
use native.Mathlib.Nat.{mod-lt, add-zero, zero-add, mul_assoc, mul-mod_left, lt_of_lt_of_le, div-eq_of_lt}
use native.Mathlib.Omega.{arith}
use lib.Pow.{pow_pos, pow-add, pow_mono, shl-shr, shr-shr, shr_lt, split, mod-pow-add, mod-mod-pow, field}
use lib.Bits.{bit_or, or_shifted, or_shifted_r}

-- what stays of a number that is shifted left, in j + k digits
kept : (a k j : ℕ) → a * 2 ^ k % 2 ^ (j + k) ≡ a % 2 ^ j * 2 ^ k
kept a k j =
    mod-pow-add (a * 2 ^ k) j k
    ∙ ap₂ (λ (x y : ℕ). x % 2 ^ j * 2 ^ k + y) (shl-shr a k) (mul-mod_left a (2 ^ k))
    ∙ add-zero (a % 2 ^ j * 2 ^ k)

-- of a half only the low digits matter
of_low : (v m : ℕ) → m ≤ 32 → v % 2 ^ 32 * 2 ^ m % 2 ^ 32 ≡ v * 2 ^ m % 2 ^ 32
of_low v m h =
    let j : ℕ = 32 - m in
    let e : 32 ≡ j + m = omega arith in
    let d : 32 ≡ m + j = omega arith in
    ap (λ (x : ℕ). v % 2 ^ 32 * 2 ^ m % 2 ^ x) e ∙ kept (v % 2 ^ 32) m j
    ∙ ap (λ (x : ℕ). x * 2 ^ m) (ap (λ (x : ℕ). v % 2 ^ x % 2 ^ j) d ∙ mod-mod-pow v m j)
    ∙ sym (ap (λ (x : ℕ). v * 2 ^ m % 2 ^ x) e ∙ kept v m j)

-- 32 digits from k on: the lower half's other j, then k of the upper half's
across : (v k j : ℕ) → 32 ≡ k + j → v / 2 ^ k % 2 ^ 32 ≡ v / 2 ^ 32 % 2 ^ k * 2 ^ j + v % 2 ^ 32 / 2 ^ k
across v k j e =
    let d : j + k ≡ 32 = omega arith in
    ap (λ (x : ℕ). v / 2 ^ k % 2 ^ x) e ∙ mod-pow-add (v / 2 ^ k) k j
    ∙ ap₂ (λ (x y : ℕ). x % 2 ^ k * 2 ^ j + y)
    (shr-shr v k j ∙ ap (λ (x : ℕ). v / 2 ^ x) (sym e))
    (sym (field v j k) ∙ ap (λ (x : ℕ). v % 2 ^ x / 2 ^ k) d)

-- what the upper half gives to the lower one: by one digit, then by 31 - k
given : (h k : ℕ) → k < 32 → h * 2 % 2 ^ 32 * 2 ^ (31 - k) % 2 ^ 32 ≡ h % 2 ^ k * 2 ^ (32 - k)
given h k l =
    let e : 32 ≡ k + (32 - k) = omega arith in
    let d : 1 + (31 - k) ≡ 32 - k = omega arith in
    of_low (h * 2) (31 - k) (omega arith)
    ∙ ap (λ (x : ℕ). x % 2 ^ 32) (mul_assoc h 2 (2 ^ (31 - k)) ∙ ap (λ (x : ℕ). h * x) (sym (pow-add 2 1 (31 - k)) ∙ ap (λ (x : ℕ). 2 ^ x) d))
    ∙ ap (λ (x : ℕ). h * 2 ^ (32 - k) % 2 ^ x) e ∙ kept h (32 - k) k

-- `right`
pub right_near : (v k : ℕ) → k < 32
    → v / 2 ^ 32 / 2 ^ k * 2 ^ 32 + bit_or (v % 2 ^ 32 / 2 ^ k) (v / 2 ^ 32 * 2 % 2 ^ 32 * 2 ^ (31 - k) % 2 ^ 32) ≡ v / 2 ^ k
right_near v k l =
    let j : ℕ = 32 - k in
    let e : 32 ≡ k + j = omega arith in
    let d : 32 ≡ j + k = omega arith in
    let c : 32 + k ≡ k + 32 = omega arith in
    let small : v % 2 ^ 32 / 2 ^ k < 2 ^ j = shr_lt j k (subst (λ (x : ℕ). v % 2 ^ 32 < 2 ^ x) d (mod-lt v (pow_pos 32))) in
    ap₂ (λ (x y : ℕ). x * 2 ^ 32 + y)
    (shr-shr v 32 k ∙ ap (λ (x : ℕ). v / 2 ^ x) c ∙ sym (shr-shr v k 32))
    (ap (bit_or (v % 2 ^ 32 / 2 ^ k)) (given (v / 2 ^ 32) k l) ∙ or_shifted_r (v / 2 ^ 32 % 2 ^ k) j (v % 2 ^ 32 / 2 ^ k) small ∙ sym (across v k j e))
    ∙ split (v / 2 ^ k) 32

pub right_far : (v k : ℕ) → 32 ≤ k → 0 * 2 ^ 32 + v / 2 ^ 32 / 2 ^ (k - 32) ≡ v / 2 ^ k
right_far v k l = let e : 32 + (k - 32) ≡ k = omega arith in zero-add _ ∙ shr-shr v 32 (k - 32) ∙ ap (λ (x : ℕ). v / 2 ^ x) e

pub right-none : (v k : ℕ) → v < 2 ^ 64 → 64 ≤ k → 0 ≡ v / 2 ^ k
right-none v k h l = sym (div-eq_of_lt (lt_of_lt_of_le h (pow_mono {i = 64} l)))

-- `left`
pub left_near : (v k : ℕ) → k < 32
    → bit_or (v / 2 ^ 32 * 2 ^ k % 2 ^ 32) (v % 2 ^ 32 / 2 / 2 ^ (31 - k)) * 2 ^ 32 + v % 2 ^ 32 * 2 ^ k % 2 ^ 32 ≡ v * 2 ^ k % 2 ^ 64
left_near v k l =
    let j : ℕ = 32 - k in
    let e : 32 ≡ j + k = omega arith in
    let d : 32 ≡ k + j = omega arith in
    let c : 1 + (31 - k) ≡ j = omega arith in
    let small : v % 2 ^ 32 / 2 ^ j < 2 ^ k = shr_lt k j (subst (λ (x : ℕ). v % 2 ^ 32 < 2 ^ x) d (mod-lt v (pow_pos 32))) in
    let up : v * 2 ^ k / 2 ^ 32 ≡ v / 2 ^ j = ap (λ (x : ℕ). v * 2 ^ k / 2 ^ x) d ∙ sym (shr-shr (v * 2 ^ k) k j) ∙ ap (λ (x : ℕ). x / 2 ^ j) (shl-shr v k) in
    ap₂ (λ (x y : ℕ). x * 2 ^ 32 + y)
    (ap₂ bit_or (ap (λ (x : ℕ). v / 2 ^ 32 * 2 ^ k % 2 ^ x) e ∙ kept (v / 2 ^ 32) k j) (shr-shr (v % 2 ^ 32) 1 (31 - k) ∙ ap (λ (x : ℕ). v % 2 ^ 32 / 2 ^ x) c)
    ∙ or_shifted (v / 2 ^ 32 % 2 ^ j) k (v % 2 ^ 32 / 2 ^ j) small ∙ sym (across v j k e) ∙ ap (λ (x : ℕ). x % 2 ^ 32) (sym up))
    (of_low v k (omega arith))
    ∙ sym (mod-pow-add (v * 2 ^ k) 32 32)

-- a power that is split off
apart : (v k m : ℕ) → m ≤ k → v * 2 ^ k ≡ v * 2 ^ (k - m) * 2 ^ m
apart v k m l =
    let e : k ≡ k - m + m = omega arith in
    ap (λ (x : ℕ). v * 2 ^ x) e ∙ ap (λ (x : ℕ). v * x) (pow-add 2 (k - m) m) ∙ sym (mul_assoc v (2 ^ (k - m)) (2 ^ m))

pub left_far : (v k : ℕ) → 32 ≤ k → k < 64 → v % 2 ^ 32 * 2 ^ (k - 32) % 2 ^ 32 * 2 ^ 32 + 0 ≡ v * 2 ^ k % 2 ^ 64
left_far v k l h =
    add-zero _
    ∙ ap (λ (x : ℕ). x * 2 ^ 32) (of_low v (k - 32) (omega arith))
    ∙ sym (ap (λ (x : ℕ). x % 2 ^ 64) (apart v k 32 l) ∙ kept (v * 2 ^ (k - 32)) 32 32)

pub left-none : (v k : ℕ) → 64 ≤ k → 0 ≡ v * 2 ^ k % 2 ^ 64
left-none v k l = sym (ap (λ (x : ℕ). x % 2 ^ 64) (apart v k 64 l) ∙ mul-mod_left (v * 2 ^ (k - 64)) (2 ^ 64))
