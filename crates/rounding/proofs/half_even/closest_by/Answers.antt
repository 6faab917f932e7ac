-- The calls answer the half of 2 ^ k, the quotient and the rest, and the one comparison
-- rounds, by `proofs/HalfEven.antt`.
use mathlib.Core.Path.{◌≡◌, sym, ap, ◌∙◌, subst}
use Prim.Native.Nat.{ℕ, suc, ◌+◌, ◌-◌, ◌*◌, ◌/◌, ◌%◌, ◌^◌, ◌≤◌, ◌<◌, min}
use native.Mathlib.Nat.{one-mul, mod-eq_of_lt, pow-succ'}
use native.Mathlib.Omega.{arith}
use lib.Pow.{pow-lt}
use lib.Bits.{bit_and, and_mask}
use lib.Ieee.Nearest.{closest}
use Rattle.halves.proofs.Masks.{asked}
use Rattle.rounding.proofs.HalfEven.{closest-up, closest-down}
use Rattle.rounding.proofs.half_even.closest_by.Goals as goal

-- the divisor by its half
module _ (m k : ℕ) (some : 0 < k) where
  twice : 2 * 2 ^ (k - 1) ≡ 2 ^ k
  twice = let e : suc (k - 1) ≡ k = omega arith in sym (pow-succ' 2 (k - 1)) ∙ ap (λ (x : ℕ). 2 ^ x) e

  up : 2 ^ (k - 1) < m % 2 ^ k + m / 2 ^ k % 2 → m / 2 ^ k + 1 ≡ closest m (2 ^ k)
  up = subst (λ (u : ℕ). 2 ^ (k - 1) < m % u + m / u % 2 → m / u + 1 ≡ closest m u) twice (closest-up m (2 ^ (k - 1)))

  down : m % 2 ^ k + m / 2 ^ k % 2 ≤ 2 ^ (k - 1) → m / 2 ^ k ≡ closest m (2 ^ k)
  down = subst (λ (u : ℕ). m % u + m / u % 2 ≤ 2 ^ (k - 1) → m / u ≡ closest m u) twice (closest-down m (2 ^ (k - 1)))

-- what the calls answer: the half, the quotient and the rest
record Shifted (m k h q mask : ℕ) : Type 0 where
  half : h ≡ 2 ^ (k - 1)
  quotient : q ≡ m / 2 ^ k
  rest : bit_and m mask ≡ m % 2 ^ k

-- their contracts say that: the shift of 1 loses no bit, and the mask keeps the rest
shifted : (m k : ℕ) {h q mask : ℕ} → (0 < k) × (k < 64) → h ≡ 1 * 2 ^ (k - 1) % 2 ^ 64 → q ≡ m / 2 ^ k → mask ≡ 2 ^ min k 64 - 1 → Shifted m k h q mask
shifted m k fit half quotient ones = record {
  half = half ∙ ap (λ (x : ℕ). x % 2 ^ 64) (one-mul (2 ^ (k - 1))) ∙ mod-eq_of_lt (pow-lt {j = 64} (omega arith));
  quotient = quotient;
  rest = ap (bit_and m) (ones ∙ asked k (omega arith)) ∙ and_mask m k;
}

pub returns-then-rest-q : goal.returns-then-rest-q
returns-then-rest-q c =
    let t = shifted _ _ c.requires c.left-h.ensures c.right-q.ensures c.ones.ensures in
    rw t.quotient (up _ _ c.requires.0 (omega arith))

pub returns-else-rest-q : goal.returns-else-rest-q
returns-else-rest-q c =
    let t = shifted _ _ c.requires c.left-h.ensures c.right-q.ensures c.ones.ensures in
    rw t.quotient (down _ _ c.requires.0 (omega arith))
