-- Raws of n bits, signed and not: where their top bit is clear or set, and which types hold them. Assumes nothing.
use mathlib.Core.Path.{◌≡◌, sym, ap, ◌∙◌, subst}
use mathlib.Core.Logic.{⊎_elim}
use Prim.Native.Nat.{ℕ, zero, suc, ◌+◌, ◌-◌, ◌*◌, ◌%◌, ◌^◌, ◌≤◌, ◌<◌}
use native.Mathlib.Nat.{mul_comm, pow-suc}
use native.Mathlib.Omega.{arith}
use lib.IntN.{ℤ, pos, negsuc}
use lib.Pow.{pow_mono}
use lib.Signed.{mag}
use borrow.Author.Tests.{lt-leb, le-leb, lt-ltb}
use Rattle.bits.proofs.Turns.{one_shl}
use Rattle.bits.proofs.Written.{below}
use Rattle.numbers.specs.Signs.{signed_of}

-- a width that is not 0: its half
pub double : (n : ℕ) → (n ≡ 0 → ⊥) → 2 ^ n ≡ 2 ^ (n - 1) + 2 ^ (n - 1)
double n h =
    let e : n ≡ suc (n - 1) = omega arith in
    let d : 2 ^ suc (n - 1) ≡ 2 * 2 ^ (n - 1) = pow-suc 2 (n - 1) ∙ mul_comm (2 ^ (n - 1)) 2 in
    ap (λ (m : ℕ). 2 ^ m) e ∙ d ∙ omega arith

-- `1 << (n - 1)`
pub half : (n : ℕ) → (n ≡ 0 → ⊥) → n ≤ 64 → 1 * 2 ^ (n - 1) % 2 ^ 64 ≡ 2 ^ (n - 1)
half n h l = one_shl (n - 1) (omega arith)

pub half_le : (n : ℕ) → n ≤ 64 → 2 ^ (n - 1) ≤ 2 ^ 63
half_le n l = pow_mono {j = 63} (omega arith)

-- "a raw of n bits with its top bit set means raw − 2^n", else it means itself
pub clear : (n raw : ℕ) → raw < 2 ^ (n - 1) → signed_of n raw ≡ pos raw
clear n raw h = simp (lt-leb (2 ^ (n - 1)) raw h)

pub set : (n raw : ℕ) → 2 ^ (n - 1) ≤ raw → raw < 2 ^ n → signed_of n raw ≡ negsuc (2 ^ n - suc raw)
set n raw h l = simp (le-leb (2 ^ (n - 1)) raw h, lt-ltb raw (2 ^ n) l)

-- a raw with its top bit set has a bit
pub some : (n raw : ℕ) → 2 ^ (n - 1) ≤ raw → raw < 2 ^ n → n ≡ 0 → ⊥
some zero raw h l e = omega arith
some (suc n) raw h l e = omega arith

-- the size of what a raw of n bits means: a signed type of h bits and its sign holds it where n is at most h + 1
pub mag-lt : (n h raw : ℕ) → n ≤ suc h → raw < 2 ^ n → mag (signed_of n raw) < 2 ^ h
mag-lt n h raw l r =
    let top : 2 ^ (n - 1) ≤ 2 ^ h = pow_mono (omega arith) in
    ⊎_elim
    (λ (b : raw < 2 ^ (n - 1)). subst (λ (z : ℤ). mag z < 2 ^ h) (sym (clear n raw b)) (omega arith))
    (λ (b : 2 ^ (n - 1) ≤ raw).
    let d : 2 ^ n ≡ 2 ^ (n - 1) + 2 ^ (n - 1) = double n (some n raw b r) in
    subst (λ (z : ℤ). mag z < 2 ^ h) (sym (set n raw b r)) (omega arith))
    (below raw (2 ^ (n - 1)))
