-- A run of bits out of a word of 8 bytes. Assumes nothing.
use mathlib.Core.Path.{◌≡◌, refl, sym, ap, ap₂, ◌∙◌}
use mathlib.Core.List.{List}
use Prim.Native.Nat.{ℕ, ◌+◌, ◌*◌, ◌/◌, ◌%◌, ◌-◌, ◌^◌, ◌≤◌, ◌<◌}
use native.Mathlib.Nat.{mod-eq_of_lt, div-one, add_comm}
use native.Mathlib.Omega.{arith}
use lib.ListN.{get_or}
use lib.Pow.{ones_split, high, ones_lt}
use lib.Bits.{bit_and, and_mask}
use Rattle.bits.specs.Bits.{bit_at, bits_at}
use Rattle.bits.proofs.Sums.{sum-ext, cut_high, cut_low}
use Rattle.bits.proofs.Turns.{bit-lt, in-byte, more}

-- a whole byte
pub byte : (bytes : List ℕ) (q p : ℕ) → p ≡ q * 8 → get_or bytes q 0 < 2 ^ 8 → bits_at bytes p 8 ≡ get_or bytes q 0
byte bytes q p e l =
    let d : p / 8 ≡ q = omega arith in
    let m : p % 8 ≡ 0 = omega arith in
    let h : p % 8 + 8 ≤ 8 = omega arith in
    in-byte bytes p 8 h ∙ ap₂ (λ (a b : ℕ). get_or bytes a 0 / 2 ^ b % 2 ^ 8) d m ∙ ap (λ (x : ℕ). x % 2 ^ 8) (div-one (get_or bytes q 0)) ∙ mod-eq_of_lt l

-- n ones
pub mask : (n : ℕ) → n ≤ 64 → (2 ^ 64 - 1) / 2 ^ (64 - n) ≡ 2 ^ n - 1
mask n h =
    let e : 64 ≡ n + (64 - n) = omega arith in
    ap (λ (m : ℕ). (2 ^ m - 1) / 2 ^ (64 - n)) e ∙ ap (λ (x : ℕ). x / 2 ^ (64 - n)) (ones_split n (64 - n)) ∙ high (2 ^ n - 1) (64 - n) (ones_lt (64 - n))

-- a run within a run
pub inner : (bytes : List ℕ) (p o n r : ℕ) → bits_at bytes p (o + (n + r)) / 2 ^ o % 2 ^ n ≡ bits_at bytes (p + o) n
inner bytes p o n r =
    ap (λ (x : ℕ). x % 2 ^ n) (cut_high (λ (k : ℕ). bit_at bytes (p + k)) o (n + r) (λ k. bit-lt _ _))
    ∙ cut_low (λ (j : ℕ). bit_at bytes (p + (o + j))) n r (λ k. bit-lt _ _)
    ∙ sum-ext _ _ n (λ j l. let e : p + (o + j) ≡ p + o + j = omega arith in ap (bit_at bytes) e)

-- n bits out of the word at byte q, from its bit o on
pub taken : (bytes : List ℕ) (q o n : ℕ) → o + n ≤ 64 → bit_and (bits_at bytes (q * 8) 64 / 2 ^ o) (0xffff_ffff_ffff_ffff / 2 ^ (64 - n)) ≡ bits_at bytes (q * 8 + o) n
taken bytes q o n h =
    let w : ℕ = bits_at bytes (q * 8) 64 / 2 ^ o in
    let e : 64 ≡ o + (n + (64 - (o + n))) = omega arith in
    ap (bit_and w) (mask n (omega arith)) ∙ and_mask w n
    ∙ ap (λ (m : ℕ). bits_at bytes (q * 8) m / 2 ^ o % 2 ^ n) e
    ∙ inner bytes (q * 8) o n (64 - (o + n))

-- the bytes before, and one byte more
one_more : (bytes : List ℕ) (q : ℕ) → ((i : ℕ) → get_or bytes i 0 < 2 ^ 8) → (i k : ℕ) {a : ℕ} → a ≡ bits_at bytes (q * 8) k → i * 8 ≡ k
    → a + get_or bytes (q + i) 0 * 2 ^ k ≡ bits_at bytes (q * 8) (k + 8)
one_more bytes q h i k e m =
    let p : q * 8 + k ≡ (q + i) * 8 = omega arith in
    ap₂ (λ (a r : ℕ). a + r * 2 ^ k) e (sym (byte bytes (q + i) (q * 8 + k) p (h (q + i))))
    ∙ add_comm (bits_at bytes (q * 8) k) (bits_at bytes (q * 8 + k) 8 * 2 ^ k)
    ∙ sym (more bytes (q * 8) k 8)

-- the number of the 8 bytes from byte q on
pub word-sum : (bytes : List ℕ) (q : ℕ) → ((i : ℕ) → get_or bytes i 0 < 2 ^ 8)
    → get_or bytes q 0 + get_or bytes (q + 1) 0 * 2 ^ 8 + get_or bytes (q + 2) 0 * 2 ^ 16 + get_or bytes (q + 3) 0 * 2 ^ 24
    + get_or bytes (q + 4) 0 * 2 ^ 32 + get_or bytes (q + 5) 0 * 2 ^ 40 + get_or bytes (q + 6) 0 * 2 ^ 48 + get_or bytes (q + 7) 0 * 2 ^ 56
    ≡ bits_at bytes (q * 8) 64
word-sum bytes q h =
    one_more bytes q h 7 56 (one_more bytes q h 6 48 (one_more bytes q h 5 40 (one_more bytes q h 4 32 (one_more bytes q h 3 24 (one_more bytes q h 2 16
    (one_more bytes q h 1 8 (sym (byte bytes q (q * 8) refl (h q))) refl) refl) refl) refl) refl) refl) refl
