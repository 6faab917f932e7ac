-- A turn of a write: what the patched byte is, in bits and as the code has it. Assumes nothing.
use mathlib.Core.Path.{◌≡◌, sym, ap, ap₂, ◌∙◌, subst}
use mathlib.Core.Logic.{⊎_elim}
use mathlib.Core.List.{List}
use Prim.Native.Nat.{ℕ, ◌+◌, ◌*◌, ◌/◌, ◌%◌, ◌-◌, ◌^◌, ◌≤◌, ◌<◌}
use native.Mathlib.Nat.{mod-lt, mod-eq_of_lt, add_assoc, add-zero, mul_assoc}
use native.Mathlib.Omega.{arith}
use lib.ListN.{length, get_or, set, length-set}
use lib.Seq.{ext_get_or, get_or-set_same, get_or-set_other}
use lib.Arith.{digits_lt}
use lib.Pow.{pow_pos, pow-add, pow_mono, shl_exact, shr_lt, shr-shr, split, ones_lt, high_ones}
use lib.Bits.{bit_and, bit_or, and_mask, and_block, and_high, or_block, or_shifted, or_zero_r}
use Rattle.bits.specs.Bits.{bit, sum_bits, put_bit, written}
use Rattle.bits.specs.Patch.{patch}
use Rattle.bits.proofs.Sums.{sum-ext, sum-add, sum-bits, cut_high, cut_low}
use Rattle.bits.proofs.Written.{below, length_from, byte-from, put_in, put-early, put-late, put-lt}

-- a patched byte is a byte
pub patch-lt : (b o t x : ℕ) → o + t ≤ 8 → b < 2 ^ 8 → patch b o t x < 2 ^ 8
patch-lt b o t x h l =
    let r : ℕ = 8 - (o + t) in
    let e : 8 ≡ r + (o + t) = omega arith in
    let d : r + (o + t) ≡ r + t + o = omega arith in
    let hi : b / 2 ^ (o + t) < 2 ^ r = shr_lt r (o + t) (subst (λ (m : ℕ). b < 2 ^ m) e l) in
    subst (λ (m : ℕ). patch b o t x < m) (sym (ap (λ (m : ℕ). 2 ^ m) (e ∙ d) ∙ pow-add 2 (r + t) o ∙ ap (λ (m : ℕ). m * 2 ^ o) (pow-add 2 r t)))
    (digits_lt (digits_lt hi (mod-lt x (pow_pos t))) (mod-lt b (pow_pos o)))

-- the patched byte of bits f is the byte of bits g, where g is x's bits in the patch and f's outside
pub patch-sum : (f g : ℕ → ℕ) (o t r x : ℕ) → ((k : ℕ) → f k < 2) → ((j : ℕ) → j < o → g j ≡ f j) → ((j : ℕ) → j < t → g (o + j) ≡ bit x j)
    → ((j : ℕ) → j < r → g (o + t + j) ≡ f (o + t + j)) → patch (sum_bits f (o + t + r)) o t x ≡ sum_bits g (o + t + r)
patch-sum f g o t r x h lo mid hi =
    let e : o + t + r ≡ o + (t + r) = omega arith in
    let a : sum_bits f (o + t + r) / 2 ^ (o + t) ≡ sum_bits (λ (j : ℕ). g (o + (t + j))) r =
    cut_high f (o + t) r h ∙ sum-ext _ _ r (λ j l. sym (hi j l) ∙ ap g (add_assoc o t j)) in
    let b : x % 2 ^ t ≡ sum_bits (λ (j : ℕ). g (o + j)) t = sym (sum-bits x t) ∙ sum-ext _ _ t (λ j l. sym (mid j l)) in
    let d : sum_bits f (o + t + r) % 2 ^ o ≡ sum_bits g o =
    ap (λ (m : ℕ). sum_bits f m % 2 ^ o) e ∙ cut_low f o (t + r) h ∙ sum-ext _ _ o (λ j l. sym (lo j l)) in
    (λ i. (a i * 2 ^ t + b i) * 2 ^ o + d i)
    ∙ ap (λ (y : ℕ). y * 2 ^ o + sum_bits g o) (sym (sum-add (λ (j : ℕ). g (o + j)) t r))
    ∙ sym (sum-add g o (t + r)) ∙ ap (sum_bits g) (sym e)

module _ (bytes : List ℕ) (at k t v : ℕ) (one : (at + k) % 8 + t ≤ 8) where
  -- the byte that a turn patches
  patched : patch (sum_bits (λ (j : ℕ). put_bit bytes at k v ((at + k) / 8 * 8 + j)) 8) ((at + k) % 8) t (v / 2 ^ k)
      ≡ sum_bits (λ (j : ℕ). put_bit bytes at (k + t) v ((at + k) / 8 * 8 + j)) 8
  patched =
      let q : ℕ = (at + k) / 8 in
      let o : ℕ = (at + k) % 8 in
      let r : ℕ = 8 - (o + t) in
      let e : o + t + r ≡ 8 = omega arith in
      subst (λ (m : ℕ). patch (sum_bits (λ (j : ℕ). put_bit bytes at k v (q * 8 + j)) m) o t (v / 2 ^ k) ≡ sum_bits (λ (j : ℕ). put_bit bytes at (k + t) v (q * 8 + j)) m) e
      (patch-sum (λ (j : ℕ). put_bit bytes at k v (q * 8 + j)) (λ (j : ℕ). put_bit bytes at (k + t) v (q * 8 + j)) o t r (v / 2 ^ k)
      (λ j. put-lt bytes at k v (q * 8 + j))
      (λ j l. put-early bytes at k v t (q * 8 + j) (omega arith))
      (λ j l.
      let w : q * 8 + (o + j) ≡ at + (k + j) = omega arith in
      ap (put_bit bytes at (k + t) v) w ∙ put_in bytes at (k + t) v (k + j) (omega arith) ∙ ap (λ (y : ℕ). y % 2) (sym (shr-shr v k j)))
      (λ j l. put-late bytes at k v t (q * 8 + (o + t + j)) (omega arith)))

  -- a turn's store
  pub stored : at + (k + t) ≤ length bytes * 8 → 0 < t
      → set (written bytes at k v) ((at + k) / 8) (patch (get_or (written bytes at k v) ((at + k) / 8) 0) ((at + k) % 8) t (v / 2 ^ k)) ≡ written bytes at (k + t) v
  stored room some =
      let q : ℕ = (at + k) / 8 in
      let l₁ : List ℕ = written bytes at k v in
      let p : ℕ → ℕ = λ (b : ℕ). patch b ((at + k) % 8) t (v / 2 ^ k) in
      let len : length l₁ ≡ length bytes = length_from _ 0 (length bytes) in
      let same : length (set l₁ q (p (get_or l₁ q 0))) ≡ length bytes = length-set l₁ q (p (get_or l₁ q 0)) ∙ len in
      let inside : q < length bytes = omega arith in
      ext_get_or 0 _ _ (same ∙ sym (length_from _ 0 (length bytes))) (λ i h.
      let hi : i < length bytes = omega arith in
      let other : (i ≡ q → ⊥) → ((j : ℕ) → j < 8 → put_bit bytes at (k + t) v (i * 8 + j) ≡ put_bit bytes at k v (i * 8 + j))
      → get_or (set l₁ q (p (get_or l₁ q 0))) i 0 ≡ get_or (written bytes at (k + t) v) i 0 =
      λ ne eq. get_or-set_other l₁ q i (p (get_or l₁ q 0)) 0 ne ∙ byte-from _ (length bytes) i hi ∙ sum-ext _ _ 8 (λ j m. sym (eq j m)) ∙ sym (byte-from _ (length bytes) i hi) in
      ⊎_elim (λ (l : i < q). other (λ e. omega arith) (λ j m. put-early bytes at k v t (i * 8 + j) (omega arith)))
      (λ (g : q ≤ i). ⊎_elim (λ (l : q < i). other (λ e. omega arith) (λ j m. put-late bytes at k v t (i * 8 + j) (omega arith)))
      (λ (l : i ≤ q).
      let e : i ≡ q = omega arith in
      ap (λ (m : ℕ). get_or (set l₁ q (p (get_or l₁ q 0))) m 0) e ∙ get_or-set_same l₁ q (p (get_or l₁ q 0)) 0 (omega arith)
      ∙ ap p (byte-from _ (length bytes) q inside) ∙ patched ∙ sym (byte-from _ (length bytes) q inside)
      ∙ ap (λ (m : ℕ). get_or (written bytes at (k + t) v) m 0) (sym e))
      (below q i))
      (below i q))

-- The patch as the Rust has it: `b & !(m << o) | (x & m) << o`.

-- the complement of t ones from bit o on
complement : (o t : ℕ) → o + t ≤ 64 → 2 ^ 64 - 1 - (2 ^ t - 1) * 2 ^ o ≡ (2 ^ (64 - (o + t) + t) - 2 ^ t) * 2 ^ o + (2 ^ o - 1)
complement o t h =
    let j : ℕ = 64 - (o + t) in
    let e : j + (t + o) ≡ 64 = omega arith in
    let p : 2 ^ (t + o) - 2 ^ o ≡ (2 ^ t - 1) * 2 ^ o = high_ones t o in
    let r : 2 ^ 64 - 2 ^ (t + o) ≡ (2 ^ (j + t) - 2 ^ t) * 2 ^ o =
    ap (λ (m : ℕ). 2 ^ m - 2 ^ (t + o)) (sym e) ∙ high_ones j (t + o) ∙ ap (λ (m : ℕ). (2 ^ j - 1) * m) (pow-add 2 t o)
    ∙ sym (mul_assoc (2 ^ j - 1) (2 ^ t) (2 ^ o)) ∙ ap (λ (m : ℕ). m * 2 ^ o) (sym (high_ones j t)) in
    let a : 2 ^ o ≤ 2 ^ (t + o) = pow_mono (omega arith) in
    let b : 2 ^ (t + o) ≤ 2 ^ 64 = pow_mono {j = 64} (omega arith) in
    let d : 1 ≤ 2 ^ o = pow_pos o in
    omega arith

clear : (b o t : ℕ) → o + t ≤ 64 → b < 2 ^ 64 → bit_and b (2 ^ 64 - 1 - (2 ^ t - 1) * 2 ^ o) ≡ b / 2 ^ (o + t) * 2 ^ t * 2 ^ o + b % 2 ^ o
clear b o t h l =
    let j : ℕ = 64 - (o + t) in
    let e : 64 ≡ j + (o + t) = omega arith in
    let small : b / 2 ^ (o + t) < 2 ^ j = shr_lt j (o + t) (subst (λ (m : ℕ). b < 2 ^ m) e l) in
    ap₂ bit_and (sym (split b o)) (complement o t h)
    ∙ and_block o (b / 2 ^ o) (2 ^ (j + t) - 2 ^ t) (b % 2 ^ o) (2 ^ o - 1) (mod-lt b (pow_pos o)) (ones_lt o)
    ∙ ap₂ (λ (x y : ℕ). x * 2 ^ o + y) (and_high (b / 2 ^ o) j t ∙ ap (λ (x : ℕ). x % 2 ^ j * 2 ^ t) (shr-shr b o t) ∙ ap (λ (x : ℕ). x * 2 ^ t) (mod-eq_of_lt small))
    (and_mask (b % 2 ^ o) o ∙ mod-eq_of_lt (mod-lt b (pow_pos o)))

-- with the mask m, t ones, in a word: a byte is one too
pub mask-code : (b o t x m : ℕ) → m ≡ 2 ^ t - 1 → o + t ≤ 64 → b < 2 ^ 64
    → bit_or (bit_and b (2 ^ 64 - 1 - m * 2 ^ o % 2 ^ 64)) (bit_and x m * 2 ^ o % 2 ^ 64) ≡ patch b o t x
mask-code b o t x m e h l =
    let a : ℕ = b / 2 ^ (o + t) in
    ap (λ (m : ℕ). bit_or (bit_and b (2 ^ 64 - 1 - m * 2 ^ o % 2 ^ 64)) (bit_and x m * 2 ^ o % 2 ^ 64)) e
    ∙ ap₂ (λ (m n : ℕ). bit_or (bit_and b (2 ^ 64 - 1 - m)) (n * 2 ^ o % 2 ^ 64)) (shl_exact t o 64 (ones_lt t) (omega arith)) (and_mask x t)
    ∙ ap₂ bit_or (clear b o t h l) (shl_exact t o 64 (mod-lt x (pow_pos t)) (omega arith) ∙ sym (add-zero (x % 2 ^ t * 2 ^ o)))
    ∙ or_block o (a * 2 ^ t) (x % 2 ^ t) (b % 2 ^ o) 0 (mod-lt b (pow_pos o)) (pow_pos o)
    ∙ ap₂ (λ (m n : ℕ). m * 2 ^ o + n) (or_shifted a t (x % 2 ^ t) (mod-lt x (pow_pos t))) (or_zero_r (b % 2 ^ o))
