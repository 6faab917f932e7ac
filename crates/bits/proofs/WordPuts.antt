-- A word that is written: byte by byte, and as a run within it. Assumes nothing.
use mathlib.Core.Path.{◌≡◌, refl, sym, ap, ap₂, ◌∙◌, subst}
use mathlib.Core.Logic.{⊎_elim}
use mathlib.Core.List.{List, ◌∷◌}
use Prim.Native.Nat.{ℕ, zero, suc, ◌+◌, ◌*◌, ◌/◌, ◌%◌, ◌-◌, ◌^◌, ◌≤◌, ◌<◌}
use native.Mathlib.Omega.{arith}
use lib.ListN.{length, get_or, set}
use Rattle.bits.specs.Bits.{bit_at, bits_at, sum_bits, put_bit, from_bits_lem, written}
use Rattle.bits.specs.Patch.{patch}
use Rattle.bits.proofs.Sums.{sum-ext, sum_lt, bit-sum}
use Rattle.bits.proofs.Turns.{bit-lt}
use Rattle.bits.proofs.Written.{below, byte-from, put_in, put-before, put-after, put-lt}
use Rattle.bits.proofs.Patches.{patch-sum, stored}

-- a whole byte in the place of another
whole : (b x : ℕ) → b < 2 ^ 8 → patch b 0 8 x ≡ x % 2 ^ 8
whole b x h = omega arith

module _ (bytes : List ℕ) (q w : ℕ) (room : q + 8 ≤ length bytes) where
  -- a byte of a list that was made of its bits
  byte-lt : (k j : ℕ) → j < length bytes → get_or (written bytes (q * 8) k w) j 0 < 2 ^ 8
  byte-lt k j h =
      subst (λ (x : ℕ). x < 2 ^ 8) (sym (byte-from (put_bit bytes (q * 8) k w) (length bytes) j h))
      (sum_lt _ 8 (λ i l. put-lt bytes (q * 8) k w (j * 8 + i)))

  -- one byte more of the word
  pub put-more : (k j x : ℕ) {a : List ℕ} → a ≡ written bytes (q * 8) k w → j * 8 ≡ q * 8 + k → k + 8 ≤ 64 → x ≡ w / 2 ^ k % 2 ^ 8
      → set a j x ≡ written bytes (q * 8) (k + 8) w
  put-more k j x e p l v =
      let d : (q * 8 + k) / 8 ≡ j = omega arith in
      let m : (q * 8 + k) % 8 ≡ 0 = omega arith in
      let one : (q * 8 + k) % 8 + 8 ≤ 8 = omega arith in
      let inside : q * 8 + (k + 8) ≤ length bytes * 8 = omega arith in
      let b : ℕ = get_or (written bytes (q * 8) k w) j 0 in
      ap₂ (λ (a : List ℕ) (x : ℕ). set a j x) e (v ∙ sym (whole b (w / 2 ^ k) (byte-lt k j (omega arith))))
      ∙ sym (ap₂ (λ (i o : ℕ). set (written bytes (q * 8) k w) i (patch (get_or (written bytes (q * 8) k w) i 0) o 8 (w / 2 ^ k))) d m)
      ∙ stored bytes (q * 8) k 8 w one inside (omega arith)

from-ext : (f g : ℕ → ℕ) (j m : ℕ) → ((i : ℕ) → f i ≡ g i) → from_bits_lem f j m ≡ from_bits_lem g j m
unfolding from_bits_lem
from-ext f g j zero h = refl
from-ext f g j (suc m) h = ap₂ (λ (b : ℕ) (l : List ℕ). b ∷ l) (sum-ext _ _ 8 (λ k l. h (j * 8 + k))) (from-ext f g (suc j) m h)

module _ (bytes : List ℕ) (p o n v : ℕ) (h : o + n ≤ 64) where
  -- the bits of the word at bit p once n bits of v are put at its bit o
  after : ℕ → ℕ
  after j = put_bit bytes (p + o) n v (p + j)

  patched : patch (bits_at bytes p 64) o n v ≡ sum_bits after 64
  unfolding after
  patched =
      let r : ℕ = 64 - (o + n) in
      let e : o + n + r ≡ 64 = omega arith in
      subst (λ (m : ℕ). patch (sum_bits (λ (k : ℕ). bit_at bytes (p + k)) m) o n v ≡ sum_bits after m) e
      (patch-sum (λ (k : ℕ). bit_at bytes (p + k)) after o n r v (λ k. bit-lt _ _)
      (λ j l. put-before bytes (p + o) n v (p + j) (omega arith))
      (λ j l. let w : p + (o + j) ≡ p + o + j = omega arith in ap (put_bit bytes (p + o) n v) w ∙ put_in bytes (p + o) n v j l)
      (λ j l. put-after bytes (p + o) n v (p + (o + n + j)) (omega arith)))

  same : (i : ℕ) → put_bit bytes p 64 (sum_bits after 64) i ≡ put_bit bytes (p + o) n v i
  unfolding after
  same i = ⊎_elim
      (λ (l : i < p). put-before bytes p 64 (sum_bits after 64) i l ∙ sym (put-before bytes (p + o) n v i (omega arith)))
      (λ (g : p ≤ i). ⊎_elim
      (λ (l : i < p + 64).
      let e : i ≡ p + (i - p) = omega arith in
      ap (put_bit bytes p 64 (sum_bits after 64)) e
      ∙ put_in bytes p 64 (sum_bits after 64) (i - p) (omega arith)
      ∙ bit-sum after 64 (λ k _. put-lt bytes (p + o) n v (p + k)) (i - p) (omega arith)
      ∙ ap (put_bit bytes (p + o) n v) (sym e))
      (λ (l : p + 64 ≤ i). put-after bytes p 64 (sum_bits after 64) i l ∙ sym (put-after bytes (p + o) n v i (omega arith)))
      (below i (p + 64)))
      (below i p)

  -- a run that is put into the word at bit p, and the word put back, is the run put
  pub in-word : written bytes p 64 (patch (bits_at bytes p 64) o n v) ≡ written bytes (p + o) n v
  in-word = ap (λ (x : ℕ). written bytes p 64 x) patched ∙ from-ext _ _ 0 (length bytes) same
