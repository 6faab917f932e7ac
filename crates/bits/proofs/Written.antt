-- Laws of a written buffer: its length and its bits, what is read back and what stays. Assumes nothing.
use mathlib.Core.Path.{◌≡◌, refl, sym, ap, ap₂, ◌∙◌, subst}
use mathlib.Core.Logic.{◌⊎◌, inl, inr, ⊎_elim}
use mathlib.Core.List.{List}
use Prim.Native.Nat.{ℕ, zero, suc, ◌+◌, ◌*◌, ◌/◌, ◌%◌, ◌-◌, ◌^◌, ◌≤◌, ◌<◌, zero-le}
use native.Mathlib.Nat.{zero-add, add-sub_cancel_left, mod-eq_of_lt}
use native.Mathlib.Omega.{arith}
use borrow.Author.Tests.{le-leb, lt-leb, lt-ltb, le-ltb}
use lib.ListN.{length, get_or}
use lib.Seq.{ext_get_or}
use Rattle.bits.specs.Bits.{bit, bit_at, bits_at, sum_bits, put_bit, from_bits_lem, written}
use Rattle.bits.proofs.Sums.{sum-ext, sum-bits, bit-sum}
use Rattle.bits.proofs.Turns.{bit-lt}

-- A list that is made of its bits.

pub length_from : (f : ℕ → ℕ) (j m : ℕ) → length (from_bits_lem f j m) ≡ m
unfolding from_bits_lem
length_from f j zero = refl
length_from f j (suc m) = ap suc (length_from f (suc j) m)

pub get_or-from : (f : ℕ → ℕ) (j m i : ℕ) → i < m → get_or (from_bits_lem f j m) i 0 ≡ sum_bits (λ (k : ℕ). f ((j + i) * 8 + k)) 8
unfolding from_bits_lem
get_or-from f j zero i h = absurd (omega arith)
get_or-from f j (suc m) zero h = let e : j ≡ j + 0 = omega arith in ap (λ (a : ℕ). sum_bits (λ (k : ℕ). f (a * 8 + k)) 8) e
get_or-from f j (suc m) (suc i) h =
    let e : suc j + i ≡ j + suc i = omega arith in
    get_or-from f (suc j) m i (omega arith) ∙ ap (λ (a : ℕ). sum_bits (λ (k : ℕ). f (a * 8 + k)) 8) e

pub byte-from : (f : ℕ → ℕ) (m i : ℕ) → i < m → get_or (from_bits_lem f 0 m) i 0 ≡ sum_bits (λ (k : ℕ). f (i * 8 + k)) 8
byte-from f m i h = get_or-from f 0 m i h ∙ ap (λ (a : ℕ). sum_bits (λ (k : ℕ). f (a * 8 + k)) 8) (zero-add i)

pub bit-from : (f : ℕ → ℕ) (m i : ℕ) → ((k : ℕ) → f k < 2) → i < m * 8 → bit_at (from_bits_lem f 0 m) i ≡ f i
bit-from f m i h l =
    let q : i / 8 < m = omega arith in
    let r : i % 8 < 8 = omega arith in
    let e : i / 8 * 8 + i % 8 ≡ i = omega arith in
    ap (λ (x : ℕ). bit x (i % 8)) (byte-from f m (i / 8) q)
    ∙ bit-sum (λ (k : ℕ). f (i / 8 * 8 + k)) 8 (λ k _. h (i / 8 * 8 + k)) (i % 8) r
    ∙ ap f e

-- The bits of a write.

pub below : (m n : ℕ) → (m < n) ⊎ (n ≤ m)
below m zero = inr zero-le
below zero (suc n) = inl (omega arith)
below (suc m) (suc n) = ⊎_elim (λ h. inl (omega arith)) (λ h. inr (omega arith)) (below m n)

back : {at : ℕ} (i : ℕ) → at ≤ i → i ≡ at + (i - at)
back i g = omega arith

module _ (bytes : List ℕ) (at n v : ℕ) where
  pub put_in : (k : ℕ) → k < n → put_bit bytes at n v (at + k) ≡ bit v k
  unfolding put_bit
  put_in k l =
      let a : at ≤ at + k = omega arith in
      let b : at + k < at + n = omega arith in
      simp (le-leb at (at + k) a, lt-ltb (at + k) (at + n) b) (ap (bit v) (add-sub_cancel_left at k))

  pub put-before : (i : ℕ) → i < at → put_bit bytes at n v i ≡ bit_at bytes i
  unfolding put_bit
  put-before i l = simp (lt-leb at i l)

  pub put-after : (i : ℕ) → at + n ≤ i → put_bit bytes at n v i ≡ bit_at bytes i
  unfolding put_bit
  put-after i l =
      let a : at ≤ i = omega arith in
      simp (le-leb at i a, le-ltb i (at + n) l)

  -- a longer write puts the same bits below its end ..
  pub put-early : (t i : ℕ) → i < at + n → put_bit bytes at (n + t) v i ≡ put_bit bytes at n v i
  unfolding put_bit
  put-early t i l =
      let b : i < at + (n + t) = omega arith in
      simp (lt-ltb i (at + n) l, lt-ltb i (at + (n + t)) b)

  -- .. and leaves the same bits past its own
  pub put-late : (t i : ℕ) → at + (n + t) ≤ i → put_bit bytes at (n + t) v i ≡ put_bit bytes at n v i
  unfolding put_bit
  put-late t i l =
      let b : at + n ≤ i = omega arith in
      simp (le-ltb i (at + n) b, le-ltb i (at + (n + t)) l)

  pub put-lt : (i : ℕ) → put_bit bytes at n v i < 2
  put-lt i =
      ⊎_elim (λ (l : i < at). subst (λ (x : ℕ). x < 2) (sym (put-before i l)) (bit-lt (get_or bytes (i / 8) 0) (i % 8)))
      (λ (g : at ≤ i). ⊎_elim
      (λ (l : i < at + n). subst (λ (x : ℕ). x < 2) (sym (ap (put_bit bytes at n v) (back i g) ∙ put_in (i - at) (omega arith))) (bit-lt v (i - at)))
      (λ (l : at + n ≤ i). subst (λ (x : ℕ). x < 2) (sym (put-after i l)) (bit-lt (get_or bytes (i / 8) 0) (i % 8)))
      (below i (at + n)))
      (below i at)

  -- the buffer after the write has these bits
  pub bit-written : (i : ℕ) → i < length bytes * 8 → bit_at (written bytes at n v) i ≡ put_bit bytes at n v i
  bit-written i l = bit-from (put_bit bytes at n v) (length bytes) i put-lt l

  -- What is written is read back,
  pub read_back : at + n ≤ length bytes * 8 → bits_at (written bytes at n v) at n ≡ v % 2 ^ n
  read_back h =
      sum-ext _ (bit v) n (λ k l. bit-written (at + k) (omega arith) ∙ put_in k l) ∙ sum-bits v n

  -- and a run apart from it is as it was.
  pub apart-before : (p m : ℕ) → p + m ≤ at → at ≤ length bytes * 8 → bits_at (written bytes at n v) p m ≡ bits_at bytes p m
  apart-before p m h g = sum-ext _ _ m (λ k l. bit-written (p + k) (omega arith) ∙ put-before (p + k) (omega arith))

  pub apart-after : (p m : ℕ) → at + n ≤ p → p + m ≤ length bytes * 8 → bits_at (written bytes at n v) p m ≡ bits_at bytes p m
  apart-after p m h g = sum-ext _ _ m (λ k l. bit-written (p + k) (omega arith) ∙ put-after (p + k) (omega arith))

put-none : (bytes : List ℕ) (at v i : ℕ) → put_bit bytes at 0 v i ≡ bit_at bytes i
put-none bytes at v i = ⊎_elim (λ (l : i < at). put-before bytes at 0 v i l) (λ (l : at ≤ i). put-after bytes at 0 v i (omega arith)) (below i at)

-- a write of no bits, in a list of bytes
pub none : (bytes : List ℕ) (at v : ℕ) → ((i : ℕ) → get_or bytes i 0 < 2 ^ 8) → bytes ≡ written bytes at 0 v
none bytes at v h =
    ext_get_or 0 _ _ (sym (length_from _ 0 (length bytes))) (λ i l.
    sym (byte-from _ (length bytes) i l
    ∙ sum-ext _ (bit (get_or bytes i 0)) 8 (λ j m.
    let q : (i * 8 + j) / 8 ≡ i = omega arith in
    let r : (i * 8 + j) % 8 ≡ j = omega arith in
    put-none bytes at v (i * 8 + j) ∙ ap₂ (λ (a b : ℕ). bit (get_or bytes a 0) b) q r)
    ∙ sum-bits (get_or bytes i 0) 8 ∙ mod-eq_of_lt (h i)))
