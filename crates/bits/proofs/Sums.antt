-- Laws of `sum_bits`: what a run of bits is as a number. Assumes nothing.
use mathlib.Core.Path.{◌≡◌, refl, sym, ap, ap₂, ◌∙◌, subst}
use Prim.Native.Nat.{ℕ, zero, suc, ◌+◌, ◌*◌, ◌/◌, ◌%◌, ◌-◌, ◌^◌, ◌<◌}
use native.Mathlib.Nat.{add-zero, add-suc, add_assoc, add_comm, add_left_comm, mul_left_comm, zero-mul, zero-add, mul-one, add-mul, mul_assoc, mul_comm, mod-one, zero-lt-suc, pow-suc}
use native.Mathlib.Numerals.{one-add}
use native.Mathlib.Omega.{arith}
use lib.Arith.{digits_lt, digits_mod}
use lib.Pow.{pow-add, mod-pow-add, high, low}
use Rattle.bits.specs.Bits.{bit, sum_bits}

-- only the n bits matter
pub sum-ext : (f g : ℕ → ℕ) (n : ℕ) → ((k : ℕ) → k < n → f k ≡ g k) → sum_bits f n ≡ sum_bits g n
unfolding sum_bits
sum-ext f g zero h = refl
sum-ext f g (suc n) h = ap₂ (λ (a b : ℕ). a + b * 2 ^ n) (sum-ext f g n (λ k l. h k (omega arith))) (h n (omega arith))

regroup : (a p b c q : ℕ) → (a * p + b) + c * (p * q) ≡ (a + c * q) * p + b
regroup a p b c q = simp (add-mul, mul_assoc, mul_comm, mul_left_comm, add_assoc, add_comm, add_left_comm) refl

-- a run of m + n bits is a run of m and then one of n
pub sum-add : (f : ℕ → ℕ) (m n : ℕ) → sum_bits f (m + n) ≡ sum_bits (λ (j : ℕ). f (m + j)) n * 2 ^ m + sum_bits f m
unfolding sum_bits
sum-add f m zero = ap (sum_bits f) (add-zero m) ∙ simp (zero-mul, zero-add)
sum-add f m (suc n) =
    ap (sum_bits f) (add-suc m n)
    ∙ ap₂ (λ (a b : ℕ). a + f (m + n) * b) (sum-add f m n) (pow-add 2 m n)
    ∙ regroup (sum_bits (λ (j : ℕ). f (m + j)) n) (2 ^ m) (sum_bits f m) (f (m + n)) (2 ^ n)

-- the n low bits of a number
pub sum-bits : (x n : ℕ) → sum_bits (bit x) n ≡ x % 2 ^ n
unfolding sum_bits
sum-bits x zero = sym (mod-one x)
sum-bits x (suc n) =
    ap (λ (a : ℕ). a + x / 2 ^ n % 2 * 2 ^ n) (sum-bits x n)
    ∙ add_comm (x % 2 ^ n) (x / 2 ^ n % 2 * 2 ^ n)
    ∙ sym (mod-pow-add x 1 n) ∙ ap (λ (e : ℕ). x % 2 ^ e) (one-add n)

-- n bits are below 2 ^ n
pub sum_lt : (f : ℕ → ℕ) (n : ℕ) → ((k : ℕ) → k < n → f k < 2) → sum_bits f n < 2 ^ n
unfolding sum_bits
sum_lt f zero h = zero-lt-suc zero
sum_lt f (suc n) h =
    subst (λ (x : ℕ). sum_bits f n + f n * 2 ^ n < x) (mul_comm 2 (2 ^ n) ∙ sym (pow-suc 2 n))
    (subst (λ (x : ℕ). x < 2 * 2 ^ n) (add_comm (f n * 2 ^ n) (sum_bits f n)) (digits_lt (h n (omega arith)) (sum_lt f n (λ k l. h k (omega arith)))))

sum_one : (g : ℕ → ℕ) → sum_bits g 1 ≡ g 0
unfolding sum_bits
sum_one g = zero-add (g 0 * 1) ∙ mul-one (g 0)

-- bit k of a run is the run's bit k
pub bit-sum : (f : ℕ → ℕ) (n : ℕ) → ((k : ℕ) → k < n → f k < 2) → (k : ℕ) → k < n → bit (sum_bits f n) k ≡ f k
unfolding sum_bits
bit-sum f n h k l =
    let r : ℕ = n - suc k in
    let g : ℕ → ℕ = λ (j : ℕ). f (k + j) in
    let e : n ≡ k + (1 + r) = omega arith in
    let one : sum_bits g 1 ≡ f k = sum_one g ∙ ap f (add-zero k) in
    ap (λ (m : ℕ). sum_bits f m / 2 ^ k % 2) e
    ∙ ap (λ (x : ℕ). x / 2 ^ k % 2) (sum-add f k (1 + r))
    ∙ ap (λ (x : ℕ). x % 2) (high (sum_bits g (1 + r)) k (sum_lt f k (λ j m. h j (omega arith))))
    ∙ ap (λ (x : ℕ). x % 2) (sum-add g 1 r)
    ∙ digits_mod (sum_bits (λ (j : ℕ). g (1 + j)) r) {m = 2} (subst (λ (x : ℕ). x < 2) (sym one) (h k l))
    ∙ one

-- a run cut at m
pub cut_high : (f : ℕ → ℕ) (m r : ℕ) → ((k : ℕ) → f k < 2) → sum_bits f (m + r) / 2 ^ m ≡ sum_bits (λ (j : ℕ). f (m + j)) r
cut_high f m r h = ap (λ (x : ℕ). x / 2 ^ m) (sum-add f m r) ∙ high (sum_bits (λ (j : ℕ). f (m + j)) r) m (sum_lt f m (λ k _. h k))

pub cut_low : (f : ℕ → ℕ) (m r : ℕ) → ((k : ℕ) → f k < 2) → sum_bits f (m + r) % 2 ^ m ≡ sum_bits f m
cut_low f m r h = ap (λ (x : ℕ). x % 2 ^ m) (sum-add f m r) ∙ low (sum_bits (λ (j : ℕ). f (m + j)) r) m (sum_lt f m (λ k _. h k))
