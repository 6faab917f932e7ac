-- The bits of a buffer, the number that a run of them is, and a buffer with a run written: document 01, "Bit calls".
use Rattle.std.specs.Prelude.{ℕ, zero, suc, ◌+◌, ◌-◌, ◌*◌, ◌/◌, ◌%◌, ◌^◌, List, [], ◌∷◌, Bool, true, false, get_or, length, leb, ltb}

-- the first where the test holds, else the second
abbrev pub pick : {A : Type 0} → Bool → A → A → A
pick true a b = a
pick false a b = b

-- bit k of the number x, lowest first
abbrev pub bit : ℕ → ℕ → ℕ
bit x k = x / 2 ^ k % 2

-- "Bit i of a buffer is bit i mod 8 of byte i div 8"
abbrev pub bit_at : List ℕ → ℕ → ℕ
bit_at bytes i = bit (get_or bytes (i / 8) 0) (i % 8)

-- the sum of f k times 2 ^ k, for k below n
unfoldable pub sum_bits : (ℕ → ℕ) → ℕ → ℕ
sum_bits f zero = 0
sum_bits f (suc n) = sum_bits f n + f n * 2 ^ n

-- "A read of n bits [..] is the sum of bit (cursor + k) times 2^k"
abbrev pub bits_at : List ℕ → ℕ → ℕ → ℕ
bits_at bytes at n = sum_bits (λ (k : ℕ). bit_at bytes (at + k)) n

-- "Writing puts v mod 2^n and keeps every other bit": bit i once n bits of v are put at bit `at`
unfoldable pub put_bit : List ℕ → ℕ → ℕ → ℕ → ℕ → ℕ
put_bit bytes at n v i = pick (leb at i) (pick (ltb i (at + n)) (bit v (i - at)) (bit_at bytes i)) (bit_at bytes i)

-- m bytes from byte j on, each made of its 8 bits
unfoldable pub from_bits_lem : (ℕ → ℕ) → ℕ → ℕ → List ℕ
from_bits_lem f j zero = []
from_bits_lem f j (suc m) = sum_bits (λ (k : ℕ). f (j * 8 + k)) 8 ∷ from_bits_lem f (suc j) m

-- the buffer once n bits of v are put at bit `at`
abbrev pub written : List ℕ → ℕ → ℕ → ℕ → List ℕ
written bytes at n v = from_bits_lem (put_bit bytes at n v) 0 (length bytes)
