-- How long the texts of numbers are. Assumes nothing.
use mathlib.Core.Path.{◌≡◌, refl}
use mathlib.Core.Bool.{Bool, true, false}
use mathlib.Core.List.{List, [], ◌∷◌, ◌++◌}
use Prim.Native.Nat.{ℕ, zero, suc, ◌+◌, ◌*◌, ◌/◌, ◌%◌, ◌≤◌, ◌<◌}
use native.Mathlib.Omega.{arith}
use lib.Dec.{eqb}
use lib.ListN.{length, length-append}
use Rattle.bits.specs.Bits.{pick}
use Rattle.hexadecimal.specs.Digits.{digit_of_lem}
use Rattle.hexadecimal.proofs.Inverse.{length_digits}
use Rattle.text.specs.Digits.{unless, higher, shortest, decimal_of, hex_of, fixed, spaced, bytes_text}
use Rattle.text.specs.Refusals.{carried_text, carried_texts, refused_text}

-- two texts
pub plus : (a b : List ℕ) (m n : ℕ) → length a ≤ m → length b ≤ n → length (a ++ b) ≤ m + n
plus a b m n l k = omega (arith, length-append a b)

-- one of two texts
pub either : (t : Bool) (a b : List ℕ) (n : ℕ) → length a ≤ n → length b ≤ n → length (pick t a b) ≤ n
either true a b n h k = h
either false a b n h k = k

unless-size : (t : Bool) (xs : List ℕ) (n : ℕ) → length xs ≤ n → length (unless t xs) ≤ n
unless-size true xs n l = omega arith
unless-size false xs n l = l

higher-size : (b w m : ℕ) → length (higher b w m) ≤ w
unfolding higher
higher-size b zero m = omega arith
higher-size b (suc w) m =
    let before = higher-size b w (m / b) in
    unless-size (eqb m 0) (higher b w (m / b) ++ digit_of_lem (m % b) ∷ []) (suc w) (omega (arith, length-append (higher b w (m / b)) (digit_of_lem (m % b) ∷ [])))

shortest-size : (b n : ℕ) → (0 < length (shortest b 19 n)) × (length (shortest b 19 n) ≤ 20)
shortest-size b n =
    let size = length-append (higher b 19 (n / b)) (digit_of_lem (n % b) ∷ []) in
    let most = higher-size b 19 (n / b) in
    (omega arith, omega arith)

pub decimal-size : (n : ℕ) → (0 < length (decimal_of n)) × (length (decimal_of n) ≤ 20)
decimal-size n = shortest-size 10 n

pub hex-size : (n : ℕ) → (0 < length (hex_of n)) × (length (hex_of n) ≤ 20)
hex-size n = shortest-size 16 n

pub spaced-size : (n : ℕ) → length (spaced n) ≤ 21
spaced-size n = omega (arith, (decimal-size n).1)

pub fixed-size : (b w n : ℕ) → length (fixed b w n) ≡ w
unfolding fixed
fixed-size b zero n = refl
fixed-size b (suc w) n = omega (arith, length-append (fixed b w (n / b)) (digit_of_lem (n % b) ∷ []), fixed-size b w (n / b))

pub bytes-size : (s : List ℕ) → length (bytes_text s) ≤ 1 + 2 * length s
bytes-size [] = omega arith
bytes-size (x ∷ xs) = omega (arith, length_digits (x ∷ xs))

-- ## A refusal

carried-size : (t : Bool) (n : ℕ) → length (carried_text t n) ≤ 21
carried-size true n = omega arith
carried-size false n = spaced-size n

all-carried : (t : Bool) (ns : List ℕ) → length (carried_texts t ns) ≤ length ns * 21
unfolding carried_texts
all-carried t [] = omega arith
all-carried t (n ∷ ns) = omega (arith, plus (carried_text t n) (carried_texts false ns) 21 (length ns * 21) (carried-size t n) (all-carried false ns))

-- of at most three values
pub refused-size : (number : ℕ) (carried : List ℕ) → length carried ≤ 3 → length (refused_text number carried) ≤ 85
refused-size number carried l =
    let t = eqb number 8 in
    let c : length (carried_texts t carried) ≤ 63 = omega (arith, all-carried t carried) in
    omega (arith, plus (spaced number) (carried_texts t carried) 21 63 (spaced-size number) c)
