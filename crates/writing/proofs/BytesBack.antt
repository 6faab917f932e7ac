-- Bytes that stand in a payload are read back. Assumes nothing.
use mathlib.Core.Path.{◌≡◌, refl, sym, ap, ap₂, ◌∙◌}
use mathlib.Core.List.{List, [], ◌∷◌, ◌++◌}
use Prim.Native.Nat.{ℕ, zero, suc, ◌+◌, ◌*◌, ◌%◌, ◌<◌}
use native.Mathlib.Nat.{mod-eq_of_lt}
use native.Mathlib.Omega.{arith}
use lib.Dec.{eqb}
use lib.ListN.{length, get_or, take, drop, replicate, length-append, get_or-append}
use lib.Seq.{get_or-append_seam}
use borrow.Author.Tests.{ne_eqb}
use Rattle.bits.specs.Bits.{pick}
use Rattle.walking.proofs.Visits.{all_append}
use Rattle.fields.specs.Payload.{Payload}
use Rattle.writing.specs.ReadBack.{bytes_at, AllBytes}

-- ## Lists of bytes

-- as a machine knows it
pub all-bytes : (xs : List ℕ) → ((j : ℕ) → get_or xs j 0 < 256) → AllBytes xs
all-bytes [] h = tt
all-bytes (x ∷ xs) h = (h 0, all-bytes xs (λ j. h (suc j)))

take-bytes : (n : ℕ) (xs : List ℕ) → AllBytes xs → AllBytes (take n xs)
take-bytes zero xs h = tt
take-bytes (suc n) [] h = tt
take-bytes (suc n) (x ∷ xs) h = (h.0, take-bytes n xs h.1)

drop-bytes : (n : ℕ) (xs : List ℕ) → AllBytes xs → AllBytes (drop n xs)
drop-bytes zero xs h = h
drop-bytes (suc n) [] h = tt
drop-bytes (suc n) (x ∷ xs) h = drop-bytes n xs h.1

-- the bytes at a place of a text
pub part_bytes : (start n : ℕ) (lent : List ℕ) → AllBytes lent → AllBytes (take n (drop start lent))
part_bytes start n lent h = take-bytes n (drop start lent) (drop-bytes start lent h)

fill-bytes : (n : ℕ) → AllBytes (replicate n 0xff)
fill-bytes zero = tt
fill-bytes (suc n) = (omega arith, fill-bytes n)

-- .. and 0xFF after them
pub filled-bytes : (xs : List ℕ) (n : ℕ) → AllBytes xs → AllBytes (xs ++ replicate n 0xff)
filled-bytes xs n h = all_append (λ (x : ℕ). x < 256) xs (replicate n 0xff) h (fill-bytes n)

-- ## Bytes in a payload

module _ (p : Payload) where
  -- these bytes stand one after another from a bit on
  abbrev pub Stand : ℕ → List ℕ → Type 0
  Stand at xs = (j : ℕ) → j < length xs → p.bits (at + 8 * j) 8 ≡ get_or xs j 0 % 256

  pub stand-head : (at x : ℕ) (xs : List ℕ) → x < 256 → Stand at (x ∷ xs) → p.bits at 8 ≡ x
  stand-head at x xs l h =
      let z : at + 8 * 0 ≡ at = omega arith in
      ap (λ (k : ℕ). p.bits k 8) (sym z) ∙ h 0 (omega arith) ∙ mod-eq_of_lt l

  pub stand-tail : (at to x : ℕ) (xs : List ℕ) → to ≡ at + 8 → Stand at (x ∷ xs) → Stand to xs
  stand-tail at to x xs q h j l =
      let z : to + 8 * j ≡ at + 8 * suc j = omega arith in
      ap (λ (k : ℕ). p.bits k 8) z ∙ h (suc j) (omega arith)

  pub stand-left : (at : ℕ) (xs ys : List ℕ) → Stand at (xs ++ ys) → Stand at xs
  stand-left at xs ys h j l = h j (omega (arith, length-append xs ys)) ∙ ap (λ (k : ℕ). k % 256) (get_or-append xs ys 0 j l)

  -- the byte after them
  pub stand-after : (at y : ℕ) (xs ys : List ℕ) → Stand at (xs ++ y ∷ ys) → p.bits (at + 8 * length xs) 8 ≡ y % 256
  stand-after at y xs ys h = h (length xs) (omega (arith, length-append xs (y ∷ ys))) ∙ ap (λ (k : ℕ). k % 256) (get_or-append_seam xs y ys 0)

  stand-bytes : (place at : ℕ) (xs : List ℕ) → at ≡ 8 * place → AllBytes xs → Stand at xs → bytes_at p place (length xs) ≡ xs
  unfolding bytes_at
  stand-bytes place at [] q a h = refl
  stand-bytes place at (x ∷ xs) q a h =
      let one : p.bits (8 * place) 8 ≡ x = ap (λ (k : ℕ). p.bits k 8) (sym q) ∙ stand-head at x xs a.0 h in
      let z : at + 8 ≡ 8 * suc place = omega arith in
      ap₂ (λ (y : ℕ) (ys : List ℕ). y ∷ ys) one (stand-bytes (suc place) (at + 8) xs z a.1 (stand-tail at (at + 8) x xs refl h))

  none-bytes : (place n : ℕ) (xs : List ℕ) → n ≡ 0 → length xs ≡ n → bytes_at p place n ≡ xs
  unfolding bytes_at
  none-bytes place zero [] z q = refl
  none-bytes place (suc n) [] z q = absurd (omega arith)
  none-bytes place n (x ∷ xs) z q = absurd (omega arith)

  -- "its byte place in the working payload (0 if empty) and its length": an empty text needs no alignment
  pub text-bytes : (place at n : ℕ) (xs : List ℕ) → length xs ≡ n → (0 < n → at ≡ 8 * place) → AllBytes xs → Stand at xs → bytes_at p (pick (eqb n 0) 0 place) n ≡ xs
  text-bytes place at zero xs q k a h = none-bytes 0 0 xs refl q
  text-bytes place at (suc n) xs q k a h =
      rw (ne_eqb (suc n) 0 (λ (z : suc n ≡ 0). omega arith))
      (ap (bytes_at p place) (sym q) ∙ stand-bytes place at xs (k (omega arith)) a h)
