-- Bytes put one after another. Assumes nothing.
use mathlib.Core.Path.{◌≡◌, refl, sym, ap, ◌∙◌}
use mathlib.Core.List.{List, [], ◌∷◌, ◌++◌}
use Prim.Native.Nat.{ℕ, suc, ◌+◌, ◌-◌, ◌*◌, ◌/◌, ◌≤◌, ◌<◌}
use native.Mathlib.Omega.{arith}
use lib.ListN.{length, take, drop, get_or, replicate, length-take, length-drop, length-replicate, replicate-append-replicate}
use lib.Seq.{take-suc}
use Rattle.bits.specs.Bits.{written}
use Rattle.bits.proofs.Laws.{length-written}
use Rattle.writing.specs.Ink.{poured}

pub length-poured : (s : List ℕ) (at : ℕ) (xs : List ℕ) → length (poured s at xs) ≡ length s
unfolding poured
length-poured s at [] = refl
length-poured s at (x ∷ xs) = length-poured (written s at 8 x) (at + 8) xs ∙ length-written s at 8 x

pub poured-then : (s : List ℕ) (at : ℕ) (xs ys : List ℕ) → poured (poured s at xs) (at + 8 * length xs) ys ≡ poured s at (xs ++ ys)
unfolding poured
poured-then s at [] ys = let e : at + 0 ≡ at = omega arith in ap (λ (n : ℕ). poured s n ys) e
poured-then s at (x ∷ xs) ys =
    let e : at + 8 * length (x ∷ xs) ≡ at + 8 + 8 * length xs = omega arith in
    ap (λ (n : ℕ). poured (poured (written s at 8 x) (at + 8) xs) n ys) e ∙ poured-then (written s at 8 x) (at + 8) xs ys

pub poured-one : (s : List ℕ) (at x : ℕ) → written s at 8 x ≡ poured s at (x ∷ [])
unfolding poured
poured-one s at x = refl

-- one byte more of the text
pub pour-more : (s : List ℕ) (at : ℕ) (t : List ℕ) (j : ℕ) → j < length t → written (poured s at (take j t)) (at + 8 * j) 8 (get_or t j 0) ≡ poured s at (take (j + 1) t)
pour-more s at t j k =
    let m : length (take j t) ≡ j = (let e = length-take j t in omega (arith, e, k)) in
    let x = get_or t j 0 in
    let one : j + 1 ≡ suc j = omega arith in
    poured-one (poured s at (take j t)) (at + 8 * j) x
    ∙ ap (λ (n : ℕ). poured (poured s at (take j t)) (at + 8 * n) (x ∷ [])) (sym m)
    ∙ poured-then s at (take j t) (x ∷ [])
    ∙ ap (poured s at) (sym (ap (λ (n : ℕ). take n t) one ∙ take-suc t j 0 k))

pub poured-none : (s : List ℕ) (at : ℕ) (t : List ℕ) → s ≡ poured s at (take 0 t)
unfolding poured
poured-none s at t = refl

-- the length of a text that lies in the lent one
pub text-long : (lent : List ℕ) (start n : ℕ) → start + n ≤ length lent → length (take n (drop start lent)) ≡ n
text-long lent start n l = let d = length-drop start lent in let e = length-take n (drop start lent) in omega (arith, d, e, l)

-- length, text, zero
pub counted-all : (s a b c : List ℕ) (at : ℕ) (t : List ℕ) → a ≡ written s at 8 (length t) → b ≡ poured a (at + 8) t → c ≡ written b (at + 8 + 8 * length t) 8 0
    → c ≡ poured s at (length t ∷ (t ++ 0 ∷ []))
unfolding poured
counted-all s a b c at t ha hb hc =
    hc ∙ ap (λ (x : List ℕ). written x (at + 8 + 8 * length t) 8 0) hb
    ∙ poured-then a (at + 8) t (0 ∷ [])
    ∙ ap (λ (x : List ℕ). poured x (at + 8) (t ++ 0 ∷ [])) ha

-- length, encoding, text
pub encoded-all : (s a b c : List ℕ) (at x : ℕ) (t : List ℕ) → a ≡ written s at 8 (length t + 2) → b ≡ written a (at + 8) 8 x → c ≡ poured b (at + 16) t
    → c ≡ poured s at ((length t + 2) ∷ x ∷ t)
unfolding poured
encoded-all s a b c at x t ha hb hc =
    let e : at + 16 ≡ at + 8 + 8 = omega arith in
    hc ∙ ap (λ (k : ℕ). poured b k t) e ∙ ap (λ (y : List ℕ). poured y (at + 8 + 8) t) hb
    ∙ ap (λ (y : List ℕ). poured (written y (at + 8) 8 x) (at + 8 + 8) t) ha

-- ## Bytes of 0xFF

pub fill_more : (s : List ℕ) (at j : ℕ) → written (poured s at (replicate j 0xff)) (at + 8 * j) 8 0xff ≡ poured s at (replicate (j + 1) 0xff)
fill_more s at j =
    poured-one (poured s at (replicate j 0xff)) (at + 8 * j) 0xff
    ∙ ap (λ (n : ℕ). poured (poured s at (replicate j 0xff)) (at + 8 * n) (0xff ∷ [])) (sym (length-replicate j 0xff))
    ∙ poured-then s at (replicate j 0xff) (0xff ∷ []) ∙ ap (poured s at) (replicate-append-replicate j 1 0xff)

pub filled_none : (s : List ℕ) (at : ℕ) → s ≡ poured s at (replicate 0 0xff)
unfolding poured
filled_none s at = refl

-- a text, then 0xFF
pub bare-all : (s a b : List ℕ) (at size : ℕ) (t : List ℕ) → a ≡ poured s at t → b ≡ poured a (at + 8 * length t) (replicate (size - length t) 0xff)
    → b ≡ poured s at (t ++ replicate (8 * size / 8 - length t) 0xff)
bare-all s a b at size t ha hb =
    let e : 8 * size / 8 ≡ size = omega arith in
    hb ∙ ap (λ (x : List ℕ). poured x (at + 8 * length t) (replicate (size - length t) 0xff)) ha
    ∙ poured-then s at t (replicate (size - length t) 0xff) ∙ ap (λ (k : ℕ). poured s at (t ++ replicate (k - length t) 0xff)) (sym e)
