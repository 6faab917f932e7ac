-- What is printed is read back: numbers, digits of a fixed width, bytes. One law over the base. Assumes nothing.
use mathlib.Core.Path.{◌≡◌, refl, sym, ap, ap₂, ◌∙◌, subst}
use mathlib.Core.Bool.{Bool, true, false, ◌&&◌}
use mathlib.Core.Logic.{⊎_elim}
use mathlib.Core.List.{List, [], ◌∷◌, ◌++◌, map}
use Prim.Native.Nat.{ℕ, zero, suc, ◌+◌, ◌*◌, ◌/◌, ◌%◌, ◌^◌, ◌≤◌, ◌<◌}
use native.Mathlib.Nat.{mod-lt, mod-eq_of_lt, div-add-mod', div-lt_iff_lt-mul, pow-zero, pow-suc, one-le-pow}
use native.Mathlib.Omega.{arith}
use borrow.Author.Tests.{lt-ltb, eqb-true}
use lib.Arith.{mod-mul}
use lib.Dec.{ltb, eqb}
use lib.ListN.{length, get_or, length-append}
use Rattle.bits.proofs.Written.{below}
use Rattle.hexadecimal.specs.Digits.{value_of, digit_of_lem, spelled_from, digits_of}
use Rattle.hexadecimal.proofs.Inverse.{digit_value, length_digits, digits-all, digits-pairs}
use Rattle.text.proofs.Sizes.{fixed-size}
use Rattle.text.specs.Digits.{unless, higher, shortest, decimal_of, hex_of, fixed, bytes_text}
use Rattle.columns.specs.Numbers.{number, all_below, spelled_in, number_in, decimal_in, hex_in}
use Rattle.columns.specs.Runs.{run, filled, over, pairs_in, bytes_in_lem}
use Rattle.columns.proofs.Spelling.{a-number}
use Rattle.columns.proofs.Filling.{pairs-good, bytes-more}

-- ## One digit after others

spelled-append : (b v : ℕ) (xs ys : List ℕ) → spelled_in b v (xs ++ ys) ≡ spelled_in b (spelled_in b v xs) ys
unfolding spelled_in
spelled-append b v [] ys = refl
spelled-append b v (x ∷ xs) ys = spelled-append b (v * b + value_of x) xs ys

below-append : (b : ℕ) (xs ys : List ℕ) → all_below b xs ≡ true → all_below b (xs ++ ys) ≡ all_below b ys
unfolding all_below
below-append b [] ys e = refl
below-append b (x ∷ xs) ys e = by (ltb (value_of x) b) (below-append b xs ys) e
  where
    by : (t : Bool) → (all_below b xs ≡ true → all_below b (xs ++ ys) ≡ all_below b ys) → t && all_below b xs ≡ true → t && all_below b (xs ++ ys) ≡ all_below b ys
    by true ih h = ih h
    by false ih h = let z : ◌≡◌ {A = ℕ} 0 1 = cc in absurd (omega arith)

higher-none : (b w : ℕ) → higher b w 0 ≡ []
unfolding higher
higher-none b zero = refl
higher-none b (suc w) = refl

-- digits of the base that spell m, at most k of them
pub record Spells (b m k : ℕ) (s : List ℕ) : Type 0 where
  pub value : spelled_in b 0 s ≡ m
  pub below : all_below b s ≡ true
  pub short : length s ≤ k

module _ (b : ℕ) (pos : 0 < b) (small : b ≤ 16) where
  last-value : (n : ℕ) → value_of (digit_of_lem (n % b)) ≡ n % b
  last-value n = let l = mod-lt n pos in digit_value (n % b) ∙ mod-eq_of_lt (omega arith)

  one_more : (n q k : ℕ) (s : List ℕ) → Spells b q k s → Spells b (q * b + n % b) (suc k) (s ++ digit_of_lem (n % b) ∷ [])
  unfolding spelled_in all_below
  one_more n q k s h =
      let e = last-value n in
      let l = mod-lt n pos in
      record {
        value = spelled-append b 0 s (digit_of_lem (n % b) ∷ []) ∙ ap₂ (λ (x y : ℕ). x * b + y) h.value e;
        below = below-append b s (digit_of_lem (n % b) ∷ []) h.below ∙ ap (λ (t : Bool). t && true) (lt-ltb (value_of (digit_of_lem (n % b))) b (omega arith));
        short = omega (arith, length-append s (digit_of_lem (n % b) ∷ []), h.short);
      }

  nothing : (k : ℕ) → Spells b 0 k []
  unfolding spelled_in all_below
  nothing k = record {
    value = refl;
    below = refl;
    short = omega arith;
  }

  -- ## As few digits as it needs

  fewer : (n k : ℕ) → n < b ^ suc k → n / b < b ^ k
  fewer n k l = (div-lt_iff_lt-mul pos).1 (rw pow-suc at l)

  higher-spells : (w k m : ℕ) → k ≤ w → m < b ^ k → Spells b m k (higher b w m)
  unfolding higher
  higher-spells w zero m h l =
      let e : 0 ≡ m = omega (arith, rw pow-zero at l) in
      subst (λ (x : ℕ). Spells b x 0 (higher b w x)) e (subst (Spells b 0 0) (sym (higher-none b w)) (nothing 0))
  higher-spells zero (suc k) m h l = absurd (omega arith)
  higher-spells (suc w) (suc k) m h l = by (eqb m 0) refl (higher-spells w k (m / b) (omega arith) (fewer m k l))
    where
      by : (t : Bool) → eqb m 0 ≡ t → Spells b (m / b) k (higher b w (m / b)) → Spells b m (suc k) (unless t (higher b w (m / b) ++ digit_of_lem (m % b) ∷ []))
      by true e ih = subst (λ (x : ℕ). Spells b x (suc k) []) (sym (eqb-true m 0 e)) (nothing (suc k))
      by false e ih = subst (λ (x : ℕ). Spells b x (suc k) (higher b w (m / b) ++ digit_of_lem (m % b) ∷ [])) (div-add-mod' m b) (one_more m (m / b) k (higher b w (m / b)) ih)

  -- a number that was printed is read as itself
  pub shortest-back : (w k n : ℕ) → k ≤ w → n / b < b ^ k → n < 2 ^ 64 → number_in b (suc k) (shortest b w n) ≡ number n
  shortest-back w k n h l f =
      let d = one_more n (n / b) k (higher b w (n / b)) (higher-spells w k (n / b) h l) in
      let e : spelled_in b 0 (shortest b w n) ≡ n = d.value ∙ div-add-mod' n b in
      a-number b (suc k) (shortest b w n) (omega (arith, length-append (higher b w (n / b)) (digit_of_lem (n % b) ∷ []))) d.short d.below (omega (arith, e))
      ∙ ap number e

  -- ## No zero in front

  first : (n : ℕ) (s : List ℕ) → spelled_in b 0 s ≡ n / b → (n / b ≡ 0 → s ≡ []) → (0 < n / b → get_or s 0 0 ≡ 48 → ⊥) → 0 < n
      → get_or (s ++ digit_of_lem (n % b) ∷ []) 0 0 ≡ 48 → ⊥
  unfolding spelled_in
  first n [] v z p some e =
      let whole : 0 * b + n % b ≡ n = ap (λ (x : ℕ). x * b + n % b) v ∙ div-add-mod' n b in
      let none : value_of 48 ≡ n % b = sym (ap value_of e) ∙ last-value n in
      omega (arith, whole, none)
  first n (x ∷ xs) v z p some e = ⊎_elim
      (λ (h : 0 < n / b). p h e)
      (λ (h : n / b ≤ 0). let f = z (omega arith) in let a : ◌≡◌ {A = ℕ} 0 1 = cc in omega arith)
      (below 0 (n / b))

  higher-first : (w k m : ℕ) → k ≤ w → m < b ^ k → 0 < m → get_or (higher b w m) 0 0 ≡ 48 → ⊥
  unfolding higher
  higher-first w zero m h l some e = omega (arith, rw pow-zero at l)
  higher-first zero (suc k) m h l some e = omega arith
  higher-first (suc w) (suc k) m h l some e = by (eqb m 0) refl (higher-first w k (m / b) (omega arith) (fewer m k l)) e
    where
      by : (t : Bool) → eqb m 0 ≡ t → (0 < m / b → get_or (higher b w (m / b)) 0 0 ≡ 48 → ⊥) → get_or (unless t (higher b w (m / b) ++ digit_of_lem (m % b) ∷ [])) 0 0 ≡ 48 → ⊥
      by true q ih f = omega (arith, eqb-true m 0 q)
      by false q ih f =
          first m (higher b w (m / b)) (higher-spells w k (m / b) (omega arith) (fewer m k l)).value (λ z. ap (higher b w) z ∙ higher-none b w) ih some f

  pub shortest-first : (w k n : ℕ) → k ≤ w → n / b < b ^ k → 0 < n → get_or (shortest b w n) 0 0 ≡ 48 → ⊥
  shortest-first w k n h l some =
      first n (higher b w (n / b)) (higher-spells w k (n / b) h l).value (λ z. ap (higher b w) z ∙ higher-none b w) (higher-first w k (n / b) h l) some

  -- ## A fixed width

  fixed-spells : (w n : ℕ) → Spells b (n % b ^ w) w (fixed b w n)
  unfolding fixed
  fixed-spells zero n = let e : 0 ≡ n % b ^ 0 = rw pow-zero (omega arith) in subst (λ (x : ℕ). Spells b x 0 []) e (nothing 0)
  fixed-spells (suc w) n =
      let e : (n / b % b ^ w) * b + n % b ≡ n % b ^ suc w = sym (ap (λ (x : ℕ). n % x) (pow-suc b w) ∙ mod-mul n (one-le-pow w b pos) pos) in
      subst (λ (x : ℕ). Spells b x (suc w) (fixed b w (n / b) ++ digit_of_lem (n % b) ∷ [])) e (one_more n (n / b % b ^ w) w (fixed b w (n / b)) (fixed-spells w (n / b)))

  -- w digits of the base, which spell the last w digits of n
  pub fixed_back : (w n : ℕ) → (spelled_in b 0 (fixed b w n) ≡ n % b ^ w) × (all_below b (fixed b w n) ≡ true) × (length (fixed b w n) ≡ w)
  fixed_back w n = let d = fixed-spells w n in (d.value, d.below, fixed-size b w n)

  -- n itself, if it has no more
  pub fixed_same : (w n : ℕ) → n < b ^ w → spelled_in b 0 (fixed b w n) ≡ n
  fixed_same w n l = (fixed-spells w n).value ∙ mod-eq_of_lt l

-- ## Decimal and hexadecimal

pub decimal-back : (n : ℕ) → n < 2 ^ 64 → decimal_in (decimal_of n) ≡ number n
decimal-back n l = shortest-back 10 (omega arith) (omega arith) 19 19 n (omega arith) (omega arith) l

pub hex-back : (n : ℕ) → n < 2 ^ 64 → hex_in (hex_of n) ≡ number n
hex-back n l = shortest-back 16 (omega arith) (omega arith) 19 15 n (omega arith) (omega arith) l

pub decimal-first : (n : ℕ) → 0 < n → n < 2 ^ 64 → get_or (decimal_of n) 0 0 ≡ 48 → ⊥
decimal-first n some l = shortest-first 10 (omega arith) (omega arith) 19 19 n (omega arith) (omega arith) some

pub hex-first : (n : ℕ) → 0 < n → n < 2 ^ 64 → get_or (hex_of n) 0 0 ≡ 48 → ⊥
hex-first n some l = shortest-first 16 (omega arith) (omega arith) 19 15 n (omega arith) (omega arith) some

-- in base 16 digits spell what they spell to hexadecimal
pub spelled-hex : (v : ℕ) (s : List ℕ) → spelled_in 16 v s ≡ spelled_from v s
unfolding spelled_in spelled_from
spelled-hex v [] = refl
spelled-hex v (b ∷ bs) = spelled-hex (v * 16 + value_of b) bs

-- ## Bytes

same_bytes : (xs : List ℕ) → ((i : ℕ) → i < length xs → get_or xs i 0 < 256) → map (λ (x : ℕ). x % 256) xs ≡ xs
same_bytes [] h = refl
same_bytes (x ∷ xs) h = ap₂ (λ (y : ℕ) (ys : List ℕ). y ∷ ys) (mod-eq_of_lt (h 0 (omega arith))) (same_bytes xs (λ i l. h (suc i) (omega arith)))

pub pairs-back : (xs old : List ℕ) → ((i : ℕ) → i < length xs → get_or xs i 0 < 256) → length xs ≤ length old
    → pairs_in (digits_of xs) old ≡ filled (run (length xs)) (over xs old)
pairs-back xs old h l =
    let n = length_digits xs in
    let half : length (digits_of xs) / 2 ≡ length xs = omega arith in
    pairs-good (digits_of xs) old (omega arith) (omega arith) (digits-all xs)
    ∙ ap₂ (λ (k : ℕ) (ys : List ℕ). filled (run k) (over ys old)) half (digits-pairs xs ∙ same_bytes xs h)

-- and so are bytes, or '-' for none
pub bytes_back : (xs old : List ℕ) → ((i : ℕ) → i < length xs → get_or xs i 0 < 256) → length xs ≤ length old
    → bytes_in_lem (bytes_text xs) old ≡ filled (run (length xs)) (over xs old)
unfolding bytes_in_lem
bytes_back [] old h l = refl
bytes_back (x ∷ xs) old h l = sym (bytes-more (digits_of (x ∷ xs)) old (omega (arith, length_digits (x ∷ xs)))) ∙ pairs-back (x ∷ xs) old h l
