-- The float nearest to a signed number is the one nearest to its magnitude, negated below zero: a rounded fraction negated is
-- the fraction rounded with the other sign. And the magnitude fits, at the least number too. Assumes nothing.
use mathlib.Core.Path.{◌≡◌, refl, sym, ap, ◌∙◌}
use Prim.Native.Nat.{ℕ, zero, suc, ◌+◌, ◌-◌, ◌*◌, ◌/◌, ◌^◌, ◌≤◌, zero-le}
use native.Mathlib.Nat.{le-suc, le_trans, le_of_eq, lt_of_le_of_lt}
use mathlib.Core.Bool.{Bool, true, false, not, cond, true≢false, false≢true}
use lib.IntN.{ℤ, pos, negsuc, nat_abs, neg_ℤ, suc_ℤ, ◌+ℤ◌, ◌-ℤ◌, +ℤ_one, +ℤ_idl, neg_ℤ-suc_ℤ}
use lib.Signed.{mag, le_z, non_neg, pos-nat_abs}
use lib.Dec.{T, ltb}
use borrow.Author.Tests.{le-leb}
use mir.Syntax.{w64}
use mir.Val.{SFits, to_z, of_z}
use mir.ValLaws.{to_z-of_z}
use lib.Ieee.{Float, inf, Format, prec, emax, low, size, odd, units, round, neg, of_int}
use lib.Ieee.Fits.{round_is}
use lib.Ieee.Nearest.{closest}

neg-odd : (d : ℕ) (s : Bool) (q k l : ℕ) → neg (odd d s q k l) ≡ odd d (not s) q k l
unfolding neg odd
neg-odd d s zero k l = refl
neg-odd d s (suc q) k l = refl

neg-cond : (b : Bool) (x : Float) (s : Bool) → neg (cond b x (inf s)) ≡ cond b (neg x) (inf (not s))
unfolding neg
neg-cond true x s = refl
neg-cond false x s = refl

neg-units : (f : Format) (s : Bool) (q k : ℕ) → neg (units f s q k) ≡ units f (not s) q k
unfolding units
neg-units f s q k =
    let b = ltb (q * 2 ^ k) (2 ^ (low f + suc (emax f))) in
    neg-cond b (odd (suc (prec f)) s q k (low f)) s ∙ ap (λ (x : Float). cond b x (inf (not s))) (neg-odd (suc (prec f)) s q k (low f))

pub neg-round : (f : Format) (s : Bool) (num den : ℕ) → neg (round f s num den) ≡ round f (not s) num den
neg-round f s num den =
    let n = num * 2 ^ low f in
    let k = size (n / den) - prec f in
    ap neg (round_is f s num den) ∙ neg-units f s (closest n (den * 2 ^ k)) k ∙ sym (round_is f (not s) num den)

-- an integer is rounded by its sign and its magnitude
pub of-int : (f : Format) (z : ℤ) → of_int f z ≡ round f (not (non_neg z)) (nat_abs z) 1
unfolding of_int
of-int f (pos n) = refl
of-int f (negsuc n) = refl

-- ---- a signed 64-bit number, as the machine reads it back from its bits
abbrev pub back : ℤ → ℤ
back z = to_z w64 (of_z w64 z)

pub read_back : (z : ℤ) → SFits w64 z → back z ≡ z
read_back z h = to_z-of_z w64 z h

pub is_pos : (z : ℤ) → SFits w64 z → le_z (pos 0) (back z) ≡ true → T (non_neg z)
is_pos (pos n) h e = tt
is_pos (negsuc n) h e = absurd (false≢true (sym (ap (le_z (pos 0)) (read_back (negsuc n) h)) ∙ e))

pub is-neg : (z : ℤ) → SFits w64 z → le_z (pos 0) (back z) ≡ false → z ≡ negsuc (mag z)
is-neg (pos n) h e = absurd (true≢false (sym (le-leb 0 n zero-le) ∙ sym (ap (le_z (pos 0)) (read_back (pos n) h)) ∙ e))
is-neg (negsuc n) h e = refl

-- one up from a number below zero, and that without its sign
module _ (z : ℤ) (h : SFits w64 z) (e : z ≡ negsuc (mag z)) where
  up_one : back z +ℤ pos 1 ≡ suc_ℤ (negsuc (mag z))
  up_one = ap (λ (x : ℤ). x +ℤ pos 1) (read_back z h ∙ e) ∙ +ℤ_one (negsuc (mag z))

  pub up_fits : SFits w64 (back z +ℤ pos 1)
  up_fits = record { sfits = lt_of_le_of_lt (le_trans (le_of_eq (ap mag up_one)) (less (mag z))) h.sfits }
    where
      less : (k : ℕ) → mag (suc_ℤ (negsuc k)) ≤ k
      less zero = zero-le
      less (suc k) = le-suc k

  pub lowered : pos 0 -ℤ back (back z +ℤ pos 1) ≡ pos (mag z)
  lowered =
      ap (λ (x : ℤ). pos 0 -ℤ x) (read_back (back z +ℤ pos 1) up_fits ∙ up_one)
      ∙ +ℤ_idl (neg_ℤ (suc_ℤ (negsuc (mag z))))
      ∙ neg_ℤ-suc_ℤ (negsuc (mag z))

  pub lowered-fits : SFits w64 (pos 0 -ℤ back (back z +ℤ pos 1))
  lowered-fits = record { sfits = lt_of_le_of_lt (le_of_eq (ap mag lowered)) h.sfits }

  pub lowered-back : back (pos 0 -ℤ back (back z +ℤ pos 1)) ≡ pos (mag z)
  lowered-back = read_back (pos 0 -ℤ back (back z +ℤ pos 1)) lowered-fits ∙ lowered

-- ---- the float nearest to a signed number, from the one nearest to its magnitude
module _ (f : Format) (z : ℤ) (h : SFits w64 z) (x : Float) (near : x ≡ of_int f (pos (nat_abs (back z)))) where
  pub kept : le_z (pos 0) (back z) ≡ true → x ≡ of_int f z
  kept e = near ∙ ap (λ (y : ℤ). of_int f (pos (nat_abs y))) (read_back z h) ∙ ap (of_int f) (pos-nat_abs z (is_pos z h e))

  pub negated : le_z (pos 0) (back z) ≡ false → neg x ≡ of_int f z
  negated e =
      let k = is-neg z h e in
      ap neg (near ∙ ap (λ (y : ℤ). of_int f (pos (nat_abs y))) (read_back z h ∙ k) ∙ of-int f (pos (suc (mag z))))
      ∙ neg-round f false (suc (mag z)) 1
      ∙ sym (ap (of_int f) k ∙ of-int f (negsuc (mag z)))
