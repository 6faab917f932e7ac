-- What stands before a mark and after it, and what comes after a sign. Assumes nothing.
use mathlib.Core.Path.{◌≡◌, refl, sym, ap, ◌∙◌}
use mathlib.Core.Bool.{Bool, true, false}
use mathlib.Core.List.{List, [], ◌∷◌}
use Prim.Native.Nat.{ℕ, suc, ◌+◌, ◌-◌, ◌≤◌}
use native.Mathlib.Omega.{arith}
use lib.ListN.{length, take, drop, length-take, length-drop, drop_of_length-le}
use lib.Seq.{take_all, take-nil}
use Rattle.columns.specs.Parts.{before, part_end_lem}
use Rattle.compose.specs.Decimals.{is_negative_lem, unsigned, head_of, tail_of}

-- ## A mark

module _ (mark : ℕ) (s : List ℕ) where
  module _ {r : ℕ} (e : r ≡ part_end_lem mark 0 s) where
    pub head-is : take (r - 0) s ≡ head_of mark s
    head-is = let n : r - 0 ≡ before mark s = omega (arith, e) in ap (λ (k : ℕ). take k s) n

    pub tail_more : take (length s - (r + 1)) (drop (r + 1) s) ≡ tail_of mark s
    tail_more =
        let n : r + 1 ≡ suc (before mark s) = omega (arith, e) in
        take_all (length s - (r + 1)) (drop (r + 1) s) (omega (arith, length-drop (r + 1) s)) ∙ ap (λ (k : ℕ). drop k s) n

    pub tail_none : length s ≤ r → take (length s - r) (drop r s) ≡ tail_of mark s
    tail_none l =
        let past : length s ≤ suc (before mark s) = omega (arith, e) in
        ap (take (length s - r)) (drop_of_length-le s l) ∙ take-nil (length s - r) ∙ sym (drop_of_length-le s past)

  -- both together have no more bytes
  pub cut-size : length (head_of mark s) + length (tail_of mark s) ≤ length s
  cut-size = omega (arith, length-take (before mark s) s, length-drop (suc (before mark s)) s)

-- ## A sign

pub no_sign : (s : List ℕ) → length s ≡ 0 → false ≡ is_negative_lem s
no_sign [] e = refl
no_sign (b ∷ bs) e = absurd (omega arith)

module _ (s : List ℕ) {t : Bool} (e : t ≡ is_negative_lem s) where
  pub after-sign : t ≡ true → take (length s - 1) (drop 1 s) ≡ unsigned s
  after-sign g = rw (← e, g) (take_all (length s - 1) (drop 1 s) (omega (arith, length-drop 1 s)))

  pub as-it-is : t ≡ false → s ≡ unsigned s
  as-it-is g = rw (← e, g)
