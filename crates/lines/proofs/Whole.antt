-- A line by itself: it is answered whole, with its newline or, at the end of the input, without. Assumes nothing.
use mathlib.Core.Path.{◌≡◌, refl, sym, ap, ◌∙◌}
use mathlib.Core.Bool.{Bool, true, false}
use mathlib.Core.List.{List, [], ◌∷◌, ◌++◌, append-nil, append_assoc}
use Prim.Native.Nat.{ℕ, suc, ◌<◌}
use native.Mathlib.Omega.{arith}
use lib.Dec.{eqb}
use lib.ListN.{length}
use Rattle.bits.specs.Bits.{pick}
use Rattle.lines.specs.Machine.{newline, up_to_newline, text_from, plain, is_open, text_of}

-- an input that ends in a newline ends within no line
closes : (t : Bool) (line : List ℕ) → is_open t (line ++ newline ∷ []) ≡ false
unfolding is_open
closes t [] = refl
closes t (b ∷ bs) = closes (pick (eqb b newline) false true) bs

-- one that has bytes and no newline does
opens : (t : Bool) (line : List ℕ) → up_to_newline line ≡ line → 0 < length line → is_open t line ≡ true
unfolding is_open up_to_newline
opens t [] e some = absurd (omega arith)
opens t (b ∷ bs) e some = go (eqb b newline) e bs refl (λ r. opens true bs r)
  where
    go : (n : Bool) → pick n [] (b ∷ up_to_newline bs) ≡ b ∷ bs → (rest : List ℕ) → rest ≡ bs
        → (up_to_newline bs ≡ bs → 0 < length bs → is_open true bs ≡ true) → is_open (pick n false true) bs ≡ true
    go true h rest q later = let z : ◌≡◌ {A = ℕ} 0 (suc (length bs)) = ap length h in absurd (omega arith)
    go false h [] q later = ap (is_open true) (sym q)
    go false h (x ∷ xs) q later = let z : up_to_newline bs ≡ bs = cc in let n = ap length q in later z (omega arith)

module _ (f : List ℕ → List ℕ) where
  -- the bytes before a newline are one line
  pub whole-line : (held line rest : List ℕ) → up_to_newline line ≡ line → text_from (plain f) held (line ++ newline ∷ rest) ≡ f (held ++ line) ++ text_from (plain f) [] rest
  unfolding text_from up_to_newline
  whole-line held [] rest e = ap (λ (x : List ℕ). f x ++ text_from (plain f) [] rest) (sym (append-nil held))
  whole-line held (b ∷ bs) rest e = go (eqb b newline) e (whole-line (held ++ b ∷ []) bs rest)
    where
      go : (t : Bool) → pick t [] (b ∷ up_to_newline bs) ≡ b ∷ bs
          → (up_to_newline bs ≡ bs → text_from (plain f) (held ++ b ∷ []) (bs ++ newline ∷ rest) ≡ f (held ++ b ∷ [] ++ bs) ++ text_from (plain f) [] rest)
          → pick t (f held ++ text_from (plain f) [] (bs ++ newline ∷ rest)) (text_from (plain f) (held ++ b ∷ []) (bs ++ newline ∷ rest)) ≡ f (held ++ b ∷ bs) ++ text_from (plain f) [] rest
      go true h later = let z : ◌≡◌ {A = ℕ} 0 (suc (length bs)) = ap length h in absurd (omega arith)
      go false h later = let z : up_to_newline bs ≡ bs = cc in later z ∙ ap (λ (x : List ℕ). f x ++ text_from (plain f) [] rest) (append_assoc held (b ∷ []) bs)

  -- a line with its newline
  pub line-printed : (line : List ℕ) → up_to_newline line ≡ line → text_of f (line ++ newline ∷ []) ≡ f line
  unfolding text_from
  line-printed line e =
      ap (λ (t : Bool). text_from (plain f) [] ((line ++ newline ∷ []) ++ pick t (newline ∷ []) [])) (closes false line)
      ∙ ap (text_from (plain f) []) (append-nil (line ++ newline ∷ []))
      ∙ whole-line [] line [] e ∙ append-nil (f line)

  -- and without
  pub open-printed : (line : List ℕ) → up_to_newline line ≡ line → 0 < length line → text_of f line ≡ f line
  unfolding text_from
  open-printed line e some = ap (λ (t : Bool). text_from (plain f) [] (line ++ pick t (newline ∷ []) [])) (opens false line e some) ∙ whole-line [] line [] e ∙ append-nil (f line)
