-- The tokens of a lifetime ν that is made for a call, and of κ, in which something is lent for their meet: a token of the meet and one of κ out of the two
-- (`cuts`), and the two again (`joins`). Assumes `Logic`.
use Prim.Native.Nat.{ℕ}
use mathlib.Core.List.{[], ◌∷◌}
use seplogic.Ra.Ura.{Ura}
use base.Fraction as Fraction
use base.Fraction.{full_share}
use base.Logic.{SProp, ent, sep, wand, apply∗}
use base.Fml.{Lft, Share, ftrue, flft}
use types.Logic.{Logic}
use types.Kit.{‵, raw, ◌⊛◌, ⋆, ◌$◌, ◌∵◌, !, qed, move, keep, use1, use2, split, frame, done}

module _ {M : Type 1} {𝓤 : Ura M} (𝓛 : Logic 𝓤) (κ : Lft) (q : Share) (ν : ℕ) where
  -- the wand by which the new lifetime's token is whole again
  open 𝓛 use {A}

  abbrev pub Back : SProp 𝓤
  Back = wand 𝓤 (A.lft (ν ∷ []) (Fraction.left q)) (A.lft (ν ∷ []) full_share)

  -- a token of the meet, and one of κ, out of the two whole ones; and back
  pub cuts : ent 𝓤 (⋆ 𝓛 (‵ (flft (ν ∷ []) full_share) ∷ (‵ (flft κ q) ⊛ ‵ ftrue) ∷ [])) (sep 𝓤 (A.lft (ν ∷ κ) (Fraction.left q)) (sep 𝓤 (A.lft κ (Fraction.right q)) Back))
  cuts =
      qed 𝓛 (‵ (flft (ν ∷ []) full_share) ∷ (‵ (flft κ q) ⊛ ‵ ftrue) ∷ []) ∵ use1 𝓛 (‵ (flft (ν ∷ []) (Fraction.left q)) ⊛ raw Back) (𝓛.lfts.lft_carve ν (Fraction.left q)) $ split ! $
      move ! (2 ∷ []) $ split ! $ use1 𝓛 (‵ (flft κ (Fraction.left q)) ⊛ ‵ (flft κ (Fraction.right q))) (𝓛.lfts.lft_split κ q) $ split ! $
      -- [κ, left; κ, right; true; ν, left; the wand]
      move ! (3 ∷ 0 ∷ []) $ use2 𝓛 (‵ (flft (ν ∷ κ) (Fraction.left q))) (𝓛.lfts.lft_meet (ν ∷ []) κ (Fraction.left q)) $ keep ! (0 ∷ 1 ∷ 3 ∷ []) $ frame ! $ frame ! $ done !

  pub joins : ent 𝓤 (⋆ 𝓛 (‵ (flft (ν ∷ κ) (Fraction.left q)) ∷ ‵ (flft κ (Fraction.right q)) ∷ raw Back ∷ [])) (sep 𝓤 (A.lft (ν ∷ []) full_share) (A.lft κ q))
  joins =
      qed 𝓛 (‵ (flft (ν ∷ κ) (Fraction.left q)) ∷ ‵ (flft κ (Fraction.right q)) ∷ raw Back ∷ []) ∵ use1 𝓛 (‵ (flft (ν ∷ []) (Fraction.left q)) ⊛ ‵ (flft κ (Fraction.left q))) (𝓛.lfts.lft_unmeet (ν ∷ []) κ (Fraction.left q)) $ split ! $
      -- [ν, left; κ, left; κ, right; the wand]
      move ! (1 ∷ 2 ∷ []) $ use2 𝓛 (‵ (flft κ q)) (𝓛.lfts.lft_join κ q) $ move ! (1 ∷ 2 ∷ []) $ use2 𝓛 (‵ (flft (ν ∷ []) full_share)) (apply∗ 𝓤 (A.lft (ν ∷ []) (Fraction.left q)) (A.lft (ν ∷ []) full_share)) $ frame ! $ done !
