-- A `&κ mut [T]` taken apart by its holder: the list that lies there, and the borrow, open (`unlocked`); and, with a list as long there, put together again
-- (`locked`). It says nothing of any crate. Assumes `Logic`.
use mathlib.Core.Path.{◌≡◌, sym, ap, subst}
use Prim.Native.Nat.{ℕ}
use mathlib.Core.List.{List, [], ◌∷◌}
use lib.ListN.{length}
use seplogic.Ra.Ura.{Ura}
use base.Fraction.{full_share}
use mir.Syntax.{Lifetime}
use mir.Val.{Val}
use base.Fml.{Lft, GName, Share, Fml, fsep, flft, fobs, fauth, fobor}
use types.Logic.{Logic}
use types.Kit.{Item, Goal, Soaks, Seq, Step, step, ‵, ◌$◌, move, use1, fsplit, fjoin}
use types.SemTy.{cells}
use denote.RattleType.{RattleType}
use denote.Shadow.{pure_l, pure_i}
use denote.Memory.{mem}
use denote.Ref.{MutBor}
use denote.Slice.{slice_val, MutSlice, heres, Room, mut_slice_at, coded_holeys}
use denote.Lend.{Held}
use denote.Index.{row, whole_out, whole_in, opens_slice, closes_slice}

-- the reference to the list zs at a place, under a ghost name
abbrev pub list_at : {X : Type 0} → ℕ → ℕ → GName → List X → MutBor (List X)
list_at b o γ zs = record { ref_ptr = (b, o); ghost_name = γ; now = zs }

module _ (R : RattleType) (b o : ℕ) (xs : List R.Denot) where
  -- the machine value of the slice
  abbrev pub machine : List Val
  machine = slice_val (b, o) (length xs) ∷ []

  -- the borrow while it is open: it says that xs was there
  abbrev pub Open : Lft → Share → GName → Fml
  Open κ q γ = fsep (fobor κ q (Held R (length xs) b o γ)) (fsep (fobs γ ((coded_holeys R).code (heres R xs))) (fauth γ ((coded_holeys R).code (heres R xs))))

module _ {M : Type 1} {𝓤 : Ura M} {𝓛 : Logic 𝓤} {K : Type 0} {Γ : List (Item 𝓤)} {G : Goal 𝓤 𝓛.H} where
  pub unlocked : K → Soaks G → (R : RattleType) (ℓ : Lifetime) {κ : Lft} {q : Share} (b o : ℕ) (γ : GName) (xs : List R.Denot)
      → (Room R (length xs) → Seq K 𝓛 (‵ (cells (mem R) xs b o) ∷ ‵ (Open R b o xs κ q γ) ∷ Γ) G) → Seq K 𝓛 (‵ ((MutSlice ℓ κ R).own_val (list_at b o γ xs) (machine R b o xs)) ∷ ‵ (flft κ q) ∷ Γ) G
  unlocked t z R ℓ b o γ xs k =
      fsplit t $ pure_l t (mut_slice_at R (list_at b o γ xs) (machine R b o xs)) (λ fits. fsplit t $ opens_slice t z R xs b o $
      -- [the elements; the open borrow; obs; auth]
      move t (2 ∷ 3 ∷ []) $ fjoin t $ move t (2 ∷ 0 ∷ []) $ fjoin t $ move t (1 ∷ 0 ∷ []) $ use1 𝓛 (‵ (cells (mem R) xs b o)) (whole_in 𝓛 R xs b o) $ k fits.1)

  pub locked : K → Soaks G → (R : RattleType) (ℓ : Lifetime) {κ : Lft} {q : Share} (b o : ℕ) (γ : GName) (xs zs : List R.Denot) → Room R (length xs) → length zs ≡ length xs
      → Step K 𝓛 (‵ ((MutSlice ℓ κ R).own_val (list_at b o γ zs) (machine R b o xs)) ∷ ‵ (flft κ q) ∷ Γ) G (‵ (cells (mem R) zs b o) ∷ ‵ (Open R b o xs κ q γ) ∷ Γ) G
  locked t z R ℓ b o γ xs zs room same = step (λ s.
      use1 𝓛 (‵ (row R full_share zs b o)) (whole_out 𝓛 R zs b o) $ move t (1 ∷ []) $ fsplit t $ move t (1 ∷ []) $ fsplit t $ move t (3 ∷ 2 ∷ []) $ closes_slice t z R xs zs same b o $ fjoin t $
      pure_i t (mut_slice_at R (list_at b o γ zs) (machine R b o xs)) (tt, (tt, tt)) (ap (λ (n : ℕ). slice_val (b, o) n ∷ []) (sym same), subst (Room R) (sym same) room) $ fjoin t $ s)
