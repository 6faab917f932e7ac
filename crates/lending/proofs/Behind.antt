-- A struct, or other data of one machine value, behind a `&mut`: the borrow is opened at its cell, with what it owns beside it and what that says of it
-- (`opened`), and closed with another there (`shut`). It says nothing of any crate. Assumes `Logic`.
use mathlib.Core.Path.{◌≡◌, subst}
use Prim.Native.Nat.{ℕ}
use mathlib.Core.List.{List, [], ◌∷◌}
use seplogic.Ra.Ura.{Ura}
use base.Fraction.{full_share}
use mir.Syntax.{Ty}
use mir.Raw.{raw as raw_ty}
use mir.Val.{Val}
use base.Logic.{ent}
use base.Stored.{Gv}
use base.Fml.{GName, Lft, Share, Fml, fat, flft, fobs, fauth, fbor, fobor}
use types.Logic.{Logic, sem}
use types.Kit.{Item, Goal, Soaks, Seq, Step, step, ‵, ◌$◌, move, use1}
use types.SemTy.{Body}
use denote.RattleType.{RattleType}
use denote.Laws.{Is, Tells, shows}
use denote.Memory.{mem, cell_at}
use denote.Steps.{opens, closes, peeks}
use denote.Struct.Steps.{spelt}

-- such data, and its type in MIR
pub record Kept : Type 2 where
  pub R : RattleType
  pub τ : Ty
  pub val : R.Denot → Val
  pub tells : Tells R (Is R) (λ x. val x ∷ [])
  pub same : (v : Val) (b o : ℕ) → fat full_share (raw_ty τ) b o v ≡ cell_at full_share R.mir (v ∷ []) b o

module _ {M : Type 1} {𝓤 : Ura M} {𝓛 : Logic 𝓤} {K : Type 0} {Γ : List (Item 𝓤)} {G : Goal 𝓤 𝓛.H} where
  open 𝓛 use {H}

  pub opened : K → Soaks G → (F : Kept) {κ : Lft} {q : Share} {γ : GName} (h : F.R.Denot) (b o : ℕ)
      → (Is F.R h (F.val h ∷ []) → Seq K 𝓛 (‵ (fat full_share F.τ b o (F.val h)) ∷ ‵ (F.R.own_val h (F.val h ∷ [])) ∷ ‵ (fobor κ q (Body (mem F.R) b o γ)) ∷ ‵ (fobs γ (F.R.coded.code h)) ∷ ‵ (fauth γ (F.R.coded.code h)) ∷ Γ) G)
      → Seq K 𝓛 (‵ (fobs γ (F.R.coded.code h)) ∷ ‵ (fbor κ (Body (mem F.R) b o γ)) ∷ ‵ (flft κ q) ∷ Γ) G
  opened t z F h b o k =
      opens t z F.R {h = h} b o (λ vs. spelt t F.R (Is F.R) (shows 𝓛 F.R) (λ x. F.val x ∷ []) F.tells full_share h vs b o $
      use1 𝓛 (‵ (fat full_share F.τ b o (F.val h))) (subst (λ (P : Fml). ent 𝓤 (sem 𝓛 P) (H.at full_share F.τ b o (F.val h))) (F.same (F.val h) b o) (𝓛.laws.raw_at full_share F.τ b o (F.val h))) $
      move t (1 ∷ []) $ peeks t F.R (Is F.R) (shows 𝓛 F.R) h (F.val h ∷ []) (λ is. move t (1 ∷ 0 ∷ []) $ k is))

  pub shut : K → Soaks G → (F : Kept) {κ : Lft} {q : Share} {γ : GName} {x y : Gv} {v : Val} (h : F.R.Denot) (b o : ℕ)
      → Step K 𝓛 (‵ (fobs γ (F.R.coded.code h)) ∷ ‵ (fbor κ (Body (mem F.R) b o γ)) ∷ ‵ (flft κ q) ∷ Γ) G
      (‵ (fat full_share F.τ b o v) ∷ ‵ (F.R.own_val h (v ∷ [])) ∷ ‵ (fobor κ q (Body (mem F.R) b o γ)) ∷ ‵ (fobs γ x) ∷ ‵ (fauth γ y) ∷ Γ) G
  shut t z F {v = v} h b o = step (λ s.
      use1 𝓛 (‵ (cell_at full_share F.R.mir (v ∷ []) b o)) (subst (λ (P : Fml). ent 𝓤 (H.at full_share F.τ b o v) (sem 𝓛 P)) (F.same v b o) (𝓛.laws.at_raw full_share F.τ b o v)) $ closes t z F.R h (v ∷ []) b o $ s)
