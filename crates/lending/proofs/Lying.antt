-- A value in a local's cell, with what it owns, is a value in memory (`lays`), and back (`lifts`). It says nothing of any crate. Assumes `Logic`.
use Prim.Native.Nat.{ℕ}
use mathlib.Core.List.{List, [], ◌∷◌}
use seplogic.Ra.Ura.{Ura}
use base.Fraction.{full_share}
use mir.Val.{Val}
use base.Logic.{ent, sep, ex}
use base.Fml.{fsep}
use types.Logic.{Logic, sem}
use types.Kit.{‵, ◌$◌, ◌∵◌, !, qed, show, fsplit, fjoin, fpick, fpack, frame, done}
use denote.RattleType.{RattleType}
use denote.Memory.{cell_at, part_at, part_of}

module _ {M : Type 1} {𝓤 : Ura M} (𝓛 : Logic 𝓤) (R : RattleType) (x : R.Denot) (l : ℕ) where
  pub lays : (u : Val) → ent 𝓤 (sep 𝓤 (sem 𝓛 (cell_at full_share R.mir (u ∷ []) l 0)) (sem 𝓛 (R.own_val x (u ∷ [])))) (sem 𝓛 (part_at R full_share x l 0))
  unfolding part_of
  lays u = qed 𝓛 (‵ (cell_at full_share R.mir (u ∷ []) l 0) ∷ ‵ (R.own_val x (u ∷ [])) ∷ []) ∵ fjoin ! $ fpack ! (List Val) (λ us. fsep (cell_at full_share R.mir us l 0) (R.own_val x us)) (u ∷ []) $ done !

  pub lifts : ent 𝓤 (sem 𝓛 (part_at R full_share x l 0)) (ex 𝓤 (λ (vs : List Val). sep 𝓤 (sem 𝓛 (cell_at full_share R.mir vs l 0)) (sem 𝓛 (R.own_val x vs))))
  unfolding part_of
  lifts = qed 𝓛 (‵ (part_at R full_share x l 0) ∷ []) ∵ fpick ! (λ vs. fsplit ! $ show ! (λ (us : List Val). sep 𝓤 (sem 𝓛 (cell_at full_share R.mir us l 0)) (sem 𝓛 (R.own_val x us))) vs $ frame ! $ done !)
