-- A holder of a `&κ mut [T]` lends it on for a shorter lifetime μ, and has it again once μ is over: `lends-on` before a call that takes the slice, `had-again`
-- after it, at the list that the call left. In between the holder keeps `Kept`: its own borrow, open, and what it is owed at the end of μ. It says
-- nothing of any crate. Assumes `Logic`.
use mathlib.Core.Path.{◌≡◌}
use Prim.Native.Nat.{ℕ}
use mathlib.Core.List.{List, [], ◌∷◌}
use lib.ListN.{length}
use seplogic.Ra.Ura.{Ura}
use mir.Syntax.{Lifetime}
use base.Logic.{ent, sep, ex}
use base.Fml.{Lft, GName, Share, Fml, fsep, flft, fdead, flent}
use types.Logic.{Logic, sem}
use types.Kit.{‵, ◌⊛◌, some, later, ◌$◌, ◌∵◌, !, qed, move, use1, use3, drop, split, pick, fsplit, fjoin, frame, await, updating, now as at_once, show, done}
use types.SemTy.{Arr}
use denote.RattleType.{RattleType}
use denote.Memory.{mem}
use denote.Slice.{MutSlice, Room, finally}
use denote.Lend.{Held, lends_slice, slice_back}
use Rattle.lending.proofs.Unlocking.{list_at, machine, Open, unlocked, locked}

module _ (R : RattleType) (κ μ : Lft) (q : Share) (b o : ℕ) (γ : GName) (xs : List R.Denot) where
  -- what the holder keeps while the slice is lent on under the name δ
  abbrev pub Kept : GName → Fml
  Kept δ = fsep (flent μ (Held R (length xs) b o δ)) (Open R b o xs κ q γ)

  module _ {M : Type 1} {𝓤 : Ura M} (𝓛 : Logic 𝓤) (ℓ ℓ' : Lifetime) where
    -- what the callee has of it
    open 𝓛 use {H, A}

    abbrev Lent : GName → Fml
    Lent δ = (MutSlice ℓ' μ R).own_val (list_at b o δ xs) (machine R b o xs)

    pub lends-on : ent 𝓤 (sep 𝓤 (sem 𝓛 ((MutSlice ℓ κ R).own_val (list_at b o γ xs) (machine R b o xs))) (A.lft κ q)) (H.⇛ (ex 𝓤 (λ (δ : GName). sep 𝓤 (sem 𝓛 (Lent δ)) (sem 𝓛 (Kept δ)))))
    lends-on =
        qed 𝓛 (‵ ((MutSlice ℓ κ R).own_val (list_at b o γ xs) (machine R b o xs)) ∷ ‵ (flft κ q) ∷ []) ∵ updating ! $ unlocked ! tt R ℓ b o γ xs (λ room.
        use1 𝓛 (later (some (λ (δ : GName). ‵ (Lent δ) ⊛ ‵ (flent μ (Held R (length xs) b o δ))))) (lends_slice 𝓛 R ℓ' μ xs b o room) $ await ! tt $ pick ! (λ δ. split ! $
        at_once ! $ show ! (λ (ε : GName). sep 𝓤 (sem 𝓛 (Lent ε)) (sem 𝓛 (Kept ε))) δ $ frame ! $ fjoin ! $ done !))

    pub had-again : (δ : GName) (zs : List R.Denot) → Room R (length xs) → length zs ≡ length xs
        → ent 𝓤 (sep 𝓤 (A.dead μ) (sep 𝓤 (sem 𝓛 (Kept δ)) (sem 𝓛 (finally R δ zs)))) (H.⇛ (sep 𝓤 (sem 𝓛 ((MutSlice ℓ κ R).own_val (list_at b o γ zs) (machine R b o xs))) (A.lft κ q)))
    had-again δ zs room same =
        qed 𝓛 (‵ (fdead μ) ∷ ‵ (Kept δ) ∷ ‵ (finally R δ zs) ∷ []) ∵ updating ! $ move ! (1 ∷ []) $ fsplit ! $
        -- [what is owed at the end of μ; the open borrow; μ is over; the last list]
        move ! (2 ∷ 0 ∷ 3 ∷ []) $ use3 𝓛 (later (‵ ((Arr (mem R) (length xs)).own_at zs b o))) (slice_back 𝓛 R μ δ zs (length xs) b o) $ await ! tt $ fsplit ! $ drop ! $ locked ! tt R ℓ b o γ xs zs room same $ at_once ! $ done !
