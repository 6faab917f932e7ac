-- The two ends of a walk by hand. `enters`: all of a function's locals are there, at blocks that come as one tuple. `leaves`: the result is read and every local
-- is given back; the walk says where in the context each stands (`frees-at`, where they hold nothing). It says nothing of any crate. Assumes `Logic`.
use mathlib.Core.Path.{◌≡◌, sym, subst}
use Prim.Native.Nat.{ℕ, zero, suc, ◌+◌, ◌*◌}
use mathlib.Core.List.{List, [], ◌∷◌}
use seplogic.Ra.Ura.{Ura}
use base.Fraction.{full_share}
use mir.Syntax.{Local, local, Fn, return}
use mir.Val.{Val}
use base.Logic.{SProp, ent, sep, emp, via, id⊢, emp∗, snd∗, mono_l}
use base.Fml.{fat, froom, fdies}
use prog.Wp.{Heap, Env, Calls, Loops, WpFn, spot_of, release}
use types.Logic.{Logic}
use types.Kit.{Item, Seq, Step, step, ⋆, nth, del, pull, push, pop, Goal, aim, prop, runs, allocs, params', frees, at_ret, ‵, raw, ◌⊛◌, ◌$◌, ◌∵◌, !, qed, by, move, use1, use2, split, join, frame, done}
use types.Run.{Reads, returns, enter, alloc1, alloc0}

-- a block for each local
abbrev pub Blocks : List Local → Type 0
Blocks [] = Unit {0}
Blocks (l ∷ ls) = ℕ × Blocks ls

abbrev pub placed : {M : Type 1} (𝓤 : Ura M) (H : Heap 𝓤) (ls : List Local) → Blocks ls → Env 𝓤 H
placed 𝓤 H [] bs = []
placed 𝓤 H (local τ h ∷ ls) bs = (τ, bs.0) ∷ placed 𝓤 H ls bs.1

-- what each local holds
abbrev pub Held : {M : Type 1} (𝓤 : Ura M) (H : Heap 𝓤) → Env 𝓤 H → Type 0
Held 𝓤 H [] = Unit {0}
Held 𝓤 H (e ∷ E) = Val × Held 𝓤 H E

-- the places of k locals that stand in a row after n entries, the last local first: the first local's, and each other's once those before it are gone
abbrev pub row : ℕ → ℕ → List ℕ
row zero n = []
row (suc k) n = (n + k * 2) ∷ row k n

module _ {M : Type 1} {𝓤 : Ura M} (𝓛 : Logic 𝓤) where
  -- room for each local, and the right to free it, before all else
  open 𝓛 use {H}

  abbrev pub roomy : (ls : List Local) → Blocks ls → List (Item 𝓤) → List (Item 𝓤)
  roomy [] bs Γ = Γ
  roomy (local τ h ∷ ls) bs Γ = roomy ls bs.1 (‵ (froom τ bs.0 zero) ∷ ‵ (fdies τ bs.0) ∷ Γ)

  -- the entries at those places with the one after each, and the context without them
  abbrev pub taken : List ℕ → List (Item 𝓤) → List (Item 𝓤)
  taken [] Γ = []
  taken (n ∷ ns) Γ = nth 𝓛 n Γ ∷ nth 𝓛 n (del 𝓛 n Γ) ∷ taken ns (del 𝓛 n (del 𝓛 n Γ))

  abbrev pub left : List ℕ → List (Item 𝓤) → List (Item 𝓤)
  left [] Γ = Γ
  left (n ∷ ns) Γ = left ns (del 𝓛 n (del 𝓛 n Γ))

  -- what is given back: empty, or as it is before
  abbrev pub emptied : Env 𝓤 H → List (Item 𝓤)
  emptied [] = []
  emptied (e ∷ E) = ‵ (froom e.0 e.1 zero) ∷ ‵ (fdies e.0 e.1) ∷ emptied E

  abbrev pub filled : (E : Env 𝓤 H) → Held 𝓤 H E → List (Item 𝓤)
  filled [] vs = []
  filled (e ∷ E) vs = ‵ (fat full_share e.0 e.1 zero vs.0) ∷ ‵ (fdies e.0 e.1) ∷ filled E vs.1

  module _ where
    out : (ns : List ℕ) (Γ : List (Item 𝓤)) → ent 𝓤 (⋆ 𝓛 Γ) (sep 𝓤 (⋆ 𝓛 (taken ns Γ)) (⋆ 𝓛 (left ns Γ)))
    out [] Γ = emp∗ 𝓤 (⋆ 𝓛 Γ)
    out (n ∷ ns) Γ =
        let i : Item 𝓤 = nth 𝓛 n Γ in
        let Δ : List (Item 𝓤) = del 𝓛 n Γ in
        let j : Item 𝓤 = nth 𝓛 n Δ in
        let Θ : List (Item 𝓤) = del 𝓛 n Δ in
        qed 𝓛 (raw (⋆ 𝓛 Γ) ∷ []) ∵ use1 𝓛 (i ⊛ raw (⋆ 𝓛 Δ)) (pull 𝓛 n Γ) $ split ! $
        move ! (1 ∷ []) $ use1 𝓛 (j ⊛ raw (⋆ 𝓛 Θ)) (pull 𝓛 n Δ) $ split ! $
        move ! (1 ∷ []) $ use1 𝓛 (raw (⋆ 𝓛 (taken ns Θ)) ⊛ raw (⋆ 𝓛 (left ns Θ))) (out ns Θ) $ split ! $
        -- [those that are taken after it; what is left; the right to free; the cell]
        move ! (2 ∷ 0 ∷ []) $ use2 𝓛 (raw (⋆ 𝓛 (j ∷ taken ns Θ))) (push 𝓛 j (taken ns Θ)) $
        move ! (2 ∷ 0 ∷ []) $ use2 𝓛 (raw (⋆ 𝓛 (i ∷ j ∷ taken ns Θ))) (push 𝓛 i (j ∷ taken ns Θ)) $ frame ! $ done !

    empties : (E : Env 𝓤 H) (vs : Held 𝓤 H E) → ent 𝓤 (⋆ 𝓛 (filled E vs)) (⋆ 𝓛 (emptied E))
    empties [] vs = id⊢ 𝓤 (emp 𝓤)
    empties (e ∷ E) vs =
        let i : Item 𝓤 = ‵ (fat full_share e.0 e.1 zero vs.0) in
        let r : Item 𝓤 = ‵ (froom e.0 e.1 zero) in
        let j : Item 𝓤 = ‵ (fdies e.0 e.1) in
        qed 𝓛 (raw (⋆ 𝓛 (i ∷ j ∷ filled E vs.1)) ∷ []) ∵ use1 𝓛 (i ⊛ raw (⋆ 𝓛 (j ∷ filled E vs.1))) (pop 𝓛 i (j ∷ filled E vs.1)) $ split ! $
        use1 𝓛 r (𝓛.laws.at_room e.0 e.1 zero vs.0) $ move ! (1 ∷ []) $ use1 𝓛 (j ⊛ raw (⋆ 𝓛 (filled E vs.1))) (pop 𝓛 j (filled E vs.1)) $ split ! $
        move ! (1 ∷ []) $ use1 𝓛 (raw (⋆ 𝓛 (emptied E))) (empties E vs.1) $ move ! (1 ∷ 0 ∷ []) $ use2 𝓛 (raw (⋆ 𝓛 (j ∷ emptied E))) (push 𝓛 j (emptied E)) $
        move ! (1 ∷ 0 ∷ []) $ by ! (push 𝓛 r (j ∷ emptied E))

    frees_all : (E : Env 𝓤 H) (P G : SProp 𝓤) → ent 𝓤 P G → ent 𝓤 (sep 𝓤 (⋆ 𝓛 (emptied E)) P) (release 𝓤 H E G)
    frees_all [] P G h = via 𝓤 P (snd∗ 𝓤 (emp 𝓤) P) h
    frees_all (e ∷ E) P G h =
        let r : Item 𝓤 = ‵ (froom e.0 e.1 zero) in
        let j : Item 𝓤 = ‵ (fdies e.0 e.1) in
        qed 𝓛 (raw (⋆ 𝓛 (r ∷ j ∷ emptied E)) ∷ raw P ∷ []) ∵ use1 𝓛 (r ⊛ raw (⋆ 𝓛 (j ∷ emptied E))) (pop 𝓛 r (j ∷ emptied E)) $ split ! $
        move ! (1 ∷ []) $ use1 𝓛 (j ⊛ raw (⋆ 𝓛 (emptied E))) (pop 𝓛 j (emptied E)) $ split ! $
        -- [the right to free; what else is given back; the room; the rest]
        move ! (2 ∷ 0 ∷ []) $ join ! $ frame ! $ by ! (frees_all E P G h)

module _ {M : Type 1} {𝓤 : Ura M} {𝓛 : Logic 𝓤} {K : Type 0} where
  open 𝓛 use {H}

  has_all : K → (ls : List Local) {Γ : List (Item 𝓤)} {Kt : Env 𝓤 H → Goal 𝓤 H} → ((bs : Blocks ls) → Seq K 𝓛 (roomy 𝓛 ls bs Γ) (Kt (placed 𝓤 H ls bs))) → Seq K 𝓛 Γ (allocs ls Kt)
  has_all t [] k = alloc0 t $ k tt
  has_all t (local τ h ∷ ls) k = alloc1 t (λ b. has_all t ls (λ bs. k (b, bs)))

module _ {M : Type 1} {𝓤 : Ura M} {𝓛 : Logic 𝓤} {K : Type 0} {Γ : List (Item 𝓤)} where
  -- the locals are there, and the arguments are next
  open 𝓛 use {H}

  pub enters : K → (C : Calls 𝓤 H) (Λ : Loops 𝓤 H) (f : Fn) (vs : List Val) {Kf : Val → SProp 𝓤}
      → ((bs : Blocks f.locals) → Seq K 𝓛 (roomy 𝓛 f.locals bs Γ) (params' (placed 𝓤 H f.locals bs) vs (runs C Λ (placed 𝓤 H f.locals bs) f.body (at_ret (placed 𝓤 H f.locals bs) Kf))))
      → Seq K 𝓛 Γ (prop (WpFn 𝓤 H C Λ f vs Kf))
  enters t C Λ f vs {Kf} k = enter t C Λ f vs Kf $ has_all t f.locals k

  module _ {E : Env 𝓤 H} {g : Goal 𝓤 H} where
    give-back : (ns : List ℕ) → ent 𝓤 (⋆ 𝓛 (taken 𝓛 ns Γ)) (⋆ 𝓛 (emptied 𝓛 E)) → Step K 𝓛 (left 𝓛 ns Γ) g Γ (frees E g)
    give-back ns h = step (λ s. record {
      prf = via 𝓤 (sep 𝓤 (⋆ 𝓛 (emptied 𝓛 E)) (⋆ 𝓛 (left 𝓛 ns Γ)))
          (via 𝓤 (sep 𝓤 (⋆ 𝓛 (taken 𝓛 ns Γ)) (⋆ 𝓛 (left 𝓛 ns Γ))) (out 𝓛 ns Γ) (mono_l 𝓤 (⋆ 𝓛 (left 𝓛 ns Γ)) h))
          (frees_all 𝓛 E (⋆ 𝓛 (left 𝓛 ns Γ)) (aim 𝓤 H g) s.prf);
    })

    -- the locals stand empty at ns, and are given back
    pub frees-at : K → (ns : List ℕ) → taken 𝓛 ns Γ ≡ emptied 𝓛 E → Step K 𝓛 (left 𝓛 ns Γ) g Γ (frees E g)
    frees-at t ns e = give-back ns (subst (λ (Δ : List (Item 𝓤)). ent 𝓤 (⋆ 𝓛 (taken 𝓛 ns Γ)) (⋆ 𝓛 Δ)) e (id⊢ 𝓤 (⋆ 𝓛 (taken 𝓛 ns Γ))))

  -- the result is read, and the locals, which stand at ns and hold vs, are given back
  pub leaves : K → {C : Calls 𝓤 H} {Λ : Loops 𝓤 H} {E : Env 𝓤 H} {Kf : Val → SProp 𝓤} {r : Val} → Reads K 𝓛 Γ (spot_of 𝓤 H E zero).0 (spot_of 𝓤 H E zero).1 zero r
      → (ns : List ℕ) (vs : Held 𝓤 H E) → taken 𝓛 ns Γ ≡ filled 𝓛 E vs → Step K 𝓛 (left 𝓛 ns Γ) (prop (Kf r)) Γ (runs C Λ E return (at_ret E Kf))
  leaves t {C} {Λ} {E} {Kf} {r} rd ns vs e = step (λ s. returns t rd $ give-back ns (subst (λ (Δ : List (Item 𝓤)). ent 𝓤 (⋆ 𝓛 Δ) (⋆ 𝓛 (emptied 𝓛 E))) (sym e) (empties 𝓛 E vs)) $ s)
