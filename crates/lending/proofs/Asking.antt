-- A call, in a walk by hand, of a function that has values of plain data and answers another, which is all that its contract says: one step for all such
-- calls (`answers`), and the same for those that have one value (`asks`). It says nothing of any crate. Assumes `Logic`.
use mathlib.Core.Path.{◌≡◌, sym, ap, ◌∙◌, subst}
use mathlib.Core.List.{List, [], ◌∷◌}
use seplogic.Ra.Ura.{Ura}
use mir.Syntax.{Callee, Place, Opd as Operand, Body, seq, call}
use mir.Val.{Val}
use base.Logic.{ent, emp, snd∗, ex_e, id⊢}
use base.Fml.{ftrue}
use prog.Wp.{Env, Calls, Loops}
use types.Logic.{Logic, sem}
use contract.Monad.{fact}
use types.Kit.{Item, Go, Post, Sq, runs, lands, ‵, raw, ◌⊛◌, some, later, ◌$◌, ◌∵◌, !, qed, move, drop, use0, use1, split, join, pick, await, frame, fjoin, done}
use types.Run.{Opds}
use sound.WpLaws.{FmC}
use denote.RattleType.{RattleType, Denots, Valss, owns, flat}
use denote.Laws.{Is, Makes, Tells, shows}
use denote.Exit.{yes}
use denote.Signature.{Slot, plain, types_at}
use denote.Steps.{only, owned, peeks, heard, nothing}
use denote.Triple.Statement.{Contract, Triple}
use denote.Triple.Call.{calls_at}
use denote.Triple.End.{Kepts}
use denote.Triple.Spec.{triple_of}
use denote.Triple.Clauses.{Ended, Clauses, ensured, closing, lasts}

-- one such function: what it is passed, and what it answers
pub record Answers : Type 2 where
  pub params : List (Slot 0)
  pub kept : Kepts params
  pub X : RattleType
  pub low : X.Denot → Val
  pub tells : Tells X (Is X) (λ r. low r ∷ [])
  pub answer : Denots (types_at params tt) → X.Denot
  pub #name : Callee

module _ (F : Answers) where
  abbrev pub answers-ended : Ended
  answers-ended = record { signature = record { lifetimes = 0; outlives = []; params = F.params; result = plain (λ κs. F.X) }; kept = F.kept }

  abbrev pub answers-clauses : {M : Type 1} (𝓤 : Ura M) → Clauses 𝓤 answers-ended
  answers-clauses 𝓤 κs a = record { ghost = Unit {0}; requires = λ _. emp 𝓤; ensures = λ _ r e. fact 𝓤 (r ≡ F.answer a) }

  -- its contract
  abbrev pub Answered : {M : Type 1} {𝓤 : Ura M} (𝓛 : Logic 𝓤) → Contract 𝓤
  Answered {𝓤 = 𝓤} 𝓛 = triple_of 𝓛 answers-ended.signature (closing 𝓛 answers-ended (answers-clauses 𝓤))

  -- it is passed a, with the machine values vss. Plain data owns nothing that is not had from nothing
  module _ {M : Type 1} {𝓤 : Ura M} (𝓛 : Logic 𝓤) (a : Denots (types_at F.params tt)) (vss : Valss (types_at F.params tt)) where
    open 𝓛 use {H}

    abbrev pub passing : (Answered 𝓛).Ghost
    passing = ((tt, tt, tt, a, vss), tt)

    goes : ent 𝓤 (emp 𝓤) (sem 𝓛 (owns (types_at F.params tt) a vss)) → ent 𝓤 (emp 𝓤) ((Answered 𝓛).pre passing)
    goes had = qed 𝓛 [] ∵ use0 𝓛 (‵ (owns (types_at F.params tt) a vss)) had $ nothing ! $ join ! $ frame ! $ done !

    said : (r : F.X.Denot) → ent 𝓤 (ensured 𝓛 answers-ended (answers-clauses 𝓤) tt a tt r) (fact 𝓤 (r ≡ F.answer a))
    said r = ex_e 𝓤 _ (λ ws. snd∗ 𝓤 (sem 𝓛 (lasts answers-ended tt a ws)) (fact 𝓤 (r ≡ F.answer a)))

    -- the call: its answer is stored, and the rest runs
    pub answers : {Γ : List (Item 𝓤)} {E : Env 𝓤 H} {C : Calls 𝓤 H} {Λ : Loops 𝓤 H} {xs : List Operand} {d : Place} {rest : Body} {q : Post 𝓤 H}
        → ent 𝓤 (emp 𝓤) (sem 𝓛 (owns (types_at F.params tt) a vss)) → FmC 𝓤 H 𝓛.laws C → Triple 𝓤 (C F.#name) (Answered 𝓛) → Opds (Go {0}) 𝓛 (raw ((Answered 𝓛).pre passing) ∷ Γ) E xs (flat (types_at F.params tt) vss)
        → (Is F.X (F.answer a) (F.low (F.answer a) ∷ []) → Sq 𝓛 Γ (lands C Λ E d (F.low (F.answer a)) rest q))
        → Sq 𝓛 Γ (runs C Λ E (seq (call F.#name xs d) rest) q)
    answers {Γ} {E} {C} {Λ} {xs} {d} {rest} {q} had fm known os k =
        use0 𝓛 (raw ((Answered 𝓛).pre passing)) (goes had) $ calls_at ! fm (Answered 𝓛) known passing os (λ u.
        use1 𝓛 (later (some (λ (r : F.X.Denot). (‵ ftrue ⊛ ‵ (F.X.own_val r (u ∷ []))) ⊛ raw (ensured 𝓛 answers-ended (answers-clauses 𝓤) tt a tt r)))) (id⊢ 𝓤 _) $ await ! tt $ pick ! (λ r.
        split ! $ move ! (1 ∷ []) $ use1 𝓛 (raw (fact 𝓤 (r ≡ F.answer a))) (said r) $ heard ! (r ≡ F.answer a) (λ e. split ! $ drop ! $
        peeks ! F.X (Is F.X) (shows 𝓛 F.X) r (u ∷ []) (λ is. drop ! $
        let spelt : u ≡ F.low (F.answer a) = ap only (F.tells r (u ∷ []) is) ∙ ap F.low e in
        subst (λ (v : Val). Sq 𝓛 Γ (lands C Λ E d v rest q)) (sym spelt)
        (k (subst (λ (v : Val). Is F.X (F.answer a) (v ∷ [])) spelt (subst (λ (s : F.X.Denot). Is F.X s (u ∷ [])) e is)))))))

-- one that is passed one value
pub record Asks : Type 2 where
  -- the value, and its machine value
  pub S : RattleType
  pub low-s : S.Denot → Val
  pub makes-s : {M : Type 1} {𝓤 : Ura M} (𝓛 : Logic 𝓤) → Makes 𝓛 S (Is S)
  -- what it answers
  pub X : RattleType
  pub low : X.Denot → Val
  pub tells : Tells X (Is X) (λ r. low r ∷ [])
  pub answers : S.Denot → X.Denot
  pub #name : Callee

module _ (F : Asks) where
  abbrev one : Answers
  one = record { params = plain (λ κs. F.S) ∷ []; kept = (yes, tt); X = F.X; low = F.low; tells = F.tells; answer = λ a. F.answers a.0; #name = F.#name }

  abbrev pub Asked : {M : Type 1} {𝓤 : Ura M} (𝓛 : Logic 𝓤) → Contract 𝓤
  Asked = Answered one

  module _ {M : Type 1} {𝓤 : Ura M} (𝓛 : Logic 𝓤) (c : F.S.Denot) (ok : Is F.S c (F.low-s c ∷ [])) where
    open 𝓛 use {H}

    abbrev pub to : (Asked 𝓛).Ghost
    to = passing one 𝓛 (c, tt) (F.low-s c ∷ [], tt)

    had-one : ent 𝓤 (emp 𝓤) (sem 𝓛 (owns (F.S ∷ []) (c, tt) (F.low-s c ∷ [], tt)))
    had-one = qed 𝓛 [] ∵ nothing ! $ owned ! F.S (Is F.S) (F.makes-s 𝓛) c _ ok $ fjoin ! $ done !

    pub asks : {Γ : List (Item 𝓤)} {E : Env 𝓤 H} {C : Calls 𝓤 H} {Λ : Loops 𝓤 H} {xs : List Operand} {d : Place} {rest : Body} {q : Post 𝓤 H}
        → FmC 𝓤 H 𝓛.laws C → Triple 𝓤 (C F.#name) (Asked 𝓛) → Opds (Go {0}) 𝓛 (raw ((Asked 𝓛).pre to) ∷ Γ) E xs (F.low-s c ∷ [])
        → (Is F.X (F.answers c) (F.low (F.answers c) ∷ []) → Sq 𝓛 Γ (lands C Λ E d (F.low (F.answers c)) rest q))
        → Sq 𝓛 Γ (runs C Λ E (seq (call F.#name xs d) rest) q)
    asks = answers one 𝓛 (c, tt) (F.low-s c ∷ [], tt) had-one
