-- Two walks through one table, with visits, states and faults of their own: where the first runs to its end and the second answers it at each
-- field and set, the second runs to its end too and meets the same. Assumes nothing.
use mathlib.Core.Path.{◌≡◌, refl, sym, ap, ◌∙◌, subst}
use Prim.Native.Nat.{ℕ, zero, suc, ◌+◌, ◌<◌}
use native.Mathlib.Omega.{arith}
use mathlib.Core.Bool.{Bool, true, false}
use mathlib.Core.List.{List, [], ◌∷◌, ◌++◌, map, append-nil, append_assoc}
use lib.Dec.{leb}
use Rattle.std.specs.Prelude.{Some, None}
use Rattle.tables.specs.Table.{Table}
use Rattle.walking.specs.declared.Place.{Place}
use Rattle.walking.specs.declared.Place.TheVariants.{Starts, Inside, Plain}
use Rattle.walking.specs.Runs.{Run, ran, stopped, guard, after, and_then, times}
use Rattle.walking.specs.Walk.{One, hit, miss, lift, place_of, element_at, group_at, field_by_lem, field_at, walk_from, Element}
use Rattle.walking.proofs.Machine.{starts-one}
use Rattle.walking.proofs.Lawful.{Looks, plain, member}

-- ## A walk that ran

module _ {W S F : Type 0} where
  -- .. and was one and then another: both ran
  pub record Split (w : Run W S F) (k : S → Run W S F) (vs : List W) (z : S) : Type 0 where
    pub before : List W
    pub mid : S
    pub later : List W
    pub first : w ≡ ran before mid
    pub second : k mid ≡ ran later z
    pub all : vs ≡ before ++ later

  split_after : (us : List W) (w : Run W S F) (vs : List W) (z : S) → after us w ≡ ran vs z → (ws : List W) × (w ≡ ran ws z) × (vs ≡ us ++ ws)
  unfolding after
  split_after us (ran ws y) vs z e = let q : y ≡ z = cc in let r : us ++ ws ≡ vs = cc in (ws, ap (ran ws) q, sym r)
  split_after us (stopped ws f) vs z e = let y : ◌≡◌ {A = ℕ} 0 1 = cc in absurd (omega arith)

  pub split : (w : Run W S F) (k : S → Run W S F) (vs : List W) (z : S) → and_then w k ≡ ran vs z → Split w k vs z
  unfolding and_then
  split (ran us m) k vs z e =
      let h = split_after us (k m) vs z e in
      record { before = us; mid = m; later = h.0; first = refl; second = h.1; all = h.2 }
  split (stopped us f) k vs z e = let y : ◌≡◌ {A = ℕ} 0 1 = cc in absurd (omega arith)

  then_runs : (w : Run W S F) (k : S → Run W S F) (us vs : List W) (m z : S) → w ≡ ran us m → k m ≡ ran vs z → and_then w k ≡ ran (us ++ vs) z
  unfolding and_then after
  then_runs w k us vs m z e h = rw (e, h)

  pub guard-ran : (b : Bool) (f : F) (w : Run W S F) (vs : List W) (z : S) → guard b f w ≡ ran vs z → (b ≡ true) × (w ≡ ran vs z)
  unfolding guard
  guard-ran true f w vs z e = (refl, e)
  guard-ran false f w vs z e = let y : ◌≡◌ {A = ℕ} 0 1 = cc in absurd (omega arith)

  -- one field
  pub lift-ran : (o : One W S F) (vs : List W) (z : S) → lift o ≡ ran vs z → (v : W) × (o ≡ hit v z) × (vs ≡ v ∷ [])
  unfolding lift
  lift-ran (hit v y) vs z e = let q : y ≡ z = cc in let r : v ∷ [] ≡ vs = cc in (v, ap (hit v) q, sym r)
  lift-ran (miss f) vs z e = let y : ◌≡◌ {A = ℕ} 0 1 = cc in absurd (omega arith)

map-append : {W W' : Type 0} (to : W → W') (us vs : List W) → map to (us ++ vs) ≡ map to us ++ map to vs
map-append to [] vs = refl
map-append to (u ∷ us) vs = ap (λ (ws : List _). to u ∷ ws) (map-append to us vs)

-- ## Two walks

-- Q: what two states have to do with each other, and with the visits that the first walk still makes. The second walk met the same vs, and
-- ended in a state that answers z
pub record Follows {W S W' S' F' : Type 0} (to : W → W') (Q : S → S' → List W → Type 0) (w' : Run W' S' F') (vs : List W) (z : S) (rest : List W) : Type 0 where
  pub end : S'
  pub runs : w' ≡ ran (map to vs) end
  pub still : Q z end rest

module _ {W S F W' S' F' : Type 0} (to : W → W') (Q : S → S' → List W → Type 0) where
  -- where the first walk runs, from s, the second does, from s'
  abbrev Pairs : Run W S F → Run W' S' F' → S → S' → Type 0
  Pairs w w' s s' = (vs : List W) (z : S) (rest : List W) → w ≡ ran vs z → Q s s' (vs ++ rest) → Follows to Q w' vs z rest

  pairs-none : (s : S) (s' : S') → Pairs (ran [] s) (ran [] s') s s'
  pairs-none s s' vs z rest e q =
      let a : [] ≡ vs = cc in
      let b : s ≡ z = cc in
      record { end = s'; runs = rw (← a); still = subst (λ (x : S). Q x s' rest) b (rw (← a) at q) }

  pairs-then : (w : Run W S F) (w' : Run W' S' F') (k : S → Run W S F) (k' : S' → Run W' S' F') (s : S) (s' : S')
      → Pairs w w' s s' → ((m : S) (m' : S') → Pairs (k m) (k' m') m m') → Pairs (and_then w k) (and_then w' k') s s'
  pairs-then w w' k k' s s' p r vs z rest e q =
      let c = split w k vs z e in
      let a = p c.before c.mid (c.later ++ rest) c.first
      (subst (Q s s') (ap (λ (us : List W). us ++ rest) c.all ∙ append_assoc c.before c.later rest) q) in
      let b = r c.mid a.end c.later z rest c.second a.still in
      record {
        end = b.end;
        runs = then_runs w' k' _ _ a.end b.end a.runs b.runs ∙ ap (λ (us : List W'). ran us b.end) (sym (ap (map to) c.all ∙ map-append to c.before c.later));
        still = b.still;
      }

  pairs-times : (f : ℕ → S → Run W S F) (f' : ℕ → S' → Run W' S' F') (n i : ℕ)
      → ((j : ℕ) → j < i + n → (s : S) (s' : S') → Pairs (f j s) (f' j s') s s') → (s : S) (s' : S') → Pairs (times n i f s) (times n i f' s') s s'
  unfolding times
  pairs-times f f' zero i h s s' = pairs-none s s'
  pairs-times f f' (suc n) i h s s' =
      pairs-then (f i s) (f' i s') (times n (suc i) f) (times n (suc i) f') s s' (h i (omega arith) s s')
      (pairs-times f f' n (suc i) (λ j l. h j (omega arith)))

  module _ (t : Table)
      (one : ℕ → Element → Bool → S → One W S F) (count : ℕ → S → ℕ) (over : ℕ → ℕ → ℕ → F)
      (one' : ℕ → Element → Bool → S' → One W' S' F') (count' : ℕ → S' → ℕ) (over' : ℕ → ℕ → ℕ → F')
      (meets : (i : ℕ) (e : Element) (last : Bool) (s : S) (s' : S') (v : W) (z : S) (rest : List W) → Looks t t.count i e last
      → one i e last s ≡ hit v z → Q s s' (v ∷ rest) → (z' : S') × (one' i e last s' ≡ hit (to v) z') × Q z z' rest)
      (counts : (k : ℕ) (s : S) (s' : S') (vs : List W) (z : S) (rest : List W) → k < t.sets
      → times (count k s) 0 (element_at t one count over k) s ≡ ran vs z → Q s s' (vs ++ rest) → count' k s' ≡ count k s) where
    pairs-one : (i : ℕ) (e : Element) (last : Bool) → Looks t t.count i e last → (s : S) (s' : S') → Pairs (lift (one i e last s)) (lift (one' i e last s')) s s'
    unfolding lift
    pairs-one i e last l s s' vs z rest h q =
        let a = lift-ran (one i e last s) vs z h in
        let b = meets i e last s s' a.0 z rest l a.1 (rw a.2 at q) in
        record { end = b.0; runs = ap lift b.1 ∙ ap (λ (us : List W). ran (map to us) b.0) (sym a.2); still = b.2 }

    pairs-element : (k : ℕ) → k < t.sets → (e : ℕ) (s : S) (s' : S') → Pairs (element_at t one count over k e s) (element_at t one' count' over' k e s') s s'
    unfolding element_at
    pairs-element k l e s s' = pairs-times _ _ (t.set k).size 0 (λ j m z z'. pairs-one ((t.set k).start + j) (Some e) false (member k e j l (omega arith)) z z') s s'

    group-runs : (k : ℕ) (s' : S') (n : ℕ) (r : Run W' S' F') → count' k s' ≡ n → leb n (t.set k).maximum ≡ true
        → times n 0 (element_at t one' count' over' k) s' ≡ r → group_at t one' count' over' k s' ≡ r
    unfolding group_at guard
    group-runs k s' n r c g h = rw (c, g) h

    -- as many elements are no more than the maximum there either
    pairs-group : (k : ℕ) → k < t.sets → (s : S) (s' : S') → Pairs (group_at t one count over k s) (group_at t one' count' over' k s') s s'
    unfolding group_at
    pairs-group k l s s' vs z rest h q =
        let g = guard-ran (leb (count k s) (t.set k).maximum) _ _ vs z h in
        let c = counts k s s' vs z rest l g.1 q in
        let a = pairs-times _ _ (count k s) 0 (λ e m. pairs-element k l e) s s' vs z rest g.1 q in
        record { end = a.end; runs = group-runs k s' (count k s) _ c g.0 a.runs; still = a.still }

    pairs-by : (i : ℕ) (p : Place) → place_of t i ≡ p → i < t.count → (s : S) (s' : S') → Pairs (field_by_lem t one count over i p s) (field_by_lem t one' count' over' i p s') s s'
    unfolding field_by_lem
    pairs-by i (Starts k) e l s s' = pairs-group k (starts-one t i k e) s s'
    pairs-by i Inside e l s s' = pairs-none s s'
    pairs-by i Plain e l s s' = pairs-one i None _ (plain l) s s'

    -- a walk that ran, and the other
    pub runs-paired : (s z : S) (s' : S') (vs : List W) → walk_from t one count over s ≡ ran vs z → Q s s' vs → Follows to Q (walk_from t one' count' over' s') vs z []
    unfolding walk_from field_at
    runs-paired s z s' vs e q =
        pairs-times _ _ t.count 0 (λ i l x x'. pairs-by i (place_of t i) refl (omega arith) x x') s s' vs z [] e (rw (append-nil vs) q)
