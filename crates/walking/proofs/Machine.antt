-- The walk by single turns comes to what the walk is, and why it ends. Assumes nothing.
use mathlib.Core.Path.{◌≡◌, refl, sym, ap, ◌∙◌}
use Prim.Native.Nat.{ℕ, zero, suc, ◌+◌, ◌-◌, ◌*◌, ◌≤◌, ◌<◌}
use native.Mathlib.Omega.{arith}
use mathlib.Core.Bool.{Bool, true, false}
use mathlib.Core.List.{List, [], ◌∷◌, ◌++◌}
use lib.Dec.{eqb, ltb}
use borrow.Author.Tests.{ltb-true, ltb-false, leb-true, eqb-true}
use Rattle.std.specs.Prelude.{Some, None}
use Rattle.bits.specs.Bits.{pick}
use Rattle.tables.specs.Table.{Table}
use Rattle.tables.specs.Rules.{in_sets_lem}
use Rattle.walking.specs.declared.Place.{Place}
use Rattle.walking.specs.declared.Place.TheVariants.{Starts, Inside, Plain}
use Rattle.walking.specs.declared.Spot.{Spot}
use Rattle.walking.specs.declared.Spot.TheVariants.{Field, Within}
use Rattle.walking.specs.Runs.{Run, ran, stopped, guard, after, and_then, times}
use Rattle.walking.specs.Walk.{One, hit, miss, lift, place_from, place_of, element_at, group_at, field_by_lem, field_at, walk_from, Element}
use Rattle.walking.specs.Turns.{Turn, moved, met, ended, broke, either, seen, turn_by, turn_within, turn}
use Rattle.walking.proofs.Runs.{after-after, after-nil, then-then, then-ran, times_more, times_none, times-all}

-- a set that starts at field i has its start there
starts_from : (t : Table) (i k n m : ℕ) → place_from t i k n ≡ Starts m → (t.set m).start ≡ i
unfolding place_from
starts_from t i k zero m e = go (in_sets_lem t i t.sets) e
  where
    go : (b : Bool) → pick b Inside Plain ≡ Starts m → (t.set m).start ≡ i
    go true p = cc
    go false p = cc
starts_from t i k (suc n) m e = go (eqb (t.set k).start i) refl e (λ p. starts_from t i (suc k) n m p)
  where
    go : (b : Bool) → eqb (t.set k).start i ≡ b → pick b (Starts k) (place_from t i (suc k) n) ≡ Starts m
        → (place_from t i (suc k) n ≡ Starts m → (t.set m).start ≡ i) → (t.set m).start ≡ i
    go true q p later = let z : k ≡ m = cc in rw (← z) (eqb-true _ _ q)
    go false q p later = later p

-- and it is one of the table's
found_from : (t : Table) (i k n m : ℕ) → place_from t i k n ≡ Starts m → m < k + n
unfolding place_from
found_from t i k zero m e = go (in_sets_lem t i t.sets) e
  where
    go : (b : Bool) → pick b Inside Plain ≡ Starts m → m < k + 0
    go true p = let z : ◌≡◌ {A = ℕ} 0 1 = cc in absurd (omega arith)
    go false p = let z : ◌≡◌ {A = ℕ} 0 1 = cc in absurd (omega arith)
found_from t i k (suc n) m e = go (eqb (t.set k).start i) e (λ p. found_from t i (suc k) n m p)
  where
    go : (b : Bool) → pick b (Starts k) (place_from t i (suc k) n) ≡ Starts m → (place_from t i (suc k) n ≡ Starts m → m < suc k + n) → m < k + suc n
    go true p later = let z : k ≡ m = cc in omega (arith, z)
    go false p later = let l = later p in omega (arith, l)

pub starts-one : (t : Table) (i m : ℕ) → place_of t i ≡ Starts m → m < t.sets
starts-one t i m e = let l = found_from t i 0 t.sets m e in omega (arith, l)

pub starts-at : (t : Table) (i m : ℕ) → place_of t i ≡ Starts m → (t.set m).start ≡ i
starts-at t i m e = starts_from t i 0 t.sets m e

module _ (t : Table) {W S F : Type 0} (one : ℕ → Element → Bool → S → One W S F) (count : ℕ → S → ℕ) (over : ℕ → ℕ → ℕ → F) where
  -- what is left of the walk
  unfoldable pub fields_from : ℕ → S → Run W S F
  fields_from i s = times (t.count - i) i (field_at t one count over) s

  unfoldable pub elements_from : ℕ → ℕ → ℕ → S → Run W S F
  elements_from k n e s = times (n - e) e (element_at t one count over k) s

  unfoldable pub members_from : ℕ → ℕ → ℕ → S → Run W S F
  members_from k e j s = times ((t.set k).size - j) j (λ j z. lift (one ((t.set k).start + j) (Some e) false z)) s

  unfoldable pub rest_within : Bool → ℕ → ℕ → ℕ → ℕ → S → Run W S F
  rest_within true k n e j s = and_then (and_then (members_from k e j s) (elements_from k n (suc e))) (fields_from ((t.set k).start + 1))
  rest_within false k n e j s = fields_from ((t.set k).start + 1) s

  unfoldable pub rest : Spot → S → Run W S F
  rest (Field i) s = fields_from i s
  rest (Within k n e j) s = rest_within (ltb e n) k n e j s

  unfoldable pub follow : Turn W S F → Run W S F
  follow (moved p s) = rest p s
  follow (met v p s) = after (v ∷ []) (rest p s)
  follow (ended s) = ran [] s
  follow (broke f s) = stopped [] f

  follow-either : (b : Bool) (x y : Turn W S F) (w : Run W S F) → (b ≡ true → w ≡ follow x) → (b ≡ false → w ≡ follow y) → w ≡ follow (either b x y)
  unfolding either
  follow-either true x y w h k = h refl
  follow-either false x y w h k = k refl

  guard-follow : (b : Bool) (f : F) (s : S) (w : Run W S F) (x : Turn W S F) (k : S → Run W S F) → and_then w k ≡ follow x → and_then (guard b f w) k ≡ follow (either b x (broke f s))
  unfolding guard either and_then follow
  guard-follow true f s w x k h = h
  guard-follow false f s w x k h = refl

  seen-law : (p : Spot) (z : S) (k : S → Run W S F) → ((s : S) → k s ≡ rest p s) → (o : One W S F) → and_then (lift o) k ≡ follow (seen p z o)
  unfolding lift seen and_then follow
  seen-law p z k h (hit v s) = ap (after (v ∷ [])) (h s)
  seen-law p z k h (miss f) = refl

  within-true : (k n e j : ℕ) (s : S) → ltb e n ≡ true → rest (Within k n e j) s ≡ and_then (and_then (members_from k e j s) (elements_from k n (suc e))) (fields_from ((t.set k).start + 1))
  unfolding rest rest_within
  within-true k n e j s q = rw q

  within-false : (k n e j : ℕ) (s : S) → ltb e n ≡ false → rest (Within k n e j) s ≡ fields_from ((t.set k).start + 1) s
  unfolding rest rest_within
  within-false k n e j s q = rw q

  -- the elements from e on, as what is left before element e
  enters : (k n e : ℕ) (s : S) → and_then (elements_from k n e s) (fields_from ((t.set k).start + 1)) ≡ rest (Within k n e 0) s
  unfolding elements_from element_at members_from
  enters k n e s = go (ltb e n) refl
    where
      go : (b : Bool) → ltb e n ≡ b → and_then (elements_from k n e s) (fields_from ((t.set k).start + 1)) ≡ rest (Within k n e 0) s
      go true q =
          ap (λ w. and_then w (fields_from ((t.set k).start + 1))) (times_more n e _ s (ltb-true _ _ q) ∙ ap (λ w. and_then w (elements_from k n (suc e))) (times-all (t.set k).size _ s))
          ∙ sym (within-true k n e 0 s q)
      go false q = ap (λ w. and_then w (fields_from ((t.set k).start + 1))) (times_none n e _ s (ltb-false _ _ q)) ∙ then-ran s _ ∙ sym (within-false k n e 0 s q)

  enters-all : (k n : ℕ) (s : S) → and_then (times n 0 (element_at t one count over k) s) (fields_from ((t.set k).start + 1)) ≡ rest (Within k n 0 0) s
  unfolding elements_from
  enters-all k n s = ap (λ w. and_then w (fields_from ((t.set k).start + 1))) (times-all n _ s) ∙ enters k n 0 s

  fields-rest : (i : ℕ) (s : S) → fields_from i s ≡ rest (Field i) s
  unfolding rest
  fields-rest i s = refl

  by-law : (i : ℕ) (p : Place) (s : S) → place_of t i ≡ p → and_then (field_by_lem t one count over i p s) (fields_from (i + 1)) ≡ follow (turn_by t one count over i p s)
  unfolding field_by_lem turn_by group_at follow
  by-law i (Starts k) s q =
      guard-follow _ _ _ _ _ _ (ap (λ (x : ℕ). and_then (times (count k s) 0 (element_at t one count over k) s) (fields_from (x + 1))) (sym (starts-at t i k q))
      ∙ enters-all k (count k s) s)
  by-law i Inside s q = then-ran s _ ∙ fields-rest (i + 1) s
  by-law i Plain s q = seen-law (Field (i + 1)) s _ (λ z. fields-rest (i + 1) z) _

  plus_one : (i : ℕ) → fields_from (suc i) ≡ fields_from (i + 1)
  plus_one i = let z : suc i ≡ i + 1 = omega arith in ap fields_from z

  first_field : (i : ℕ) (s : S) → ltb i t.count ≡ true → fields_from i s ≡ follow (turn_by t one count over i (place_of t i) s)
  unfolding fields_from field_at
  first_field i s l =
      times_more _ i _ s (ltb-true _ _ l) ∙ ap (and_then (field_by_lem t one count over i (place_of t i) s)) (plus_one i) ∙ by-law i (place_of t i) s refl

  no_field : (i : ℕ) (s : S) → ltb i t.count ≡ false → fields_from i s ≡ follow (ended s)
  unfolding fields_from follow
  no_field i s l = times_none _ i _ s (ltb-false _ _ l)

  -- at a field of an element: that field, and then the rest
  one-member : (k n e j : ℕ) (s : S) → ltb e n ≡ true → ltb j (t.set k).size ≡ true
      → rest (Within k n e j) s ≡ follow (seen (Within k n e (j + 1)) s (one ((t.set k).start + j) (Some e) false s))
  unfolding members_from
  one-member k n e j s q l =
      within-true k n e j s q
      ∙ ap (λ w. and_then (and_then w (elements_from k n (suc e))) (fields_from ((t.set k).start + 1))) (times_more (t.set k).size j _ s (ltb-true _ _ l))
      ∙ ap (λ w. and_then w (fields_from ((t.set k).start + 1))) (then-then _ _ _) ∙ then-then _ _ _
      ∙ seen-law (Within k n e (j + 1)) s _ (λ z. let y : suc j ≡ j + 1 = omega arith in rw y (sym (within-true k n e (j + 1) z q))) _

  -- past the last field of an element: the next one
  no_member : (k n e j : ℕ) (s : S) → ltb e n ≡ true → ltb j (t.set k).size ≡ false → rest (Within k n e j) s ≡ rest (Within k n (e + 1) 0) s
  unfolding members_from
  no_member k n e j s q l =
      within-true k n e j s q
      ∙ ap (λ w. and_then (and_then w (elements_from k n (suc e))) (fields_from ((t.set k).start + 1))) (times_none (t.set k).size j _ s (ltb-false _ _ l))
      ∙ ap (λ w. and_then w (fields_from ((t.set k).start + 1))) (then-ran s _)
      ∙ enters k n (suc e) s
      ∙ (let y : suc e ≡ e + 1 = omega arith in rw y)

  -- one turn does not change what the walk comes to
  pub turn-law : (p : Spot) (s : S) → rest p s ≡ follow (turn t one count over p s)
  unfolding turn turn_within follow
  turn-law (Field i) s = sym (fields-rest i s) ∙ follow-either _ _ _ _ (first_field i s) (no_field i s)
  turn-law (Within k n e j) s = follow-either _ _ _ _
      (λ q. follow-either _ _ _ _ (λ l. one-member k n e j s q l) (λ l. no_member k n e j s q l))
      (λ q. within-false k n e j s q ∙ fields-rest _ s)

  -- what a loop over turns knows: the walk is what was met so far, and then the rest
  abbrev pub Stands : S → List W → Spot → S → Type 0
  Stands s₀ done p s = walk_from t one count over s₀ ≡ after done (rest p s)

  pub stands-begin : (s : S) → Stands s [] (Field 0) s
  unfolding walk_from rest fields_from
  stands-begin s = times-all _ _ _ ∙ sym (after-nil _)

  pub stands-moved : (s₀ : S) (done : List W) (p q : Spot) (s z : S) → Stands s₀ done p s → turn t one count over p s ≡ moved q z → Stands s₀ done q z
  unfolding follow
  stands-moved s₀ done p q s z h e = h ∙ ap (after done) (turn-law p s ∙ ap follow e)

  pub stands-met : (s₀ : S) (done : List W) (p q : Spot) (v : W) (s z : S) → Stands s₀ done p s → turn t one count over p s ≡ met v q z → Stands s₀ (done ++ v ∷ []) q z
  unfolding follow
  stands-met s₀ done p q v s z h e = h ∙ ap (after done) (turn-law p s ∙ ap follow e) ∙ after-after done (v ∷ []) (rest q z)

  pub stands-ended : (s₀ : S) (done : List W) (p : Spot) (s z : S) → Stands s₀ done p s → turn t one count over p s ≡ ended z → walk_from t one count over s₀ ≡ ran (done ++ []) z
  unfolding follow after
  stands-ended s₀ done p s z h e = h ∙ ap (after done) (turn-law p s ∙ ap follow e)

  pub stands-broke : (s₀ : S) (done : List W) (p : Spot) (s z : S) (f : F) → Stands s₀ done p s → turn t one count over p s ≡ broke f z → walk_from t one count over s₀ ≡ stopped (done ++ []) f
  unfolding follow after
  stands-broke s₀ done p s z f h e = h ∙ ap (after done) (turn-law p s ∙ ap follow e)

  -- ## Why it ends

  unfoldable pub weight : Spot → ℕ
  weight (Field i) = (t.count - i) * 20000
  weight (Within k n e j) = (t.count - ((t.set k).start + 1)) * 20000 + (n - e) * 70 + (65 - j)

  -- sets of at most 64 fields and 255 elements: what rules a and g say
  abbrev pub Small : Type 0
  Small = (i k : ℕ) → place_of t i ≡ Starts k → ((t.set k).size ≤ 64) × ((t.set k).maximum ≤ 255)

  abbrev pub Bounded : Spot → Type 0
  Bounded (Field i) = Unit {0}
  Bounded (Within k n e j) = ((t.set k).size ≤ 64) × (j ≤ 64)

  -- a turn that goes on goes to a bounded spot of less weight
  pub data Falls (w : ℕ) : Turn W S F → Type 0 where
    falls-moved : {p : Spot} {s : S} → Bounded p → weight p < w → Falls w (moved p s)
    falls-met : {v : W} {p : Spot} {s : S} → Bounded p → weight p < w → Falls w (met v p s)
    falls-ended : {s : S} → Falls w (ended s)
    falls-broke : {f : F} {s : S} → Falls w (broke f s)

  pub moved-falls : {w : ℕ} {p : Spot} {s : S} → Falls w (moved p s) → Bounded p × (weight p < w)
  moved-falls (falls-moved b l) = (b, l)

  pub met-falls : {w : ℕ} {v : W} {p : Spot} {s : S} → Falls w (met v p s) → Bounded p × (weight p < w)
  met-falls (falls-met b l) = (b, l)

  falls-either : (w : ℕ) (b : Bool) (x y : Turn W S F) → (b ≡ true → Falls w x) → (b ≡ false → Falls w y) → Falls w (either b x y)
  unfolding either
  falls-either w true x y h k = h refl
  falls-either w false x y h k = k refl

  falls-seen : (w : ℕ) (p : Spot) (s : S) (o : One W S F) → Bounded p → weight p < w → Falls w (seen p s o)
  unfolding seen
  falls-seen w p s (hit v z) h l = falls-met h l
  falls-seen w p s (miss f) h l = falls-broke

  falls-by : Small → (i : ℕ) (p : Place) (s : S) → place_of t i ≡ p → i < t.count → Falls (weight (Field i)) (turn_by t one count over i p s)
  unfolding turn_by weight
  falls-by small i (Starts k) s e l = falls-either _ _ _ _
      (λ b. let m = small i k e in let c = leb-true (count k s) (t.set k).maximum b in
      let z = starts-at t i k e in falls-moved {p = Within k (count k s) 0 0} (m.0, omega arith) (omega (arith, m.1)))
      (λ b. falls-broke)
  falls-by small i Inside s e l = falls-moved {p = Field (i + 1)} tt (omega arith)
  falls-by small i Plain s e l = falls-seen _ (Field (i + 1)) s _ tt (omega arith)

  pub falls : Small → (p : Spot) (s : S) → Bounded p → Falls (weight p) (turn t one count over p s)
  unfolding turn turn_within weight
  falls small (Field i) s h = falls-either _ _ _ _ (λ b. falls-by small i (place_of t i) s refl (ltb-true _ _ b)) (λ b. falls-ended)
  falls small (Within k n e j) s h = falls-either _ _ _ _
      (λ q. let m = ltb-true e n q in falls-either _ _ _ _
      (λ l. let u = ltb-true j (t.set k).size l in falls-seen _ (Within k n e (j + 1)) s _ (h.0, omega (arith, h.0)) (omega (arith, h.0)))
      (λ l. falls-moved {p = Within k n (e + 1) 0} (h.0, omega arith) (omega (arith, h.1))))
      (λ q. falls-moved {p = Field ((t.set k).start + 1)} tt (omega (arith, h.1)))

  -- ## What was met was met at a field, and nothing else changes the state

  module _ (R : S → W → S → Type 0) (law : (i : ℕ) (e : Element) (last : Bool) (s : S) (v : W) (z : S) → one i e last s ≡ hit v z → R s v z) where
    pub data Meets (s : S) : Turn W S F → Type 0 where
      meets-moved : {p : Spot} → Meets s (moved p s)
      meets-met : {v : W} {p : Spot} {z : S} → R s v z → Meets s (met v p z)
      meets-ended : Meets s (ended s)
      meets-broke : {f : F} → Meets s (broke f s)

    meets-either : (s : S) (b : Bool) (x y : Turn W S F) → Meets s x → Meets s y → Meets s (either b x y)
    unfolding either
    meets-either s true x y h k = h
    meets-either s false x y h k = k

    meets-seen : (p : Spot) (s : S) (i : ℕ) (e : Element) (last : Bool) (o : One W S F) → one i e last s ≡ o → Meets s (seen p s o)
    unfolding seen
    meets-seen p s i e last (hit v z) h = meets-met (law i e last s v z h)
    meets-seen p s i e last (miss f) h = meets-broke

    meets-by : (i : ℕ) (p : Place) (s : S) → Meets s (turn_by t one count over i p s)
    unfolding turn_by
    meets-by i (Starts k) s = meets-either s _ _ _ meets-moved meets-broke
    meets-by i Inside s = meets-moved
    meets-by i Plain s = meets-seen (Field (i + 1)) s i None _ _ refl

    pub meets : (p : Spot) (s : S) → Meets s (turn t one count over p s)
    unfolding turn turn_within
    meets (Field i) s = meets-either s _ _ _ (meets-by i (place_of t i) s) meets-ended
    meets (Within k n e j) s =
        meets-either s _ _ _ (meets-either s _ _ _ (meets-seen (Within k n e (j + 1)) s ((t.set k).start + j) (Some e) false _ refl) meets-moved) meets-moved

    pub met-law : (s : S) {v : W} {p : Spot} {z : S} → Meets s (met v p z) → R s v z
    met-law s (meets-met h) = h

    pub moved-law : (s : S) {p : Spot} {z : S} → Meets s (moved p z) → s ≡ z
    moved-law s meets-moved = refl

    pub ended-law : (s : S) {z : S} → Meets s (ended z) → s ≡ z
    ended-law s meets-ended = refl

    pub broke-law : (s : S) {f : F} {z : S} → Meets s (broke f z) → s ≡ z
    broke-law s meets-broke = refl
