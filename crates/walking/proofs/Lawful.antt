-- A law of each field is a law of the walk, up to its end or to its fault; and a table's last field, outside a set, is met last.
-- Assumes nothing.
use mathlib.Core.Path.{◌≡◌, refl, sym, ap, ◌∙◌, subst}
use mathlib.Core.Logic.{inr}
use Prim.Native.Nat.{ℕ, zero, suc, ◌+◌, ◌<◌}
use native.Mathlib.Nat.{zero-add}
use native.Mathlib.Omega.{arith}
use mathlib.Core.Bool.{Bool, true, false}
use mathlib.Core.List.{List, [], ◌∷◌, ◌++◌}
use lib.Dec.{eqb}
use borrow.Author.Tests.{ne_eqb}
use Rattle.std.specs.Prelude.{Some, None}
use Rattle.tables.specs.Table.{Table}
use Rattle.walking.specs.declared.Place.{Place}
use Rattle.walking.specs.declared.Place.TheVariants.{Starts, Inside, Plain}
use Rattle.walking.specs.Runs.{Run, ran, stopped, guard, after, and_then, times}
use Rattle.walking.specs.Walk.{One, hit, miss, lift, place_of, element_at, group_at, field_by_lem, field_at, walk_from, Element}
use Rattle.walking.proofs.Runs.{times-last}
use Rattle.walking.proofs.Visits.{All, all_append, Ending, ending-all, ending-append}
use Rattle.walking.proofs.Machine.{starts-one}

-- where a walk looks on its way to field n: field i, of element e, as `one i e last`
pub data Looks (t : Table) (n : ℕ) : ℕ → Element → Bool → Type 0 where
  plain : {i : ℕ} → i < n → Looks t n i None (eqb (i + 1) t.count)
  member : (k e j : ℕ) → k < t.sets → j < (t.set k).size → Looks t n ((t.set k).start + j) (Some e) false

-- R: what was met from a state to another. Stop: what a state says of the fault met there
pub data Lawful {W S F : Type 0} (R : S → List W → S → Type 0) (Stop : S → F → Type 0) (s : S) : Run W S F → Type 0 where
  runs : {vs : List W} {z : S} → R s vs z → Lawful R Stop s (ran vs z)
  stops : {vs : List W} {z : S} {f : F} → R s vs z → Stop z f → Lawful R Stop s (stopped vs f)

module _ {W S F : Type 0} {R : S → List W → S → Type 0} {Stop : S → F → Type 0} where
  pub lawful-ran : {s z : S} {vs : List W} → Lawful R Stop s (ran vs z) → R s vs z
  lawful-ran (runs a) = a

  pub lawful-stopped : {s : S} {f : F} {vs : List W} → Lawful R Stop s (stopped vs f) → (z : S) × R s vs z × Stop z f
  lawful-stopped (stops {z = z} a b) = (z, a, b)

-- P of each that was met and that another follows; of each, where the walk stopped
pub data Ends {W S F : Type 0} (P : W → Type 0) : Run W S F → Type 0 where
  ends-ran : {vs : List W} {z : S} → Ending P vs → Ends P (ran vs z)
  ends-stopped : {vs : List W} {f : F} → All P vs → Ends P (stopped vs f)

module _ {W S F : Type 0} {P : W → Type 0} where
  pub ran_ends : {vs : List W} {z : S} → Ends {F = F} P (ran vs z) → Ending P vs
  ran_ends (ends-ran h) = h

  pub stopped-ends : {vs : List W} {f : F} → Ends {S = S} P (stopped vs f) → All P vs
  stopped-ends (ends-stopped h) = h

module _ (t : Table) {W S F : Type 0} (one : ℕ → Element → Bool → S → One W S F) (count : ℕ → S → ℕ) (over : ℕ → ℕ → ℕ → F) where
  -- what holds of each field ..
  module _ (n : ℕ) (R : S → List W → S → Type 0) (Stop : S → F → Type 0)
      (none : (s : S) → R s [] s) (both : (s m z : S) (us ws : List W) → R s us m → R m ws z → R s (us ++ ws) z)
      (meets : (i : ℕ) (e : Element) (last : Bool) (s : S) (v : W) (z : S) → Looks t n i e last → one i e last s ≡ hit v z → R s (v ∷ []) z)
      (faults : (i : ℕ) (e : Element) (last : Bool) (s : S) (f : F) → Looks t n i e last → one i e last s ≡ miss f → Stop s f)
      (exceeds : (k : ℕ) (s : S) → Stop s (over k (count k s) (t.set k).maximum)) where
    abbrev Keeps : S → Run W S F → Type 0
    Keeps s w = Lawful R Stop s w

    lawful-after : (s m : S) (us : List W) (w : Run W S F) → R s us m → Keeps m w → Keeps s (after us w)
    unfolding after
    lawful-after s m us (ran ws z) a (runs b) = runs (both s m z us ws a b)
    lawful-after s m us (stopped ws f) a (stops {z = z} b c) = stops (both s m z us ws a b) c

    lawful_then : (s : S) (w : Run W S F) (k : S → Run W S F) → Keeps s w → ((m : S) → Keeps m (k m)) → Keeps s (and_then w k)
    unfolding and_then
    lawful_then s (ran us m) k (runs a) l = lawful-after s m us (k m) a (l m)
    lawful_then s (stopped us f) k h l = h

    lawful-times : (f : ℕ → S → Run W S F) (m i : ℕ) → ((j : ℕ) → j < i + m → (s : S) → Keeps s (f j s)) → (s : S) → Keeps s (times m i f s)
    unfolding times
    lawful-times f zero i h s = runs (none s)
    lawful-times f (suc m) i h s = lawful_then s (f i s) (times m (suc i) f) (h i (omega arith) s) (lawful-times f m (suc i) (λ j l. h j (omega arith)))

    lawful-one : (i : ℕ) (e : Element) (last : Bool) → Looks t n i e last → (s : S) → Keeps s (lift (one i e last s))
    unfolding lift
    lawful-one i e last h s = go (one i e last s) refl
      where
        go : (o : One W S F) → one i e last s ≡ o → Keeps s (lift o)
        go (hit v z) q = runs (meets i e last s v z h q)
        go (miss f) q = stops (none s) (faults i e last s f h q)

    lawful-element : (k : ℕ) → k < t.sets → (e : ℕ) (s : S) → Keeps s (element_at t one count over k e s)
    unfolding element_at
    lawful-element k l e s = lawful-times _ (t.set k).size 0 (λ j m z. lawful-one ((t.set k).start + j) (Some e) false (member k e j l (omega arith)) z) s

    lawful-guard : (b : Bool) (f : F) (s : S) (w : Run W S F) → Stop s f → Keeps s w → Keeps s (guard b f w)
    unfolding guard
    lawful-guard true f s w a h = h
    lawful-guard false f s w a h = stops (none s) a

    pub lawful-group : (k : ℕ) → k < t.sets → (s : S) → Keeps s (group_at t one count over k s)
    unfolding group_at
    lawful-group k l s = lawful-guard _ _ s _ (exceeds k s) (lawful-times _ (count k s) 0 (λ e m z. lawful-element k l e z) s)

    lawful-by : (i : ℕ) (p : Place) → place_of t i ≡ p → i < n → (s : S) → Keeps s (field_by_lem t one count over i p s)
    unfolding field_by_lem
    lawful-by i (Starts k) q l s = lawful-group k (starts-one t i k q) s
    lawful-by i Inside q l s = runs (none s)
    lawful-by i Plain q l s = lawful-one i None _ (plain l) s

    -- .. holds of the walk up to field n
    pub lawful-fields : (s : S) → Keeps s (times n 0 (field_at t one count over) s)
    unfolding field_at
    lawful-fields s = lawful-times _ n 0 (λ i l z. lawful-by i (place_of t i) refl (omega arith) z) s

  -- P holds of each field met but the last of the table, outside a set, which no other follows
  module _ (P : W → Type 0)
      (early : (i : ℕ) (e : Element) (s : S) (v : W) (z : S) → Looks t t.count i e false → one i e false s ≡ hit v z → P v) where
    abbrev Each : S → Run W S F → Type 0
    Each s w = Lawful (λ (x : S) (vs : List W) (z : S). All P vs) (λ (x : S) (f : F). Unit {0}) s w

    ends-each : (s : S) (w : Run W S F) → Each s w → Ends P w
    ends-each s (ran vs z) (runs h) = ends-ran (ending-all P vs h)
    ends-each s (stopped vs f) (stops h k) = ends-stopped h

    ends-after : (us : List W) (w : Run W S F) → All P us → Ends P w → Ends P (after us w)
    unfolding after
    ends-after us (ran vs z) h (ends-ran k) = ends-ran (ending-append P us vs h k)
    ends-after us (stopped vs f) h (ends-stopped k) = ends-stopped (all_append P us vs h k)

    ends-then : (s : S) (w : Run W S F) (k : S → Run W S F) → Each s w → ((m : S) → Ends P (k m)) → Ends P (and_then w k)
    unfolding and_then
    ends-then s (ran us m) k (runs h) l = ends-after us (k m) h (l m)
    ends-then s (stopped us f) k (stops h g) l = ends-stopped h

    -- no field before the last is the last
    not_last : (n i : ℕ) (e : Element) (last : Bool) → t.count ≡ suc n → Looks t n i e last → (last ≡ false) × Looks t t.count i e last
    not_last n i e last q (plain l) = (ne_eqb (i + 1) t.count (λ z. omega arith), plain {i = i} (omega arith))
    not_last n i e last q (member k x j l m) = (refl, member k x j l m)

    each : (n i : ℕ) (e : Element) (last : Bool) (s : S) (v : W) (z : S) → t.count ≡ suc n → Looks t n i e last → one i e last s ≡ hit v z → P v
    each n i e last s v z q l h =
        let a = not_last n i e last q l in
        early i e s v z (subst (Looks t t.count i e) a.0 a.1) (sym (ap (λ (b : Bool). one i e b s) a.0) ∙ h)

    ends-one : (o : One W S F) → Ends P (lift o)
    unfolding lift
    ends-one (hit v z) = ends-ran {vs = v ∷ []} (inr refl, tt)
    ends-one (miss f) = ends-stopped {vs = []} tt

    all_both : (s m z : S) (us ws : List W) → All P us → All P ws → All P (us ++ ws)
    all_both s m z us ws a b = all_append P us ws a b

    module _ (n : ℕ) (q : t.count ≡ suc n) where
      each-one : (i : ℕ) (e : Element) (last : Bool) (s : S) (v : W) (z : S) → Looks t n i e last → one i e last s ≡ hit v z → All P (v ∷ [])
      each-one i e last s v z l g = (each n i e last s v z q l g, tt)

      -- the last field
      ends_by : (p : Place) → place_of t n ≡ p → (s : S) → Ends P (field_by_lem t one count over n p s)
      unfolding field_by_lem
      ends_by (Starts k) h s =
          ends-each s _ (lawful-group n _ _ (λ x. tt) all_both each-one (λ i e last x f l g. tt) (λ j x. tt) k (starts-one t n k h) s)
      ends_by Inside h s = ends-ran {vs = []} tt
      ends_by Plain h s = ends-one _

      ends-times : (s : S) → Ends P (times (suc n) 0 (field_at t one count over) s)
      unfolding field_at
      ends-times s =
          rw (times-last n 0 (field_at t one count over) s, zero-add n)
          (ends-then s _ _ (lawful-fields n _ _ (λ x. tt) all_both each-one (λ i e last x f l g. tt) (λ j x. tt) s) (λ m. ends_by (place_of t n) refl m))

    pub ends-walk : (s : S) → Ends P (walk_from t one count over s)
    unfolding walk_from times
    ends-walk s = go t.count refl
      where
        go : (n : ℕ) → t.count ≡ n → Ends P (times n 0 (field_at t one count over) s)
        go zero q = ends-ran {vs = []} tt
        go (suc n) q = ends-times n q s
