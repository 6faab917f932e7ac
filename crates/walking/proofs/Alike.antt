-- Two walks through one table: where the first runs to its end and each visit keeps what the second asks of it, the second runs alike.
-- Assumes nothing.
use mathlib.Core.Path.{◌≡◌, refl}
use Prim.Native.Nat.{ℕ, zero, suc, ◌+◌}
use mathlib.Core.Bool.{Bool, true, false}
use mathlib.Core.List.{List}
use Rattle.std.specs.Prelude.{Some, None}
use Rattle.tables.specs.Table.{Table}
use Rattle.walking.specs.declared.Place.{Place}
use Rattle.walking.specs.declared.Place.TheVariants.{Starts, Inside, Plain}
use Rattle.walking.specs.Runs.{Run, ran, stopped, guard, after, and_then, times}
use Rattle.walking.specs.Walk.{One, hit, miss, lift, place_of, element_at, group_at, field_by_lem, field_at, walk_from, Element}
use Rattle.walking.proofs.Visits.{All, all_left, all_right}

module _ {W S F : Type 0} (H : W → Type 0) where
  abbrev pub Alike : Run W S F → Run W S F → Type 0
  Alike (ran vs z) w = All H vs → w ≡ ran vs z
  Alike (stopped vs f) w = Unit {0}

  alike-after : (us : List W) (m : S) (w w' : Run W S F) (k' : S → Run W S F) → (All H us → w' ≡ ran us m) → Alike w (k' m) → Alike (after us w) (and_then w' k')
  unfolding after and_then
  alike-after us m (ran ws z) w' k' p q = λ h. rw (p (all_left H us ws h), q (all_right H us ws h))
  alike-after us m (stopped ws f) w' k' p q = tt

  alike_then : (w w' : Run W S F) (k k' : S → Run W S F) → Alike w w' → ((s : S) → Alike (k s) (k' s)) → Alike (and_then w k) (and_then w' k')
  unfolding and_then
  alike_then (ran us m) w' k k' p q = alike-after us m (k m) w' k' p (q m)
  alike_then (stopped us f) w' k k' p q = tt

  alike-times : (f f' : ℕ → S → Run W S F) → ((i : ℕ) (s : S) → Alike (f i s) (f' i s)) → (n i : ℕ) (s : S) → Alike (times n i f s) (times n i f' s)
  unfolding times
  alike-times f f' h zero i s = λ g. refl
  alike-times f f' h (suc n) i s = alike_then (f i s) (f' i s) (times n (suc i) f) (times n (suc i) f') (h i s) (alike-times f f' h n (suc i))

  alike-guard : (b : Bool) (f : F) (w w' : Run W S F) → Alike w w' → Alike (guard b f w) (guard b f w')
  unfolding guard
  alike-guard true f w w' h = h
  alike-guard false f w w' h = tt

  alike-lift : (o o' : One W S F) → ((v : W) (z : S) → o ≡ hit v z → H v → o' ≡ hit v z) → Alike (lift o) (lift o')
  unfolding lift
  alike-lift (hit v z) o' h = λ g. rw (h v z refl g.0)
  alike-lift (miss f) o' h = tt

  -- the same table, counts and refusals of a count; what is done at a field may differ
  module _ (t : Table) (one one' : ℕ → Element → Bool → S → One W S F) (count : ℕ → S → ℕ) (over : ℕ → ℕ → ℕ → F)
      (same : (i : ℕ) (e : Element) (last : Bool) (s : S) (v : W) (z : S) → one i e last s ≡ hit v z → H v → one' i e last s ≡ hit v z) where
    alike-element : (k e : ℕ) (s : S) → Alike (element_at t one count over k e s) (element_at t one' count over k e s)
    unfolding element_at
    alike-element k e s = alike-times _ _ (λ j z. alike-lift _ _ (same ((t.set k).start + j) (Some e) false z)) (t.set k).size 0 s

    alike-by : (i : ℕ) (p : Place) (s : S) → Alike (field_by_lem t one count over i p s) (field_by_lem t one' count over i p s)
    unfolding field_by_lem group_at
    alike-by i (Starts k) s = alike-guard _ _ _ _ (alike-times _ _ (alike-element k) (count k s) 0 s)
    alike-by i Inside s = λ g. refl
    alike-by i Plain s = alike-lift _ _ (same i None _ s)

    alike-walk : (s : S) → Alike (walk_from t one count over s) (walk_from t one' count over s)
    unfolding walk_from field_at
    alike-walk s = alike-times _ _ (λ i z. alike-by i (place_of t i) z) t.count 0 s

    -- a walk that ran, and the other
    pub runs-alike : (s z : S) (vs : List W) → walk_from t one count over s ≡ ran vs z → All H vs → walk_from t one' count over s ≡ ran vs z
    runs-alike s z vs e h = (rw e at (alike-walk s)) h
