-- What the search for a set that starts at a field comes to. Assumes nothing.
use mathlib.Core.Path.{◌≡◌, sym, ap, ◌∙◌}
use mathlib.Core.Bool.{Bool, true, false}
use Prim.Native.Nat.{ℕ, zero, suc, ◌+◌, ◌-◌, ◌≤◌, ◌<◌}
use native.Mathlib.Omega.{arith}
use native.Mathlib.Numerals.{add-one}
use lib.Dec.{eqb}
use Rattle.std.specs.Prelude.{Option, Some, None}
use Rattle.std.specs.Option.{MatchOption}
use Rattle.bits.specs.Bits.{pick}
use Rattle.tables.specs.Table.{Table}
use Rattle.tables.specs.Rules.{in_sets_lem}
use Rattle.walking.specs.declared.Place.{Place}
use Rattle.walking.specs.declared.Place.TheVariants.{Starts, Inside, Plain}
use Rattle.walking.specs.Walk.{place_from, place_of}

module _ (t : Table) (i : ℕ) where
  more : (k m : ℕ) → k < m → place_from t i k (m - k) ≡ pick (eqb (t.set k).start i) (Starts k) (place_from t i (suc k) (m - suc k))
  unfolding place_from
  more k m l = let e : m - k ≡ suc (m - suc k) = omega arith in ap (place_from t i k) e

  -- set k starts at the field
  pub place_here : (k m : ℕ) → k < m → eqb (t.set k).start i ≡ true → place_from t i k (m - k) ≡ Starts k
  place_here k m l h = more k m l ∙ ap (λ (b : Bool). pick b (Starts k) (place_from t i (suc k) (m - suc k))) h

  -- it does not
  pub place-later : (k m : ℕ) → k < m → eqb (t.set k).start i ≡ false → place_from t i k (m - k) ≡ place_from t i (k + 1) (m - (k + 1))
  place-later k m l h =
      more k m l ∙ ap (λ (b : Bool). pick b (Starts k) (place_from t i (suc k) (m - suc k))) h
      ∙ (let e : suc k ≡ k + 1 = omega arith in ap (λ (x : ℕ). place_from t i x (m - x)) e)

  -- none of the first k does: the search is the same from k on
  place-upto : (k m : ℕ) → k ≤ m → ((j : ℕ) → j < k → eqb (t.set j).start i ≡ false) → place_from t i 0 m ≡ place_from t i k (m - k)
  place-upto zero m l h = ap (place_from t i 0) (omega arith)
  place-upto (suc k) m l h =
      place-upto k m (omega arith) (λ j n. h j (omega arith)) ∙ place-later k m (omega arith) (h k (omega arith)) ∙ ap (λ (x : ℕ). place_from t i x (m - x)) (add-one k)

  -- none does
  place_none : (m : ℕ) → ((j : ℕ) → j < m → eqb (t.set j).start i ≡ false) → place_from t i 0 m ≡ pick (in_sets_lem t i t.sets) Inside Plain
  unfolding place_from
  place_none m h = place-upto m m (omega arith) h ∙ (let e : m - m ≡ 0 = omega arith in ap (place_from t i m) e)

  -- where the field stands, by what a search for its set has found
  abbrev pub placed : Option ℕ → Place
  placed (Some k) = Starts k
  placed None = pick (in_sets_lem t i t.sets) Inside Plain

  -- the sets before the one that is found start elsewhere
  pub place-found : (m : ℕ) (r : Option ℕ)
      → MatchOption r ((k : ℕ) → 0 ≤ k → k < m → eqb (t.set k).start i ≡ false)
      (λ (k : ℕ). (0 ≤ k) × (k < m) × (eqb (t.set k).start i ≡ true) × ((j : ℕ) → 0 ≤ j → j < k → eqb (t.set j).start i ≡ false))
      → m ≡ t.sets → place_of t i ≡ placed r
  place-found m None h e = sym (ap (place_from t i 0) e) ∙ place_none m (λ j l. h j (omega arith) l)
  place-found m (Some k) h e = sym (ap (place_from t i 0) e) ∙ place-upto k m (omega (arith, h.1)) (λ j l. h.3 j (omega arith) l) ∙ place_here k m h.1 h.2
