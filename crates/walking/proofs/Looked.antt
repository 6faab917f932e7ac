-- A turn goes by what is to be done at its spot; and it asks of a rule for fields only what it says of the state that it stands in. Assumes
-- nothing.
use mathlib.Core.Path.{◌≡◌, refl, ap, ◌∙◌, sym}
use Prim.Native.Nat.{ℕ, ◌+◌, ◌≤◌, ◌<◌}
use mathlib.Core.Bool.{Bool, true, false}
use lib.Dec.{ltb}
use borrow.Author.Tests.{lt-ltb, le-ltb}
use Rattle.std.specs.Prelude.{Some}
use Rattle.bits.specs.Bits.{pick}
use Rattle.tables.specs.Table.{Table}
use Rattle.tables.specs.declared.RepeatingFieldSet.{RepeatingFieldSet}
use Rattle.walking.specs.declared.Place.{Place}
use Rattle.walking.specs.declared.Place.TheVariants.{Starts, Inside, Plain}
use Rattle.walking.specs.declared.Spot.{Spot}
use Rattle.walking.specs.declared.Spot.TheVariants.{Field, Within}
use Rattle.walking.specs.declared.Look.{Look}
use Rattle.walking.specs.declared.Look.TheVariants.{End, Pass, Enter, Meet}
use Rattle.walking.specs.Walk.{One, place_of, Element}
use Rattle.walking.specs.Turns.{Turn, moved, ended, either, seen, turn, turn_by, turn_within}
use Rattle.walking.specs.Looks.{look_by_lem, look_within_lem, look_of, turn_at}

-- ## What is to be done, by the tests

module _ (t : Table) where
  pub field-looks : (i : ℕ) → i < t.count → look_by_lem t i (place_of t i) ≡ look_of t (Field i)
  field-looks i l = rw (lt-ltb _ _ l)

  pub field-ends : (i : ℕ) → t.count ≤ i → End ≡ look_of t (Field i)
  field-ends i l = rw (le-ltb _ _ l)

  -- g is set k
  pub within-meets : (k n e j : ℕ) (g : RepeatingFieldSet) → g ≡ t.set k → e < n → j < g.size → Meet (g.start + j) (Some e) false (Within k n e (j + 1)) ≡ look_within_lem t k n e j
  within-meets k n e j g q l m = rw (← q) (rw (lt-ltb _ _ l, lt-ltb _ _ m) refl)

  pub within-next : (k n e j : ℕ) (g : RepeatingFieldSet) → g ≡ t.set k → e < n → g.size ≤ j → Pass (Within k n (e + 1) 0) ≡ look_within_lem t k n e j
  within-next k n e j g q l m = rw (← q) (rw (lt-ltb _ _ l, le-ltb _ _ m) refl)

  pub within-out : (k n e j : ℕ) (g : RepeatingFieldSet) → g ≡ t.set k → n ≤ e → Pass (Field (g.start + 1)) ≡ look_within_lem t k n e j
  within-out k n e j g q l = rw (← q) (rw (le-ltb _ _ l) refl)

-- ## Turns

module _ (t : Table) {W S F : Type 0} (one : ℕ → Element → Bool → S → One W S F) (count : ℕ → S → ℕ) (over : ℕ → ℕ → ℕ → F) where
  abbrev T : Look → S → Turn W S F
  T l s = turn_at t one count over l s

  picks : (b : Bool) (x y : Look) (s : S) → either b (T x s) (T y s) ≡ T (pick b x y) s
  unfolding either
  picks true x y s = refl
  picks false x y s = refl

  by-look : (i : ℕ) (p : Place) (s : S) → turn_by t one count over i p s ≡ T (look_by_lem t i p) s
  unfolding turn_by
  by-look i (Starts k) s = refl
  by-look i Inside s = refl
  by-look i Plain s = refl

  pub look-law : (p : Spot) (s : S) → turn t one count over p s ≡ T (look_of t p) s
  unfolding turn turn_within
  look-law (Field i) s = ap (λ (x : Turn W S F). either (ltb i t.count) x (ended s)) (by-look i (place_of t i) s) ∙ picks (ltb i t.count) (look_by_lem t i (place_of t i)) End s
  look-law (Within k n e j) s =
      ap (λ (x : Turn W S F). either (ltb e n) x (moved (Field ((t.set k).start + 1)) s)) (picks (ltb j (t.set k).size) _ _ s)
      ∙ picks (ltb e n) _ _ s

  -- once code has what is to be done
  pub looked : (p : Spot) (s : S) (l : Look) → l ≡ look_of t p → T l s ≡ turn t one count over p s
  looked p s l q = ap (λ (x : Look). T x s) q ∙ sym (look-law p s)

-- another rule that says the same here
module _ (t : Table) {W S F : Type 0} (one one' : ℕ → Element → Bool → S → One W S F) (count : ℕ → S → ℕ) (over : ℕ → ℕ → ℕ → F) where
  at-like : (l : Look) (s : S) → ((i : ℕ) (e : Element) (last : Bool) → one i e last s ≡ one' i e last s) → turn_at t one count over l s ≡ turn_at t one' count over l s
  at-like End s h = refl
  at-like (Pass q) s h = refl
  at-like (Enter k) s h = refl
  at-like (Meet i e last q) s h = ap (seen q s) (h i e last)

  pub turn-like : (p : Spot) (s : S) → ((i : ℕ) (e : Element) (last : Bool) → one i e last s ≡ one' i e last s) → turn t one count over p s ≡ turn t one' count over p s
  turn-like p s h = look-law t one count over p s ∙ at-like (look_of t p) s h ∙ sym (look-law t one' count over p s)
