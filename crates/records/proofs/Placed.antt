-- Where a field stands that no set holds, and what a stretch of fields comes to as one field or one set more is looked at. Assumes nothing.
use mathlib.Core.Path.{◌≡◌, refl, ap, ap₂, ◌∙◌}
use mathlib.Core.Logic.{⊎_elim}
use mathlib.Core.Bool.{Bool, true, false, ◌&&◌, ◌||◌}
use Prim.Native.Nat.{ℕ, zero, suc, ◌+◌, ◌-◌, ◌≤◌, ◌<◌}
use native.Mathlib.Omega.{arith}
use lib.Dec.{ltb}
use borrow.Author.Tests.{le-leb, lt-leb, le-ltb, ne_eqb}
use Rattle.bits.specs.Bits.{pick}
use Rattle.bits.proofs.Written.{below}
use Rattle.tables.specs.Table.{Table}
use Rattle.tables.specs.Rules.{in_set, in_sets_lem}
use Rattle.walking.specs.declared.Place.{Place}
use Rattle.walking.specs.declared.Place.TheVariants.{Starts, Inside, Plain}
use Rattle.walking.specs.Walk.{place_from, place_of}
use Rattle.records.specs.Stretches.{Insides, Plains, Clear, is_inside_lem}

-- ## Later fields of sets

inside : (p : Place) → is_inside_lem p ≡ true → p ≡ Inside
inside (Starts k) e = let z : ◌≡◌ {A = ℕ} 0 1 = cc in absurd (omega arith)
inside Inside e = refl
inside Plain e = let z : ◌≡◌ {A = ℕ} 0 1 = cc in absurd (omega arith)

module _ (t : Table) (from : ℕ) where
  pub insides-none : Insides t from from
  insides-none = record { reach = omega arith; all = λ j l u. absurd (omega arith) }

  pub insides-more : {i : ℕ} → Insides t from i → i < t.count → is_inside_lem (place_of t i) ≡ true → Insides t from (i + 1)
  insides-more {i} s l e =
      record {
        reach = omega arith;
        all = λ j m u. ⊎_elim (λ (h : j < i). s.all j m h) (λ (h : i ≤ j). let q : i ≡ j = omega arith in rw (← q) (l, inside (place_of t i) e)) (below j i);
      }

-- ## Fields in no set

module _ (t : Table) (j : ℕ) where
  -- in none of the first m sets
  outside : (m : ℕ) → ((k : ℕ) → k < m → in_set t j k ≡ false) → in_sets_lem t j m ≡ false
  unfolding in_sets_lem
  outside zero h = refl
  outside (suc m) h = ap₂ (λ (x y : Bool). x || y) (outside m (λ k l. h k (omega arith))) (h m (omega arith))

  plain-from : (k n : ℕ) → ((x : ℕ) → x < k + n → (t.set x).start ≡ j → ⊥) → in_sets_lem t j t.sets ≡ false → place_from t j k n ≡ Plain
  unfolding place_from
  plain-from k zero starts out = ap (λ (b : Bool). pick b Inside Plain) out
  plain-from k (suc n) starts out =
      ap (λ (b : Bool). pick b (Starts k) (place_from t j (suc k) n)) (ne_eqb (t.set k).start j (starts k (omega arith)))
      ∙ plain-from (suc k) n (λ x l. starts x (omega arith)) out

module _ (t : Table) (i : ℕ) where
  -- the fields from i up to r are in none of the first m sets
  pub record Clears (m r : ℕ) : Type 0 where
    pub below : r ≤ t.count
    pub sets : (k : ℕ) → k < m → Clear t k i r r

  nearer : (k : ℕ) {e r r' : ℕ} → Clear t k i e r → r' ≤ r → Clear t k i r' r'
  nearer k c l = record { below = omega arith; starts = λ j a b. c.starts j a (omega arith); all = λ j a b. c.all j a (omega arith) }

  pub clears-none : {r : ℕ} → r ≡ t.count → Clears 0 r
  clears-none e = record { below = omega arith; sets = λ k l. absurd (omega arith) }

  -- one set more
  pub clears-more : {k e r : ℕ} → Clears k e → Clear t k i e r → Clears (k + 1) r
  clears-more {k} {e} {r} s c =
      let b = c.below in
      let d = s.below in
      record {
        below = omega arith;
        sets = λ x l. ⊎_elim (λ (h : x < k). nearer x (s.sets x h) b) (λ (h : k ≤ x). let q : k ≡ x = omega arith in rw (← q) (nearer k c (omega arith))) (below x k);
      }

  -- all of them
  pub clears-all : {m r : ℕ} → Clears m r → m ≡ t.sets → Plains t i r
  clears-all {m} {r} s e =
      record {
        below = s.below;
        all = λ j l u.
            plain-from t j 0 t.sets (λ k h. (s.sets k (omega arith)).starts j l u) (outside t j t.sets (λ k h. (s.sets k (omega arith)).all j l u));
      }

-- ## One set

module _ (t : Table) (k i end : ℕ) where
  -- the set starts further on
  pub clear-before : {r : ℕ} → r ≤ end → r ≤ (t.set k).start → Clear t k i end r
  clear-before l m =
      record {
        below = l;
        starts = λ j a b e. omega arith;
        all = λ j a b. ap (λ (x : Bool). x && ltb (j - (t.set k).start) (t.set k).size) (lt-leb (t.set k).start j (omega arith));
      }

  -- there are no fields up to r
  pub clear_none : {r : ℕ} → r ≤ end → r ≤ i → Clear t k i end r
  clear_none l m = record { below = l; starts = λ j a b e. omega arith; all = λ j a b. absurd (omega arith) }

  -- the set ends before
  pub clear-after : (t.set k).start < i → (t.set k).start + (t.set k).size ≤ i → Clear t k i end end
  clear-after l m =
      record {
        below = omega arith;
        starts = λ j a b e. omega arith;
        all = λ j a b. ap₂ (λ (x y : Bool). x && y) (le-leb (t.set k).start j (omega arith)) (le-ltb (j - (t.set k).start) (t.set k).size (omega arith));
      }
