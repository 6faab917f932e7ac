-- What the loops over fields and sets come to. Assumes nothing.
use mathlib.Core.Path.{◌≡◌, refl, sym, ap, ap₂, ◌∙◌, subst}
use mathlib.Core.Bool.{Bool, true, false, ◌||◌, false≢true}
use Prim.Native.Nat.{ℕ, zero, suc, ◌+◌, ◌-◌, ◌≤◌, ◌<◌}
use native.Mathlib.Omega.{arith}
use native.Mathlib.Numerals.{add-one}
use lib.ListN.{length, get_or}
use mathlib.Core.Logic.{⊎_elim}
use Rattle.std.specs.Prelude.{Option, Some, None}
use Rattle.std.specs.Bool.{MatchBool}
use Rattle.std.specs.List.{range_with_len, AllWithin, HoldsAt}
use Rattle.std.specs.Option.{MatchOption}
use Rattle.std.proofs.lemmas.List.FromFn.{length-range_with_len, get_or-range_with_len}
use Rattle.bits.specs.Bits.{pick}
use Rattle.bits.proofs.Written.{below}
use Rattle.tables.specs.declared.TableRule.{TableRule}
use Rattle.tables.specs.Table.{Table}
use Rattle.tables.specs.Rules.{in_set, in_sets_lem, declared_bits_lem}
use Rattle.tables.specs.Check.{keeps, found_from}

-- the numbers below n, which `all` and `any` go through
at : (n k d : ℕ) → k < n → get_or (range_with_len 0 n) k d ≡ k
at n k d l = get_or-range_with_len 0 n k d l ∙ omega arith

below-of : (n k : ℕ) → k < length (range_with_len 0 n) → k < n
below-of n k l = subst (λ (m : ℕ). k < m) (length-range_with_len 0 n) l

module _ (P : ℕ → Type 0) (n : ℕ) where
  all-below : AllWithin P (range_with_len 0 n) 0 (length (range_with_len 0 n)) → (k : ℕ) → k < n → P k
  all-below h k l = subst P (at n k 0 l) (h k 0 (omega arith) (subst (λ (m : ℕ). k < m) (sym (length-range_with_len 0 n)) l))

  one-below : (k : ℕ) → k < length (range_with_len 0 n) → HoldsAt P (range_with_len 0 n) k → P k
  one-below k l h = subst P (at n k 0 (below-of n k l)) (h 0)

-- `all` answered true: each has P
pub each-below : (P No : ℕ → Type 0) (n : ℕ) (r : Bool) → MatchBool r (AllWithin P (range_with_len 0 n) 0 (length (range_with_len 0 n))) ((k : ℕ) × (k < length (range_with_len 0 n)) × HoldsAt No (range_with_len 0 n) k)
    → r ≡ true → (k : ℕ) → k < n → P k
each-below P No n true h e k l = all-below P n h k l
each-below P No n false h e k l = absurd (false≢true e)

or-true : (b : Bool) → b || true ≡ true
or-true true = refl
or-true false = refl

-- a field in one of the sets is in the sets
pub in_one : (t : Table) (i k m : ℕ) → k < m → in_set t i k ≡ true → in_sets_lem t i m ≡ true
unfolding in_sets_lem
in_one t i k zero l h = absurd (omega arith)
in_one t i k (suc m) l h = ⊎_elim
    (λ (j : k < m). ap (λ (b : Bool). b || in_set t i m) (in_one t i k m j h))
    (λ (j : m ≤ k). let e : k ≡ m = omega arith in ap (λ (b : Bool). in_sets_lem t i m || b) (sym (ap (in_set t i) e) ∙ h) ∙ or-true (in_sets_lem t i m))
    (below k m)

-- a field in none of the sets is not in the sets
in-none : (t : Table) (i m : ℕ) → ((k : ℕ) → k < m → in_set t i k ≡ false) → in_sets_lem t i m ≡ false
unfolding in_sets_lem
in-none t i zero h = refl
in-none t i (suc m) h = ap₂ (λ (x y : Bool). x || y) (in-none t i m (λ k l. h k (omega arith))) (h m (omega arith))

-- what `any` answers over the sets
pub in-some : (t : Table) (i m : ℕ) (r : Bool)
    → MatchBool r ((k : ℕ) × (k < length (range_with_len 0 m)) × HoldsAt (λ (k : ℕ). in_set t i k ≡ true) (range_with_len 0 m) k) (AllWithin (λ (k : ℕ). in_set t i k ≡ false) (range_with_len 0 m) 0 (length (range_with_len 0 m)))
    → r ≡ in_sets_lem t i m
in-some t i m true h = sym (in_one t i h.0 m (below-of m h.0 h.1) (one-below (λ (k : ℕ). in_set t i k ≡ true) m h.0 h.1 h.2))
in-some t i m false h = sym (in-none t i m (all-below (λ (k : ℕ). in_set t i k ≡ false) m h))

-- one width more
pub bits-more : (t : Table) (i n : ℕ) → declared_bits_lem t i (n + 1) ≡ declared_bits_lem t i n + (t.field (i + n)).width
unfolding declared_bits_lem
bits-more t i n = ap (declared_bits_lem t i) (add-one n)

module _ (rule : TableRule) (t : Table) where
  step : (i n : ℕ) → found_from rule t i (suc n) ≡ pick (keeps rule t i) (found_from rule t (suc i) n) (Some i)
  unfolding found_from
  step i n = refl

  -- i keeps the rule: the search goes on past it
  pub found-later : (i n : ℕ) → i < n → keeps rule t i ≡ true → found_from rule t i (n - i) ≡ found_from rule t (i + 1) (n - (i + 1))
  found-later i n l k =
      let e : n - i ≡ suc (n - (i + 1)) = omega arith in
      ap (found_from rule t i) e ∙ step i (n - (i + 1)) ∙ ap (λ (b : Bool). pick b (found_from rule t (suc i) (n - (i + 1))) (Some i)) k
      ∙ ap (λ (j : ℕ). found_from rule t j (n - (i + 1))) (sym (add-one i))

  -- i breaks it: it is found
  pub found_here : (i n : ℕ) → i < n → keeps rule t i ≡ false → found_from rule t i (n - i) ≡ Some i
  found_here i n l k =
      let e : n - i ≡ suc (n - (i + 1)) = omega arith in
      ap (found_from rule t i) e ∙ step i (n - (i + 1)) ∙ ap (λ (b : Bool). pick b (found_from rule t (suc i) (n - (i + 1))) (Some i)) k

  -- where each keeps the rule, nothing is found
  pub none_found : (i n : ℕ) → ((j : ℕ) → j < i + n → keeps rule t j ≡ true) → found_from rule t i n ≡ None
  unfolding found_from
  none_found i zero h = refl
  none_found i (suc n) h =
      ap (λ (b : Bool). pick b (found_from rule t (suc i) n) (Some i)) (h i (omega arith)) ∙ none_found (suc i) n (λ j l. h j (omega arith))

  -- each before i keeps the rule: the search is the same from i on
  upto : (i n : ℕ) → i ≤ n → ((k : ℕ) → k < i → keeps rule t k ≡ true) → found_from rule t 0 n ≡ found_from rule t i (n - i)
  upto zero n l h = ap (found_from rule t 0) (omega arith)
  upto (suc i) n l h =
      upto i n (omega arith) (λ k m. h k (omega arith)) ∙ found-later i n (omega arith) (h i (omega arith)) ∙ ap (λ (j : ℕ). found_from rule t j (n - j)) (add-one i)

  -- what `find` answers
  pub found-first : (n : ℕ) (r : Option ℕ)
      → MatchOption r ((k : ℕ) → 0 ≤ k → k < n → keeps rule t k ≡ true) (λ (i : ℕ). (0 ≤ i) × (i < n) × (keeps rule t i ≡ false) × ((k : ℕ) → 0 ≤ k → k < i → keeps rule t k ≡ true))
      → r ≡ found_from rule t 0 n
  found-first n None h = sym (none_found 0 n (λ j l. h j (omega arith) (omega arith)))
  found-first n (Some i) h = sym (upto i n (omega (arith, h.1)) (λ k l. h.3 k (omega arith) l) ∙ found_here i n h.1 h.2)
