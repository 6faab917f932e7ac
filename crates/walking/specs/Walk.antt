-- The walk through a table, whatever is done at a field: document 01, "Reading a payload" and "Writing a payload".
use Rattle.std.specs.Prelude.{ℕ, zero, suc, ◌+◌, Bool, true, false, [], ◌∷◌, eqb, leb, Option, Some, None}
use Rattle.bits.specs.Bits.{pick}
use Rattle.tables.specs.Table.{Table}
use Rattle.tables.specs.Rules.{in_sets_lem}
use Rattle.walking.specs.declared.Place.{Place}
use Rattle.walking.specs.declared.Place.TheVariants.{Starts, Inside, Plain}
use Rattle.walking.specs.Runs.{Run, ran, stopped, guard, times}

-- which element of its set a field stands in, if it stands in one
abbrev pub Element : Type 0
Element = Option ℕ

-- what is done at one field: one visit, or a fault and nothing else
pub data One (W S F : Type 0) : Type 0 where
  hit : W → S → One W S F
  miss : F → One W S F

module _ {W S F : Type 0} where
  -- the fault where the test fails
  unfoldable pub check : Bool → F → One W S F → One W S F
  check true f o = o
  check false f o = miss f

  -- a walk of one field
  unfoldable pub lift : One W S F → Run W S F
  lift (hit v s) = ran (v ∷ []) s
  lift (miss f) = stopped [] f

-- where a field stands that starts none of the sets before set k: n more are looked at
unfoldable pub place_from : Table → ℕ → ℕ → ℕ → Place
place_from t i k zero = pick (in_sets_lem t i t.sets) Inside Plain
place_from t i k (suc n) = pick (eqb (t.set k).start i) (Starts k) (place_from t i (suc k) n)

-- where a field stands
abbrev pub place_of : Table → ℕ → Place
place_of t i = place_from t i 0 t.sets

-- `one i e last s`: field i, of element e, in state s; `last` where it is the last field of the table, outside a set.
-- `count k s`: how many elements set k has. `over k n m`: the refusal of n elements where m is the maximum
module _ (t : Table) {W S F : Type 0} (one : ℕ → Element → Bool → S → One W S F) (count : ℕ → S → ℕ) (over : ℕ → ℕ → ℕ → F) where
  -- element e of set k: its fields in order
  unfoldable pub element_at : ℕ → ℕ → S → Run W S F
  element_at k e s = times (t.set k).size 0 (λ j z. lift (one ((t.set k).start + j) (Some e) false z)) s

  -- "then refusal 5 if over the maximum"; of writing, "over the maximum is 5"
  unfoldable pub group_at : ℕ → S → Run W S F
  group_at k s = guard (leb (count k s) (t.set k).maximum) (over k (count k s) (t.set k).maximum) (times (count k s) 0 (element_at k) s)

  -- a set stands where it starts; its later fields are met there and not again
  unfoldable pub field_by_lem : ℕ → Place → S → Run W S F
  field_by_lem i (Starts k) s = group_at k s
  field_by_lem i Inside s = ran [] s
  field_by_lem i Plain s = lift (one i None (eqb (i + 1) t.count) s)

  unfoldable pub field_at : ℕ → S → Run W S F
  field_at i s = field_by_lem i (place_of t i) s

  -- every field, from the first to the last
  unfoldable pub walk_from : S → Run W S F
  walk_from s = times t.count 0 field_at s
