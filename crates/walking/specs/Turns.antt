-- The walk by single turns, from spot to spot: for callers that go through a payload field by field. It is no part of document 01: that
-- it comes to the walk of specs/Walk.antt is `turn-law` of proofs/Machine.antt.
use Rattle.std.specs.Prelude.{ℕ, ◌+◌, Bool, true, false, eqb, leb, ltb, Some, None}
use Rattle.tables.specs.Table.{Table}
use Rattle.walking.specs.declared.Place.{Place}
use Rattle.walking.specs.declared.Place.TheVariants.{Starts, Inside, Plain}
use Rattle.walking.specs.declared.Spot.{Spot}
use Rattle.walking.specs.declared.Spot.TheVariants.{Field, Within}
use Rattle.walking.specs.Walk.{One, hit, miss, place_of, Element}

-- what one turn comes to
pub data Turn (W S F : Type 0) : Type 0 where
  -- no field met
  moved : Spot → S → Turn W S F
  met : W → Spot → S → Turn W S F
  ended : S → Turn W S F
  broke : F → S → Turn W S F

module _ {W S F : Type 0} where
  unfoldable pub either : Bool → Turn W S F → Turn W S F → Turn W S F
  either true a b = a
  either false a b = b

  -- a field, and the walk goes on at p
  unfoldable pub seen : Spot → S → One W S F → Turn W S F
  seen p s (hit v z) = met v p z
  seen p s (miss f) = broke f s

module _ (t : Table) {W S F : Type 0} (one : ℕ → Element → Bool → S → One W S F) (count : ℕ → S → ℕ) (over : ℕ → ℕ → ℕ → F) where
  -- at field i, by where it stands
  unfoldable pub turn_by : ℕ → Place → S → Turn W S F
  turn_by i (Starts k) s =
      either (leb (count k s) (t.set k).maximum) (moved (Within k (count k s) 0 0) s) (broke (over k (count k s) (t.set k).maximum) s)
  turn_by i Inside s = moved (Field (i + 1)) s
  turn_by i Plain s = seen (Field (i + 1)) s (one i None (eqb (i + 1) t.count) s)

  -- in element e of the n of set k, at offset j
  unfoldable pub turn_within : ℕ → ℕ → ℕ → ℕ → S → Turn W S F
  turn_within k n e j s =
      either (ltb e n)
      (either (ltb j (t.set k).size)
      (seen (Within k n e (j + 1)) s (one ((t.set k).start + j) (Some e) false s))
      (moved (Within k n (e + 1) 0) s))
      (moved (Field ((t.set k).start + 1)) s)

  unfoldable pub turn : Spot → S → Turn W S F
  turn (Field i) s = either (ltb i t.count) (turn_by i (place_of t i) s) (ended s)
  turn (Within k n e j) s = turn_within k n e j s
