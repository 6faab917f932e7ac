-- What a walk does next, by the table and the spot alone: for code that goes from spot to spot. That the turns of specs/Turns.antt go by it is
-- `look-law` of proofs/Looked.antt.
use Rattle.std.specs.Prelude.{ℕ, ◌+◌, Bool, false, eqb, leb, ltb, Some, None}
use Rattle.bits.specs.Bits.{pick}
use Rattle.tables.specs.Table.{Table}
use Rattle.walking.specs.declared.Place.{Place}
use Rattle.walking.specs.declared.Place.TheVariants.{Starts, Inside, Plain}
use Rattle.walking.specs.declared.Spot.{Spot}
use Rattle.walking.specs.declared.Spot.TheVariants.{Field, Within}
use Rattle.walking.specs.declared.Look.{Look}
use Rattle.walking.specs.declared.Look.TheVariants.{End, Pass, Enter, Meet}
use Rattle.walking.specs.Walk.{One, place_of, Element}
use Rattle.walking.specs.Turns.{Turn, moved, ended, broke, either, seen}

-- at field i, by where it stands
abbrev pub look_by_lem : Table → ℕ → Place → Look
look_by_lem t i (Starts k) = Enter k
look_by_lem t i Inside = Pass (Field (i + 1))
look_by_lem t i Plain = Meet i None (eqb (i + 1) t.count) (Field (i + 1))

-- in element e of the n of set k, at offset j
abbrev pub look_within_lem : Table → ℕ → ℕ → ℕ → ℕ → Look
look_within_lem t k n e j =
    pick (ltb e n)
    (pick (ltb j (t.set k).size)
    (Meet ((t.set k).start + j) (Some e) false (Within k n e (j + 1)))
    (Pass (Within k n (e + 1) 0)))
    (Pass (Field ((t.set k).start + 1)))

abbrev pub look_of : Table → Spot → Look
look_of t (Field i) = pick (ltb i t.count) (look_by_lem t i (place_of t i)) End
look_of t (Within k n e j) = look_within_lem t k n e j

-- the turn that is taken then
module _ (t : Table) {W S F : Type 0} (one : ℕ → Element → Bool → S → One W S F) (count : ℕ → S → ℕ) (over : ℕ → ℕ → ℕ → F) where
  abbrev pub enter_with : ℕ → ℕ → S → Turn W S F
  enter_with k n s = either (leb n (t.set k).maximum) (moved (Within k n 0 0) s) (broke (over k n (t.set k).maximum) s)

  abbrev pub turn_at : Look → S → Turn W S F
  turn_at End s = ended s
  turn_at (Pass q) s = moved q s
  turn_at (Enter k) s = enter_with k (count k s) s
  turn_at (Meet i e last q) s = seen q s (one i e last s)
