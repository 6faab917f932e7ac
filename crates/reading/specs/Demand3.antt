-- Demand 3, a demand of the project over document 01: "For an accepted table and a payload that decodes with room: the spans of the fields met,
-- skipped ones included, cover each bit from 0 to the reported end once. Change the bits of one number that is no group counter and lies
-- wholly in the received bytes: the payload still decodes, every span and every other reading stays the same, and that reading's raw is the
-- new bits." Definitions only: that it holds is `proofs/Demand3.antt`.
use Rattle.walking.specs.Walk.{Element}
use Rattle.std.specs.Prelude.{◌≡◌, ℕ, ◌+◌, ◌*◌, ◌%◌, ◌^◌, ◌≤◌, ◌<◌, Bool, false, ◌&&◌, List, [], ◌∷◌, ◌++◌, eqb, leb, ltb, length, Some, Ok, None}
use Rattle.bits.specs.Bits.{pick, written}
use Rattle.tables.specs.Table.{Table}
use Rattle.tables.specs.Check.{payload_max}
use Rattle.walking.specs.Runs.{ran}
use Rattle.fields.specs.declared.Shape.{Shape}
use Rattle.fields.specs.declared.Shape.TheVariants.{Number, Gap, Fixed, Whole, Lau, Lz}
use Rattle.fields.specs.Payload.{Payload, payload_of}
use Rattle.fields.specs.Shapes.{shape_of}
use Rattle.fields.specs.Taken.{taken_of}
use Rattle.reading.specs.declared.Span.{Span}
use Rattle.reading.specs.declared.Reading.{Reading}
use Rattle.reading.specs.declared.Progress.{Progress}
use Rattle.reading.specs.Decode.{walk_of, reading_of, readings}

-- ## Cover

-- the bit after a span
abbrev pub past : Span → ℕ
past v = v.start.0 + v.bits.0

-- each span starts where the one before it ends, from bit a to bit b
abbrev pub Chain : ℕ → List Span → ℕ → Type 0
Chain a [] b = a ≡ b
Chain a (v ∷ vs) b = (v.start.0 ≡ a) × Chain (past v) vs b

abbrev pub holds : Span → ℕ → Bool
holds v i = leb v.start.0 i && ltb i (past v)

-- how many of the spans hold bit i
unfoldable pub holding : List Span → ℕ → ℕ
holding [] i = 0
holding (v ∷ vs) i = pick (holds v i) 1 0 + holding vs i

-- ## End and count

-- "the sum of the bits"
unfoldable pub total : List Span → ℕ
total [] = 0
total (v ∷ vs) = v.bits.0 + total vs

-- whether field i, of element e, is "the last field of the table, outside a set"
abbrev pub last_by : Table → ℕ → Element → Bool
last_by t i None = eqb (i + 1) t.count
last_by t i (Some e) = false

-- "the bits that demand 2's rules give each field met": the span's bits are those that its field takes where it starts
abbrev pub Ruled : Table → Payload → Span → Type 0
Ruled t p v = taken_of p (t.field v.field) v.field (last_by t v.field v.element) v.start.0 ≡ Ok v.bits.0

-- "Reserved and Spare are skipped"
abbrev pub unskipped : Shape → ℕ
unskipped (Number strict) = 1
unskipped Gap = 0
unskipped Fixed = 1
unskipped Whole = 1
unskipped Lau = 1
unskipped Lz = 1

-- how many of the fields met are not skipped
unfoldable pub unskipped_in : Table → List Span → ℕ
unskipped_in t [] = 0
unskipped_in t (v ∷ vs) = unskipped (shape_of (t.field v.field)) + unskipped_in t vs

-- ## Change

-- "one number that is no group counter and lies wholly in the received bytes"
pub record Free (t : Table) (received : List ℕ) (v : Span) : Type 0 where
  pub strict : Bool
  pub number : shape_of (t.field v.field) ≡ Number strict
  pub counts : (k : ℕ) → k < t.sets → (t.set k).counter ≡ v.field → ⊥
  pub inside : past v ≤ 8 * length received

-- where a reading stands
abbrev pub span_in : Reading → Span
span_in r = record { field = r.field; element = r.element; start = r.start; bits = r.bits }

-- of a payload p, and p' where the bits of the span v are those of x: us were met before v, ws after it
pub record Kept (t : Table) (p p' : Payload) (room : ℕ) (us : List Span) (v : Span) (ws : List Span) (s : Progress) (x : ℕ) : Type 0 where
  -- "the payload still decodes, every span [..] stays the same", and so does the end
  pub decodes : walk_of t p' room ≡ ran (us ++ v ∷ ws) s
  -- "every other reading stays the same": the readings were these ..
  pub were : readings t p (us ++ v ∷ ws) ≡ readings t p us ++ reading_of t p v ∷ readings t p ws
  -- .. and are these
  pub are : readings t p' (us ++ v ∷ ws) ≡ readings t p us ++ reading_of t p' v ∷ readings t p ws
  -- "and that reading's raw is the new bits"
  pub new : (reading_of t p' v).raw ≡ Some (x % 2 ^ v.bits.0)

-- ## The demand

-- of what was received, which `fill` makes the working payload; the walk met vs and ended in s
pub record Demand3 (t : Table) (fill : List ℕ → List ℕ) (received : List ℕ) (room : ℕ) (vs : List Span) (s : Progress) : Type 0 where
  pub chain : Chain 0 vs s.at.0
  -- "cover each bit from 0 to the reported end once"
  pub once : (i : ℕ) → i < s.at.0 → holding vs i ≡ 1
  pub none : (i : ℕ) → s.at.0 ≤ i → holding vs i ≡ 0
  -- "the end equals the sum of the bits that demand 2's rules give each field met"
  pub sum : s.at.0 ≡ total vs
  pub ruled : (us : List Span) (v : Span) (ws : List Span) → vs ≡ us ++ v ∷ ws → Ruled t (payload_of (fill received)) v
  -- it lies in the working payload
  pub inside : s.at.0 ≤ 8 * length (fill received)
  -- the count of readings is the number of fields met that are not skipped
  pub count : length (readings t (payload_of (fill received)) vs) ≡ unskipped_in t vs
  -- "Change the bits of one number": to those of any x, by the bit calls' write
  pub change : (us : List Span) (v : Span) (ws : List Span) → vs ≡ us ++ v ∷ ws → Free t received v → (x : ℕ)
      → Kept t (payload_of (fill received)) (payload_of (fill (written received v.start.0 v.bits.0 x))) room us v ws s x

-- A filling that demand 3 holds under: it keeps the received bytes, and what it adds to them goes by their number alone
pub record Filling (fill : List ℕ → List ℕ) : Type 0 where
  pub added : ℕ → List ℕ
  pub fills : (received : List ℕ) → fill received ≡ received ++ added (length received)

-- room for so many readings is always enough, 1,785: one more than a payload has bits
abbrev pub room_enough_lem : ℕ
room_enough_lem = payload_max * 8 + 1
