-- Stretches of a walk: what the functions that read numbers quickly say of each other. It is no part of document 01: that the quick way comes to
-- the walk of reading is proofs/Quickly.antt.
use Rattle.std.specs.Prelude.{◌≡◌, ℕ, ◌+◌, ◌-◌, ◌*◌, ◌≤◌, ◌<◌, Bool, true, false, List, [], ◌∷◌, ◌++◌, ltb, length, Option, Some, None}
use Rattle.bits.specs.Bits.{pick}
use Rattle.tables.specs.Table.{Table}
use Rattle.tables.specs.Rules.{in_set}
use Rattle.walking.specs.declared.Place.{Place}
use Rattle.walking.specs.declared.Place.TheVariants.{Starts, Inside, Plain}
use Rattle.walking.specs.declared.Spot.TheVariants.{Within}
use Rattle.walking.specs.Walk.{hit, place_of, Element}
use Rattle.fields.specs.Payload.{Payload}
use Rattle.reading.specs.declared.Span.{Span}
use Rattle.reading.specs.declared.Reading.{Reading}
use Rattle.reading.specs.declared.Progress.{Progress}
use Rattle.reading.specs.declared.Walk.{Walk}
use Rattle.reading.specs.Groups.{noted_by_lem}
use Rattle.reading.specs.Decode.{span_at, progress_at, one_of, readings}
use Rattle.reading.specs.Steps.{walk_at_lem, next_of, goes_on_lem, handed}
use Rattle.records.specs.declared.Stretch.{Stretch}
use Rattle.records.specs.declared.Quick.{Quick}
use Rattle.records.specs.declared.Quick.TheVariants.{Took, Skipped}
use Rattle.records.specs.Layout.{prefix_bytes, record_bytes, bytes_of, records}
use Rattle.records.specs.Puts.{puts}

-- ## Where fields stand

-- the fields from i up to r are later fields of sets
pub record Insides (t : Table) (i r : ℕ) : Type 0 where
  pub reach : i ≤ r
  pub all : (j : ℕ) → i ≤ j → j < r → (j < t.count) × (place_of t j ≡ Inside)

abbrev pub is_inside_lem : Place → Bool
is_inside_lem (Starts k) = false
is_inside_lem Inside = true
is_inside_lem Plain = false

-- the fields from i up to r, which is no further than `end`, are not in set k
pub record Clear (t : Table) (k i end r : ℕ) : Type 0 where
  pub below : r ≤ end
  pub starts : (j : ℕ) → i ≤ j → j < r → (t.set k).start ≡ j → ⊥
  pub all : (j : ℕ) → i ≤ j → j < r → in_set t j k ≡ false

-- the fields from i up to r are in no set
pub record Plains (t : Table) (i r : ℕ) : Type 0 where
  pub below : r ≤ t.count
  pub all : (j : ℕ) → i ≤ j → j < r → place_of t j ≡ Plain

-- none of the fields from i up to r, which is no further than `end`, is field c, but for the last of them
pub record UpTo (c i end r : ℕ) : Type 0 where
  pub some : i < r
  pub below : r ≤ end
  pub all : (j : ℕ) → i ≤ j → j + 1 < r → c ≡ j → ⊥

-- the fields from i up to r count nothing, whatever is read of them, but for the last of them
pub record Quiet (t : Table) (e : Element) (i r : ℕ) : Type 0 where
  pub all : (j : ℕ) → i ≤ j → j + 1 < r → (x : Option ℕ) (cs : List ℕ) → noted_by_lem t e j x cs ≡ cs

-- ## What a buffer has room for, and where records stand in it

-- the place of record m
abbrev pub place_at_lem : ℕ → ℕ
place_at_lem m = prefix_bytes + record_bytes * m

pub record Roomy (room : ℕ) (out : List ℕ) : Type 0 where
  pub fits : (m : ℕ) → m < room → place_at_lem m + record_bytes ≤ length out

-- the records of the readings rs, from record m on
abbrev pub stored : List ℕ → ℕ → List Reading → List ℕ
stored out m rs = puts out (place_at_lem m) (records rs)

-- ## One field

module _ (t : Table) (p : Payload) (room i : ℕ) (e : Element) (at made : ℕ) (out : List ℕ) where
  -- field i takes n bits, whatever counters there are and whether or not it is the last one; then `more` readings are made and the counters are
  -- changed so. Its reading, if it has one, is stored
  pub record Field (n more : ℕ) (count : List ℕ → List ℕ) (out' : List ℕ) : Type 0 where
    pub hits : (cs : List ℕ) (last : Bool) → one_of t p room i e last (progress_at at made cs) ≡ hit (span_at i e at n) (progress_at (at + n) (made + more) (count cs))
    pub makes : length (readings t p (span_at i e at n ∷ [])) ≡ more
    pub puts : out' ≡ stored out made (readings t p (span_at i e at n ∷ []))
    pub near : at + n ≤ 524288

  abbrev pub QuickSays : Option Quick → List ℕ → Type 0
  QuickSays (Some (Took n r)) out' = Field n 1 (noted_by_lem t e i (Some r)) out' × (made < room)
  QuickSays (Some (Skipped n)) out' = Field n 0 (λ cs. cs) out'
  QuickSays None out' = out' ≡ out

-- ## Fields one after another

-- from field i₀ on, in the state s₀, every field up to the last one is hit: the readings, the field after them, the state after them
pub data Hits (t : Table) (p : Payload) (room : ℕ) (e : Element) (i₀ : ℕ) (s₀ : Progress) : List Reading → ℕ → Progress → Type 0 where
  none : Hits t p room e i₀ s₀ [] i₀ s₀
  more : (rs : List Reading) (i : ℕ) (s : Progress) (v : Span) (z : Progress) → Hits t p room e i₀ s₀ rs i s → ((last : Bool) → one_of t p room i e last s ≡ hit v z)
      → Hits t p room e i₀ s₀ (rs ++ readings t p (v ∷ [])) (i + 1) z

pub record Ran (t : Table) (p : Payload) (room : ℕ) (e : Element) (from end : ℕ) (s : Progress) (out : List ℕ) (field : ℕ) (z : Progress) (out' : List ℕ) : Type 0 where
  pub readings : List Reading
  pub hits : Hits t p room e from s readings field z
  pub made : z.made ≡ s.made + length readings
  pub puts : out' ≡ stored out s.made readings
  pub low : from ≤ field
  pub high : field ≤ end

abbrev pub stretch_at : ℕ → ℕ → ℕ → Option ℕ → Stretch
stretch_at field at made x = record { field = field; at = at; made = made; last = x }

-- the same whatever counters there are, with the last field before the end still to be noted
pub record Runs (t : Table) (p : Payload) (room : ℕ) (e : Element) (from end at made : ℕ) (out : List ℕ) (r : Stretch) (out' : List ℕ) : Type 0 where
  pub all : (cs : List ℕ) → Ran t p room e from end (progress_at at made cs) out r.field (progress_at r.at r.made (noted_by_lem t e (end - 1) r.last cs)) out'

-- ## Turns one after another

-- some turns that go on lead from a walk to another one, and hand out these readings
pub data Led (t : Table) (p : Payload) (room : ℕ) (w₀ : Walk) : List Reading → Walk → Type 0 where
  here : Led t p room w₀ [] w₀
  then : (rs : List Reading) (w : Walk) → Led t p room w₀ rs w → goes_on_lem (next_of t p room w).answer ≡ true
      → Led t p room w₀ (rs ++ handed (next_of t p room w).answer) (next_of t p room w).walk

-- .. and their records are stored
pub record Leads (t : Table) (p : Payload) (room : ℕ) (w : Walk) (out : List ℕ) (z : Walk) (out' : List ℕ) : Type 0 where
  pub readings : List Reading
  pub led : Led t p room w readings z
  pub made : z.progress.made ≡ w.progress.made + length readings
  pub puts : out' ≡ stored out w.progress.made readings

-- the same within element e of set k, from offset j on to another, however many elements the set has and whatever counters there are
pub record LeadsIn (t : Table) (p : Payload) (room k e j at made : ℕ) (out : List ℕ) (r : Stretch) (out' : List ℕ) : Type 0 where
  pub all : (n : ℕ) (cs : List ℕ) → e < n
      → Leads t p room (walk_at_lem (Within k n e j) (progress_at at made cs)) out (walk_at_lem (Within k n e r.field) (progress_at r.at r.made cs)) out'

-- ## The count

-- a count put in front, where it has room
abbrev pub counted : List ℕ → ℕ → List ℕ
counted out n = pick (ltb (length out) prefix_bytes) out (puts out 0 (bytes_of 8 n))
