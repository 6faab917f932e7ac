-- Counters and the elements of a set: document 01, "Reading a payload", "Group count".
use Rattle.walking.specs.Walk.{Element}
use Rattle.std.specs.Prelude.{ℕ, zero, suc, ◌/◌, min, List, set, leb, eqb, Result, Ok, Err, Option, Some, None}
use Rattle.bits.specs.Bits.{pick}
use Rattle.tables.specs.Table.{Table}
use Rattle.tables.specs.Rules.{group_bits_lem}
use Rattle.tables.specs.Check.{set_max}
use Rattle.numbers.specs.Scaling.{bits_of}
use Rattle.numbers.specs.Special.{elements_of}
use Rattle.fields.specs.declared.DecodeRefusal.{DecodeRefusal}
use Rattle.fields.specs.declared.DecodeRefusal.TheVariants.{RepetitionsExceedCapacity}

-- the counters of the first k sets, once field i has been read as r
unfoldable pub noted_to : Table → ℕ → ℕ → List ℕ → ℕ → List ℕ
noted_to t i r cs zero = cs
noted_to t i r cs (suc k) = pick (eqb (t.set k).counter i) (set (noted_to t i r cs k) k r) (noted_to t i r cs k)

-- the counters of every set: there are at most so many
abbrev pub noted : Table → ℕ → ℕ → List ℕ → List ℕ
noted t i r cs = noted_to t i r cs (min t.sets set_max)

-- a field in a set, and one that has no raw, counts nothing: rule h, "is in no set"
abbrev pub noted_by_lem : Table → Element → ℕ → Option ℕ → List ℕ → List ℕ
noted_by_lem t None i (Some r) cs = noted t i r cs
noted_by_lem t None i None cs = cs
noted_by_lem t (Some e) i r cs = cs

-- "bits left div the set's declared bits"
abbrev pub fitting : Table → ℕ → ℕ → ℕ
fitting t k left = pick (eqb (group_bits_lem t k) 0) 0 (left / group_bits_lem t k)

-- "the counter's raw, 0 if all ones; then the smaller of it and [those that fit]"
abbrev pub element_count_lem : Table → ℕ → ℕ → ℕ → ℕ
element_count_lem t k r left = min (elements_of (bits_of (t.field (t.set k).counter)) r) (fitting t k left)

-- refusal 5, with "set, count, maximum"
abbrev pub too_many : ℕ → ℕ → ℕ → DecodeRefusal
too_many k n most = RepetitionsExceedCapacity k n most

-- "then refusal 5 if over the maximum"
abbrev pub group_count_of : Table → ℕ → ℕ → ℕ → Result ℕ DecodeRefusal
group_count_of t k r left =
    pick (leb (element_count_lem t k r left) (t.set k).maximum) (Ok (element_count_lem t k r left)) (Err (too_many k (element_count_lem t k r left) (t.set k).maximum))
