-- The table check: document 01, "Table rules, checked a to h, lowest index first".
use Rattle.std.specs.Prelude.{◌≡◌, ℕ, zero, suc, Bool, true, ◌&&◌, ◌||◌, leb, eqb, Option, Some, None, Result, Ok, Err}
use Rattle.bits.specs.Bits.{pick}
use Rattle.tables.specs.declared.TableRule.{TableRule}
use Rattle.tables.specs.declared.TableRule.TheVariants.{A, B, C, D, E, F, G, H}
use Rattle.tables.specs.declared.BrokenRule.{BrokenRule}
use Rattle.tables.specs.Table.{Table}
use Rattle.tables.specs.Rules.{class_of_lem, known, within, width_fits_lem, resolution_fits_lem, sign_fits_lem, scaled, place_fits_lem, set_fits_lem, counter_fits_lem}

-- what the check answers: nothing is wrong, or the rule that is broken and where
abbrev pub Checked : Type 0
Checked = Result (Unit {0}) BrokenRule

-- the limits of rule a
abbrev pub field_max : ℕ
field_max = 64

abbrev pub set_max : ℕ
set_max = 4

abbrev pub payload_max : ℕ
payload_max = 223

-- a length that is not given, or is 1 to 223
abbrev pub length_fits : ℕ → Bool
length_fits n = leb n payload_max

-- a: "1 to 64 fields, at most 4 repeating sets; length and minimum length, if given, 1 to 223, minimum not above length"
abbrev pub sizes_fit_lem : Table → Bool
sizes_fit_lem t =
    within 1 field_max t.count
    && (leb t.sets set_max
    && (length_fits t.length && (length_fits t.minimum && (eqb t.length 0 || leb t.minimum t.length))))

-- whether field or set i keeps a rule
abbrev pub keeps : TableRule → Table → ℕ → Bool
keeps A t i = sizes_fit_lem t
keeps B t i = known (class_of_lem (t.field i).kind)
keeps C t i = width_fits_lem (class_of_lem (t.field i).kind) (t.field i).width
keeps D t i = resolution_fits_lem (class_of_lem (t.field i).kind) (t.field i).resolution
keeps E t i = sign_fits_lem (class_of_lem (t.field i).kind) (t.field i).width (t.field i).signed (scaled (t.field i).resolution)
keeps F t i = place_fits_lem t i
keeps G t k = set_fits_lem t k
keeps H t k = counter_fits_lem t k

-- how many fields or sets a rule speaks of: the table for a
abbrev pub reach : TableRule → Table → ℕ
reach A t = 1
reach B t = t.count
reach C t = t.count
reach D t = t.count
reach E t = t.count
reach F t = t.count
reach G t = t.sets
reach H t = t.sets

-- the lowest index that breaks the rule, of the n from i on
unfoldable pub found_from : TableRule → Table → ℕ → ℕ → Option ℕ
found_from rule t i zero = None
found_from rule t i (suc n) = pick (keeps rule t i) (found_from rule t (suc i) n) (Some i)

-- a rule that is broken is the answer, else what follows
abbrev pub settle : TableRule → Option ℕ → Checked → Checked
settle rule (Some i) later = Err (record { rule = rule; index = i })
settle rule None later = later

-- "lowest index first"
abbrev pub first : TableRule → Table → Checked → Checked
first rule t later = settle rule (found_from rule t 0 (reach rule t)) later

-- "checked a to h"
abbrev pub from_b : Table → Checked
from_b t = first B t (first C t (first D t (first E t (first F t (first G t (first H t (Ok tt)))))))

abbrev pub check_of : Table → Checked
check_of t = first A t (from_b t)

-- a field that keeps the rules b to f
pub record KeptField (t : Table) (i : ℕ) : Type 0 where
  pub b : keeps B t i ≡ true
  pub c : keeps C t i ≡ true
  pub d : keeps D t i ≡ true
  pub e : keeps E t i ≡ true
  pub f : keeps F t i ≡ true

-- a set that keeps the rules g and h
pub record KeptSet (t : Table) (k : ℕ) : Type 0 where
  pub g : keeps G t k ≡ true
  pub h : keeps H t k ≡ true

-- the place of a rule's letter in the alphabet
abbrev pub letter_of : TableRule → ℕ
letter_of A = 1
letter_of B = 2
letter_of C = 3
letter_of D = 4
letter_of E = 5
letter_of F = 6
letter_of G = 7
letter_of H = 8
