-- A table of fields and repeating sets, and how it stands in words. Definitions only.
use Rattle.std.specs.Prelude.{ℕ, ◌+◌, ◌/◌, ◌%◌, ◌^◌, ◌≤◌, ◌≡◌, ◌⊎◌, List, false, ◌&&◌, ◌||◌, eqb, leb, get_or}
use Rattle.bits.specs.Bits.{pick}
use Rattle.descriptor.specs.declared.FieldKind.TheVariants.{Number, Lookup}
use Rattle.descriptor.specs.declared.Resolution.TheVariants.{Unscaled}
use Rattle.descriptor.specs.declared.FieldDescriptor.{FieldDescriptor}
use Rattle.descriptor.specs.Kinds.{kind_of, resolution_of_lem}
use Rattle.tables.specs.declared.RepeatingFieldSet.{RepeatingFieldSet}

-- fields 0 to `count` - 1, sets 0 to `sets` - 1; a length or a minimum of 0 is none
pub record Table : Type 0 where
  pub count : ℕ
  pub field : ℕ → FieldDescriptor
  pub sets : ℕ
  pub set : ℕ → RepeatingFieldSet
  pub length : ℕ
  pub minimum : ℕ

-- w bits of a word from bit `at` on
abbrev pub part : ℕ → ℕ → ℕ → ℕ
part word at w = word / 2 ^ at % 2 ^ w

-- a field in a word: kind 8 bits, width 16, signed 1, mark 2, 5 unused, the resolution's 32
abbrev pub field_of : ℕ → FieldDescriptor
field_of word =
    record {
      kind = kind_of (word % 2 ^ 8);
      width = part word 8 16;
      signed = eqb (part word 24 1) 1;
      resolution = resolution_of_lem (part word 25 2) (part word 32 32);
    }

-- the width of the field in a word, if it is a simple number: Number or Lookup, at most 64 bits wide, and nothing above its width: no sign, no
-- mark, no resolution; else 0. It is no rule of document 01: quick ways go by it
abbrev pub simple_width_lem : ℕ → ℕ
simple_width_lem word = pick (eqb (word / 2 ^ 24) 0 && ((eqb (word % 2 ^ 8) 0 || eqb (word % 2 ^ 8) 2) && leb (part word 8 16) 64)) (part word 8 16) 0

-- what such a field is
pub record Simple (f : FieldDescriptor) (n : ℕ) : Type 0 where
  pub kind : (f.kind ≡ Number) ⊎ (f.kind ≡ Lookup)
  pub width : f.width ≡ n
  pub unsigned : f.signed ≡ false
  pub unscaled : f.resolution ≡ Unscaled
  pub small : n ≤ 64

-- a set in a word: start, size, counter and maximum, 16 bits each
abbrev pub set_of_lem : ℕ → RepeatingFieldSet
set_of_lem word = record { start = word % 2 ^ 16; size = part word 16 16; counter = part word 32 16; maximum = part word 48 16 }

-- the head: the number of fields and of sets, the length and the minimum, 16 bits each
abbrev pub count_of : List ℕ → ℕ
count_of words = get_or words 0 0 % 2 ^ 16

abbrev pub sets_of : List ℕ → ℕ
sets_of words = part (get_or words 0 0) 16 16

-- a table in words: the head, then a word for each field, then one for each set; a word that is not there is 0
abbrev pub table_of : List ℕ → Table
table_of words =
    record {
      count = count_of words;
      field = λ (i : ℕ). field_of (get_or words (1 + i) 0);
      sets = sets_of words;
      set = λ (k : ℕ). set_of_lem (get_or words (1 + count_of words + k) 0);
      length = part (get_or words 0 0) 32 16;
      minimum = part (get_or words 0 0) 48 16;
    }
