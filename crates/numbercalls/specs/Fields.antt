-- A field by the words of a line: src/main.rt, "KIND WIDTH SIGN MARK RESOLUTION".
use Rattle.std.specs.Prelude.{ℕ, List, [], ◌∷◌, Bool, ◌&&◌, eqb, leb, ltb, length, Option, Some, None, is_some, unwrap_or}
use Rattle.bits.specs.Bits.{pick}
use Rattle.columns.specs.Parts.{field}
use Rattle.columns.specs.Numbers.{decimal_in, hex_in}
use Rattle.columns.specs.Names.{same, place_in}
use Rattle.columns.specs.Runs.{dash}
use Rattle.numbercalls.specs.declared.line_fields.Field.{Field}
use Rattle.numbercalls.specs.Names.{kind_names, sign_names, mark_names}

-- ## A code: a number of 32 bits, where there is one

-- there is none
abbrev pub no_code_lem : Option ℕ
no_code_lem = None

-- the largest number of 32 bits
abbrev pub code_max : ℕ
code_max = 0xffff_ffff

-- n, if the test holds and n has 32 bits
abbrev pub code_if_lem : Bool → ℕ → Option ℕ
code_if_lem t n = pick (t && leb n code_max) (Some n) no_code_lem

-- the place of a name in a list, if it is there
unfoldable pub placed : List ℕ → List (List ℕ) → Option ℕ
placed name names = code_if_lem (ltb (place_in name names) (length names)) (place_in name names)

-- the number that a text is in decimal
unfoldable pub numbered : List ℕ → Option ℕ
numbered s = code_if_lem (is_some (decimal_in s)) (unwrap_or (decimal_in s) 0)

-- the place of a name in a list, or the number that it is
unfoldable pub named : List ℕ → List (List ℕ) → Option ℕ
named s names = pick (is_some (placed s names)) (placed s names) (numbered s)

-- "the eight digits of a float's bits, or '-' for none where MARK is '-'", which is 0
unfoldable pub bits_by : ℕ → List ℕ → Option ℕ
bits_by mark s = pick (same s (dash ∷ [])) (code_if_lem (eqb mark 0) 0) (code_if_lem (is_some (hex_in s) && eqb (length s) 8) (unwrap_or (hex_in s) 0))

-- ## The words of a line

-- "a field's kind by its name, or by any code in decimal"
unfoldable pub kind_in : List ℕ → Option ℕ
kind_in line = named (field line 1) kind_names

-- "WIDTH is decimal"
unfoldable pub width_in : List ℕ → Option ℕ
width_in line = numbered (field line 2)

-- "SIGN is u or s"
unfoldable pub sign_in : List ℕ → Option ℕ
sign_in line = placed (field line 3) sign_names

-- "MARK is '-', S, D or any number in decimal"
unfoldable pub mark_in : List ℕ → Option ℕ
mark_in line = named (field line 4) mark_names

-- RESOLUTION, by the mark
unfoldable pub resolution_in : List ℕ → Option ℕ
resolution_in line = bits_by (unwrap_or (mark_in line) 0) (field line 5)

-- there is a field if each of its codes is there
abbrev pub field_by_lem : Option ℕ → Option ℕ → Option ℕ → Option ℕ → Option ℕ → Option Field
field_by_lem kind width sign mark resolution =
    pick (is_some kind && is_some width && is_some sign && is_some mark && is_some resolution)
    (Some
    (record {
      kind = unwrap_or kind 0;
      width = unwrap_or width 0;
      sign = unwrap_or sign 0;
      mark = unwrap_or mark 0;
      resolution = unwrap_or resolution 0;
    }))
    None

-- the words from place 1 to 5
unfoldable pub field_in : List ℕ → Option Field
field_in line = field_by_lem (kind_in line) (width_in line) (sign_in line) (mark_in line) (resolution_in line)
