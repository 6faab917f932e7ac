-- The built-in tables in words: document 01, the end of "Cases", and docs/MESSAGES.md.
use Rattle.std.specs.Prelude.{ℕ, ◌+◌, ◌*◌, ◌^◌, List, [], ◌∷◌}

-- the head of a table without length and minimum: the number of fields and of sets
abbrev pub head : ℕ → ℕ → ℕ
head fields sets = fields + sets * 2 ^ 16

-- an unsigned field without resolution, of a kind by its code and of a width
abbrev pub plain : ℕ → ℕ → ℕ
plain code width = code + width * 2 ^ 8

abbrev pub number : ℕ → ℕ
number width = plain 0 width

abbrev pub lookup : ℕ → ℕ
lookup width = plain 2 width

abbrev pub date : ℕ → ℕ
date width = plain 6 width

abbrev pub time : ℕ → ℕ
time width = plain 7 width

abbrev pub duration : ℕ → ℕ
duration width = plain 8 width

abbrev pub reserved : ℕ → ℕ
reserved width = plain 15 width

-- the field, signed
abbrev pub signed : ℕ → ℕ
signed field = field + 2 ^ 24

-- the field with a resolution, given as the bits of an f32, and its mark
abbrev pub single : ℕ → ℕ → ℕ
single resolution field = field + 1 * 2 ^ 25 + resolution * 2 ^ 32

abbrev pub double : ℕ → ℕ → ℕ
double resolution field = field + 2 * 2 ^ 25 + resolution * 2 ^ 32

abbrev pub set : ℕ → ℕ → ℕ → ℕ → ℕ
set start size counter maximum = start + size * 2 ^ 16 + counter * 2 ^ 32 + maximum * 2 ^ 48

-- the f32 nearest to each resolution
abbrev pub 1e-2 : ℕ
1e-2 = 0x3C23D70A

abbrev pub 1e-3 : ℕ
1e-3 = 0x3A83126F

abbrev pub 1e-4 : ℕ
1e-4 = 0x38D1B717

abbrev pub 1e-6 : ℕ
1e-6 = 0x358637BD

abbrev pub 1e-7 : ℕ
1e-7 = 0x33D6BF95

abbrev pub 1e-16 : ℕ
1e-16 = 0x24E69595

-- position: latitude, longitude
abbrev pub words129025 : List ℕ
words129025 = head 2 0 ∷ double 1e-7 (signed (number 32)) ∷ double 1e-7 (signed (number 32)) ∷ []

-- course and speed: "SID 8, COG reference 2, Reserved 6, COG 16 (0.0001), SOG 16 (0.01), Reserved 16"
abbrev pub words129026 : List ℕ
words129026 = head 6 0 ∷ number 8 ∷ lookup 2 ∷ reserved 6 ∷ single 1e-4 (number 16) ∷ single 1e-2 (number 16) ∷ reserved 16 ∷ []

-- position by satellite: 15 fields, of which the last, field 14, counts the stations; then 3 fields for each station, at most 45
abbrev pub words129029 : List ℕ
words129029 =
    head 18 1
    ∷ number 8
    ∷ date 16
    ∷ double 1e-4 (time 32)
    ∷ double 1e-16 (signed (number 64))
    ∷ double 1e-16 (signed (number 64))
    ∷ double 1e-6 (signed (number 64))
    ∷ lookup 4
    ∷ lookup 4
    ∷ lookup 2
    ∷ reserved 6
    ∷ number 8
    ∷ single 1e-2 (signed (number 16))
    ∷ single 1e-2 (signed (number 16))
    ∷ double 1e-2 (signed (number 32))
    ∷ number 8
    ∷ lookup 4
    ∷ number 12
    ∷ single 1e-2 (duration 16)
    ∷ set 15 3 14 45
    ∷ []

-- ours: "11, Reserved 2, 3, SID 8, three signed 32 at 0.001 (double), Reserved 8"
abbrev pub words130900 : List ℕ
words130900 =
    head 8 0
    ∷ lookup 11
    ∷ reserved 2
    ∷ lookup 3
    ∷ number 8
    ∷ double 1e-3 (signed (number 32))
    ∷ double 1e-3 (signed (number 32))
    ∷ double 1e-3 (signed (number 32))
    ∷ reserved 8
    ∷ []
