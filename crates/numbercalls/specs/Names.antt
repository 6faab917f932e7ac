-- Names by their codes: docs/CALLS.md, "Kinds, from 0"; the codes of values are those of `offers`, specs/Records.antt.
use Rattle.std.specs.Prelude.{ℕ, List, [], ◌∷◌}

-- the kinds of fields, from 0 on
abbrev pub kind_names : List (List ℕ)
kind_names =
    -- Number
    (78 ∷ 117 ∷ 109 ∷ 98 ∷ 101 ∷ 114 ∷ [])
    -- Float
    ∷ (70 ∷ 108 ∷ 111 ∷ 97 ∷ 116 ∷ [])
    -- Lookup
    ∷ (76 ∷ 111 ∷ 111 ∷ 107 ∷ 117 ∷ 112 ∷ [])
    -- IndirectLookup
    ∷ (73 ∷ 110 ∷ 100 ∷ 105 ∷ 114 ∷ 101 ∷ 99 ∷ 116 ∷ 76 ∷ 111 ∷ 111 ∷ 107 ∷ 117 ∷ 112 ∷ [])
    -- BitLookup
    ∷ (66 ∷ 105 ∷ 116 ∷ 76 ∷ 111 ∷ 111 ∷ 107 ∷ 117 ∷ 112 ∷ [])
    -- Pgn
    ∷ (80 ∷ 103 ∷ 110 ∷ [])
    -- Date
    ∷ (68 ∷ 97 ∷ 116 ∷ 101 ∷ [])
    -- Time
    ∷ (84 ∷ 105 ∷ 109 ∷ 101 ∷ [])
    -- Duration
    ∷ (68 ∷ 117 ∷ 114 ∷ 97 ∷ 116 ∷ 105 ∷ 111 ∷ 110 ∷ [])
    -- Mmsi
    ∷ (77 ∷ 109 ∷ 115 ∷ 105 ∷ [])
    -- Decimal
    ∷ (68 ∷ 101 ∷ 99 ∷ 105 ∷ 109 ∷ 97 ∷ 108 ∷ [])
    -- StringFix
    ∷ (83 ∷ 116 ∷ 114 ∷ 105 ∷ 110 ∷ 103 ∷ 70 ∷ 105 ∷ 120 ∷ [])
    -- StringLz
    ∷ (83 ∷ 116 ∷ 114 ∷ 105 ∷ 110 ∷ 103 ∷ 76 ∷ 122 ∷ [])
    -- StringLau
    ∷ (83 ∷ 116 ∷ 114 ∷ 105 ∷ 110 ∷ 103 ∷ 76 ∷ 97 ∷ 117 ∷ [])
    -- Binary
    ∷ (66 ∷ 105 ∷ 110 ∷ 97 ∷ 114 ∷ 121 ∷ [])
    -- Reserved
    ∷ (82 ∷ 101 ∷ 115 ∷ 101 ∷ 114 ∷ 118 ∷ 101 ∷ 100 ∷ [])
    -- Spare
    ∷ (83 ∷ 112 ∷ 97 ∷ 114 ∷ 101 ∷ [])
    -- IsoName
    ∷ (73 ∷ 115 ∷ 111 ∷ 78 ∷ 97 ∷ 109 ∷ 101 ∷ [])
    -- Unimplemented
    ∷ (85 ∷ 110 ∷ 105 ∷ 109 ∷ 112 ∷ 108 ∷ 101 ∷ 109 ∷ 101 ∷ 110 ∷ 116 ∷ 101 ∷ 100 ∷ [])
    ∷ []

-- the kinds of values, from 1 on; no value has the first
abbrev pub value_kind_names : List (List ℕ)
value_kind_names =
    -- ?
    (63 ∷ [])
    -- U64
    ∷ (85 ∷ 54 ∷ 52 ∷ [])
    -- U32
    ∷ (85 ∷ 51 ∷ 50 ∷ [])
    -- U16
    ∷ (85 ∷ 49 ∷ 54 ∷ [])
    -- U8
    ∷ (85 ∷ 56 ∷ [])
    -- I64
    ∷ (73 ∷ 54 ∷ 52 ∷ [])
    -- I32
    ∷ (73 ∷ 51 ∷ 50 ∷ [])
    -- I16
    ∷ (73 ∷ 49 ∷ 54 ∷ [])
    -- I8
    ∷ (73 ∷ 56 ∷ [])
    -- F64
    ∷ (70 ∷ 54 ∷ 52 ∷ [])
    -- F32
    ∷ (70 ∷ 51 ∷ 50 ∷ [])
    -- Bytes
    ∷ (66 ∷ 121 ∷ 116 ∷ 101 ∷ 115 ∷ [])
    ∷ []

-- u unsigned, s signed
abbrev pub sign_names : List (List ℕ)
sign_names = (117 ∷ []) ∷ (115 ∷ []) ∷ []

-- '-' no resolution, S single, D double
abbrev pub mark_names : List (List ℕ)
mark_names = (45 ∷ []) ∷ (83 ∷ []) ∷ (68 ∷ []) ∷ []

-- the call scale
abbrev pub scale_name : List ℕ
scale_name = 115 ∷ 99 ∷ 97 ∷ 108 ∷ 101 ∷ []

-- the call raw
abbrev pub raw_name : List ℕ
raw_name = 114 ∷ 97 ∷ 119 ∷ []
