-- The calls by their names: document 01, "Bit calls".
use Rattle.std.specs.Prelude.{ℕ, List, [], ◌∷◌, ◌++◌, get_or}
use Rattle.columns.specs.Names.{place_in}
use Rattle.bitcalls.specs.declared.names.Width.{Width}
use Rattle.bitcalls.specs.declared.names.Width.TheVariants.{W64, W32, W16, W8}
use Rattle.bitcalls.specs.declared.names.Call.{Call}
use Rattle.bitcalls.specs.declared.names.Call.TheVariants.{Read, Advance, ReadSlice, Write, WriteAdvance, WriteSlice, Remaining, Unknown}

-- ## The words that names are made of

-- read_
abbrev pub reads : List ℕ
reads = 114 ∷ 101 ∷ 97 ∷ 100 ∷ 95 ∷ []

-- write_
abbrev pub writes : List ℕ
writes = 119 ∷ 114 ∷ 105 ∷ 116 ∷ 101 ∷ 95 ∷ []

-- u64, u32, u16, u8
abbrev pub u64 : List ℕ
u64 = 117 ∷ 54 ∷ 52 ∷ []

abbrev pub u32 : List ℕ
u32 = 117 ∷ 51 ∷ 50 ∷ []

abbrev pub u16 : List ℕ
u16 = 117 ∷ 49 ∷ 54 ∷ []

abbrev pub u8 : List ℕ
u8 = 117 ∷ 56 ∷ []

-- advance
abbrev pub advance : List ℕ
advance = 97 ∷ 100 ∷ 118 ∷ 97 ∷ 110 ∷ 99 ∷ 101 ∷ []

-- slice
abbrev pub slice : List ℕ
slice = 115 ∷ 108 ∷ 105 ∷ 99 ∷ 101 ∷ []

-- bits_remaining
abbrev pub remaining : List ℕ
remaining = 98 ∷ 105 ∷ 116 ∷ 115 ∷ 95 ∷ 114 ∷ 101 ∷ 109 ∷ 97 ∷ 105 ∷ 110 ∷ 105 ∷ 110 ∷ 103 ∷ []

-- ## Which call a name is

abbrev pub names : List (List ℕ)
names =
    (reads ++ u64) ∷ (reads ++ u32) ∷ (reads ++ u16) ∷ (reads ++ u8) ∷ (writes ++ u64) ∷ (writes ++ u32) ∷ (writes ++ u16) ∷ (writes ++ u8)
    ∷ advance ∷ (writes ++ advance) ∷ (reads ++ slice) ∷ (writes ++ slice) ∷ remaining ∷ []

-- the calls, in the same order
abbrev pub calls : List Call
calls =
    Read W64 ∷ Read W32 ∷ Read W16 ∷ Read W8 ∷ Write W64 ∷ Write W32 ∷ Write W16 ∷ Write W8
    ∷ Advance ∷ WriteAdvance ∷ ReadSlice ∷ WriteSlice ∷ Remaining ∷ []

unfoldable pub call_of : List ℕ → Call
call_of name = get_or calls (place_in name names) Unknown

-- ## What a call takes

-- the spaces between the fields of a line: "only the calls that write bits or bytes have a VALUE"
abbrev pub spaces_of_lem : Call → ℕ
spaces_of_lem (Write w) = 4
spaces_of_lem WriteSlice = 4
spaces_of_lem (Read w) = 3
spaces_of_lem Advance = 3
spaces_of_lem ReadSlice = 3
spaces_of_lem WriteAdvance = 3
spaces_of_lem Remaining = 3
spaces_of_lem Unknown = 3

-- the largest COUNT: a width has 32 bits
abbrev pub count_max_lem : Call → ℕ
count_max_lem ReadSlice = 0xffff_ffff_ffff_ffff
count_max_lem WriteSlice = 0xffff_ffff_ffff_ffff
count_max_lem Remaining = 0xffff_ffff_ffff_ffff
count_max_lem (Read w) = 0xffff_ffff
count_max_lem Advance = 0xffff_ffff
count_max_lem (Write w) = 0xffff_ffff
count_max_lem WriteAdvance = 0xffff_ffff
count_max_lem Unknown = 0xffff_ffff

-- the width that a call takes at the most
abbrev pub widest : Width → ℕ
widest W64 = 64
widest W32 = 32
widest W16 = 16
widest W8 = 8

-- the largest number of so many bits
abbrev pub largest : Width → ℕ
largest W64 = 0xffff_ffff_ffff_ffff
largest W32 = 0xffff_ffff
largest W16 = 0xffff
largest W8 = 0xff
