-- A struct's bytes, on a machine that puts the low byte first, are those of its reading's record. Assumes nothing.
use mathlib.Core.Path.{◌≡◌, ap}
use mathlib.Core.List.{List, [], ◌∷◌}
use Prim.Native.Nat.{ℕ, ◌+◌, ◌*◌, ◌^◌}
use native.Mathlib.Omega.{arith}
use Rattle.std.specs.Prelude.{Option, Some, None}
use Rattle.reading.specs.declared.Reading.{Reading}
use Rattle.numbers.specs.Words.{code_of, silence_of_lem}
use Rattle.records.specs.Layout.{laid, raw_mark_lem, encoding_mark_lem, bytes_in_lem, record_of_lem}
use Rattle.structs.specs.declared.Record.{Record}
use Rattle.structs.specs.Structs.{encoding_given, encoding_byte, struct_of}

-- the fifth number: its bytes from the lowest on
abbrev tag_in : Record → ℕ
tag_in s =
    s.availability + 2 ^ 8 * s.value_kind + 2 ^ 16 * s.has_raw + 2 ^ 24 * s.has_encoding + 2 ^ 32 * s.encoding + 2 ^ 40 * s.reserved_0 + 2 ^ 48 * s.reserved_1 + 2 ^ 56 * s.reserved_2

-- the eight numbers of 64 bits that a struct is
abbrev pub numbers_in : Record → List ℕ
numbers_in s = s.field ∷ s.element ∷ s.start ∷ s.bits ∷ tag_in s ∷ s.raw ∷ s.value ∷ s.length ∷ []

marks : (a b c : ℕ) (e : Option ℕ) → a + 2 ^ 8 * b + 2 ^ 16 * c + 2 ^ 24 * encoding_given e + 2 ^ 32 * encoding_byte e + 2 ^ 40 * 0 + 2 ^ 48 * 0 + 2 ^ 56 * 0 ≡ a + 2 ^ 8 * b + 2 ^ 16 * c + 2 ^ 24 * encoding_mark_lem e
marks a b c None = omega arith
marks a b c (Some x) = omega arith

pub same_bytes : (r : Reading) → laid (numbers_in (struct_of r)) ≡ laid (record_of_lem r)
same_bytes r =
    ap (λ (n : ℕ). laid (r.field ∷ (struct_of r).element ∷ r.start.0 ∷ r.bits.0 ∷ n ∷ (struct_of r).raw ∷ (struct_of r).value ∷ (struct_of r).length ∷ []))
    (marks (silence_of_lem r.availability) (code_of r.value) (raw_mark_lem r.raw) (bytes_in_lem r.value).encoding)
