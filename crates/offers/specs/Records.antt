-- How the values of an encode lie in bytes: records of 24. It is no part of document 01, which leaves the boundary's layout open:
-- include/samopute.h says the same in C.
use Rattle.std.specs.Prelude.{ℕ, ◌+◌, ◌*◌, ◌/◌, ◌^◌, List, [], ◌∷◌, eqb, ltb, length, get_or, Option, Some, None}
use Rattle.std.specs.Float.{binary32, binary64}
use Rattle.std.specs.Float.Ieee.{of_bits}
use Rattle.std.specs.Int.Signed.{mag}
use Rattle.bits.specs.Bits.{pick, bits_at}
use Rattle.bits.specs.Calls.{bytes}
use Rattle.descriptor.specs.declared.PgnBytes.{PgnBytes}
use Rattle.descriptor.specs.declared.PgnValue.{PgnValue}
use Rattle.descriptor.specs.declared.PgnValue.TheVariants.{U64, U32, U16, U8, I64, I32, I16, I8, F64, F32, Bytes}
use Rattle.numbers.specs.Signs.{signed_of}
use Rattle.offers.specs.declared.Offer.{Offer}
use Rattle.offers.specs.declared.Offer.TheVariants.{Nothing, NoKind, Value}
use Rattle.offers.specs.Values.{Values}

-- ## A number by its kind's code and 64 bits

-- a value whose size is below its kind's limit; else it is of no kind
abbrev pub within : ℕ → ℕ → PgnValue → Offer
within size limit v = pick (ltb size limit) (Value v) NoKind

-- what 64 bits are by their kinds' codes, from 1 on: nothing is cut to low bits. The signed kinds are in two's complement of 64 bits, where
-- -1 is of size 0, as 0 is; a float's bits are its pattern
abbrev pub numbers_of : ℕ → List Offer
numbers_of word =
    Value (U64 word)
    ∷ within word (2 ^ 32) (U32 word)
    ∷ within word (2 ^ 16) (U16 word)
    ∷ within word (2 ^ 8) (U8 word)
    ∷ Value (I64 (signed_of 64 word))
    ∷ within (mag (signed_of 64 word)) (2 ^ 31) (I32 (signed_of 64 word))
    ∷ within (mag (signed_of 64 word)) (2 ^ 15) (I16 (signed_of 64 word))
    ∷ within (mag (signed_of 64 word)) (2 ^ 7) (I8 (signed_of 64 word))
    ∷ Value (F64 (of_bits binary64 word))
    ∷ within word (2 ^ 32) (F32 (of_bits binary32 word))
    ∷ []

-- every other code is that of no number
abbrev pub offer_of_lem : ℕ → ℕ → Offer
offer_of_lem code word = get_or (NoKind ∷ numbers_of word) code NoKind

-- ## A record

abbrev pub record_bytes : ℕ
record_bytes = 24

-- the 8 bytes from byte q on, the lowest first
abbrev pub word_at : List ℕ → ℕ → ℕ
word_at s q = bits_at s (q * 8) 64

-- a mark of 0 says that there is no encoding byte
abbrev pub encoding_in_lem : ℕ → ℕ → Option ℕ
encoding_in_lem mark byte = pick (eqb mark 0) None (Some byte)

-- a text or bytes: byte 1 marks the encoding byte, which is byte 2; from byte 8 the place in the lent text, from byte 16 the length. Bytes 3
-- to 7 are not looked at
abbrev pub text_at_lem : List ℕ → ℕ → PgnBytes
text_at_lem s q = record { start = bytes (word_at s (q + 8)); len = bytes (word_at s (q + 16)); encoding = encoding_in_lem (get_or s (q + 1) 0) (get_or s (q + 2) 0) }

-- the record from byte q on: its first byte is the kind's code, 11 that of a text or bytes
abbrev pub record_at_lem : List ℕ → ℕ → Offer
record_at_lem s q = pick (eqb (get_or s q 0) 11) (Value (Bytes (text_at_lem s q))) (offer_of_lem (get_or s q 0) (word_at s (q + 8)))

-- ## The values

-- a last record that is cut short counts
abbrev pub count_of : List ℕ → ℕ
count_of s = (length s + 23) / record_bytes

-- and is of no kind
abbrev pub offered_at : List ℕ → ℕ → Offer
offered_at s j = pick (ltb j (length s / record_bytes)) (record_at_lem s (j * record_bytes)) (pick (ltb j (count_of s)) NoKind Nothing)

abbrev pub values_in : List ℕ → Values
values_in s = record { count = count_of s; offered = offered_at s }
