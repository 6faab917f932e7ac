-- How values cross a boundary of numbers: a code for the kind and 64 bits, and whether the raw says nothing.
use Rattle.std.specs.Prelude.{ℕ, suc, ◌-◌, ◌^◌, min, false, ℤ, pos, negsuc}
use Rattle.std.specs.Float.{binary32, binary64}
use Rattle.std.specs.Float.Ieee.{to_bits}
use Rattle.descriptor.specs.declared.Availability.{Availability}
use Rattle.descriptor.specs.declared.Availability.TheVariants.{Available, NotAvailable}
use Rattle.descriptor.specs.declared.FieldDescriptor.{FieldDescriptor}
use Rattle.descriptor.specs.declared.PgnValue.{PgnValue}
use Rattle.descriptor.specs.declared.PgnValue.TheVariants.{U64, U32, U16, U8, I64, I32, I16, I8, F64, F32, Bytes}
use Rattle.numbers.specs.declared.NumberWords.{NumberWords}
use Rattle.numbers.specs.Scaling.{unsigned_of, scale_of}
use Rattle.numbers.specs.Special.{raw_availability_of, number_availability_of}

-- a whole number in two's complement of 64 bits
abbrev pub twos_of : ℤ → ℕ
twos_of (pos m) = m
twos_of (negsuc m) = 2 ^ 64 - suc m

-- the code of a value's kind
abbrev pub code_of : PgnValue → ℕ
code_of (U64 n) = 1
code_of (U32 n) = 2
code_of (U16 n) = 3
code_of (U8 n) = 4
code_of (I64 z) = 5
code_of (I32 z) = 6
code_of (I16 z) = 7
code_of (I8 z) = 8
code_of (F64 x) = 9
code_of (F32 x) = 10
code_of (Bytes b) = 11

-- the 64 bits of a value: a float's are its pattern, and bytes have none
abbrev pub word_of_lem : PgnValue → ℕ
word_of_lem (U64 n) = n
word_of_lem (U32 n) = n
word_of_lem (U16 n) = n
word_of_lem (U8 n) = n
word_of_lem (I64 z) = twos_of z
word_of_lem (I32 z) = twos_of z
word_of_lem (I16 z) = twos_of z
word_of_lem (I8 z) = twos_of z
word_of_lem (F64 x) = to_bits binary64 x
word_of_lem (F32 x) = to_bits binary32 x
word_of_lem (Bytes b) = 0

-- 1 if a reading says nothing
abbrev pub silence_of_lem : Availability → ℕ
silence_of_lem Available = 0
silence_of_lem NotAvailable = 1

-- a value and its silence as numbers
abbrev pub words_of : PgnValue → ℕ → NumberWords
words_of v silence = record { code = code_of v; word = word_of_lem v; silence = silence }

-- `number_words`: the value of a field's raw, and whether it says nothing
abbrev pub number_words_of : FieldDescriptor → ℕ → NumberWords
number_words_of f raw = words_of (scale_of f raw) (silence_of_lem (number_availability_of f raw))

-- `simple_words`: the same of a raw of n bits in a field that is neither signed nor scaled; proofs/Simple.antt ties it to the line above
abbrev pub simple_words_of : ℕ → ℕ → NumberWords
simple_words_of n raw = words_of (unsigned_of n raw) (silence_of_lem (raw_availability_of (min n 64) false raw))
