-- A reading as a C struct. It is no part of document 01, which leaves the boundary's layout open: include/samopute.h says the same in C.
use Rattle.std.specs.Prelude.{ℕ, List, [], ◌∷◌, length, Option, Some, None}
use Rattle.numbers.specs.Words.{code_of, silence_of_lem}
use Rattle.tables.specs.Table.{Table}
use Rattle.reading.specs.declared.Reading.{Reading}
use Rattle.reading.specs.Decode.{readings_of}
use Rattle.lent_readings.specs.Run.{entries_of}
use Rattle.records.specs.Layout.{element_word_lem, raw_word_lem, raw_mark_lem, bytes_in_lem, value_word_lem}
use Rattle.structs.specs.declared.Record.{Record}

-- whether there is an encoding byte, and that byte
abbrev pub encoding_given : Option ℕ → ℕ
encoding_given None = 0
encoding_given (Some b) = 1

abbrev pub encoding_byte : Option ℕ → ℕ
encoding_byte None = 0
encoding_byte (Some b) = b

-- the struct of a reading: the words of its record, the fifth taken apart
abbrev pub struct_of : Reading → Record
struct_of r = record {
  field = r.field;
  element = element_word_lem r.element;
  start = r.start.0;
  bits = r.bits.0;
  availability = silence_of_lem r.availability;
  value_kind = code_of r.value;
  has_raw = raw_mark_lem r.raw;
  has_encoding = encoding_given (bytes_in_lem r.value).encoding;
  encoding = encoding_byte (bytes_in_lem r.value).encoding;
  reserved_0 = 0;
  reserved_1 = 0;
  reserved_2 = 0;
  raw = raw_word_lem r.raw;
  value = value_word_lem r.value;
  length = (bytes_in_lem r.value).len.0;
}

unfoldable pub structs : List Reading → List Record
structs [] = []
structs (r ∷ rs) = struct_of r ∷ structs rs

-- a run after a decode: the structs of the readings that were made, and every later entry as it was
abbrev pub structs_after : Table → List ℕ → ℕ → List Record → List Record
structs_after t received padded out = entries_of (structs (readings_of t received padded (length out))) out
