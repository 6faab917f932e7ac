-- Decoding into bytes: the answer is that of reading, with the room that the buffer has, and the buffer holds the readings.
use Rattle.std.specs.Prelude.{ℕ, List, length}
use Rattle.tables.specs.Table.{Table}
use Rattle.reading.specs.declared.Decoded.{Decoded}
use Rattle.reading.specs.Filling.{prepared_of, kept_unless}
use Rattle.reading.specs.Decode.{decoded_of_lem, readings_of}
use Rattle.records.specs.Layout.{room_in_lem, stored_in}

-- what was received, with a padding run of so many bytes, into a buffer of so many
abbrev pub decoded_into : Table → List ℕ → ℕ → ℕ → Decoded
decoded_into t received padded out = decoded_of_lem t received padded (room_in_lem out)

-- the buffer after the call: "Refusals 7 and 8 touch no buffer"
abbrev pub out_after : Table → List ℕ → ℕ → List ℕ → List ℕ
out_after t received padded out = kept_unless (prepared_of t (length received) padded) (stored_in (readings_of t received padded (room_in_lem (length out))) out) out
