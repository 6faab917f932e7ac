-- What each call answers and leaves, as its contract says it: one equation for the answer, and one for the padding run at exit where it is lent to be written. They put
-- the definitions of Filling, Decode and Steps together over the words and bytes themselves, and rule nothing of their own: only the code needs them.
use Rattle.std.specs.Prelude.{◌≡◌, ℕ, List, length, Result, Option}
use Rattle.tables.specs.Table.{table_of}
use Rattle.fields.specs.declared.DecodeRefusal.{DecodeRefusal}
use Rattle.fields.specs.Payload.{payload_of}
use Rattle.descriptor.specs.declared.PgnValue.{PgnValue}
use Rattle.reading.specs.declared.Span.{Span}
use Rattle.reading.specs.declared.Decoded.{Decoded}
use Rattle.reading.specs.Filling.{prepared_of, run_after}
use Rattle.reading.specs.Decode.{walk_of, end_of, decoded_of_lem, reading_of}

-- ## Of what was received

-- `prepare`
abbrev pub Prepares : Result (Unit {0}) DecodeRefusal → List ℕ → List ℕ → List ℕ → List ℕ → Type 0
Prepares r run words received padded =
    let t = table_of words in
    (r ≡ prepared_of t (length received) (length padded)) × (run ≡ run_after t received padded)

-- `for_each_field`, with room for so many readings
abbrev pub Decodes : Decoded → List ℕ → List ℕ → List ℕ → List ℕ → ℕ → Type 0
Decodes r run words received padded room =
    let t = table_of words in
    (r ≡ decoded_of_lem t received (length padded) room) × (run ≡ run_after t received padded)

-- ## Of the working payload s

-- `walked`
abbrev pub walked_by : List ℕ → List ℕ → ℕ → Decoded
walked_by words s room =
    let t = table_of words in
    let p = payload_of s in
    end_of t p (walk_of t p room)

-- what `reading_of` is handed: the raw and the value of the field met
abbrev pub ReadOf : Option ℕ → PgnValue → List ℕ → List ℕ → Span → Type 0
ReadOf raw value words s v =
    let r = reading_of (table_of words) (payload_of s) v in
    (raw ≡ r.raw) × (value ≡ r.value)
