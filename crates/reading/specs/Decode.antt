-- Decoding: document 01, "Reading a payload". The fields met, each with its span, up to the end or to the first refusal; and the readings,
-- each made of its own span.
use Rattle.std.specs.Prelude.{ℕ, ◌+◌, List, [], ◌∷◌, Bool, length, get_or, replicate, ltb, Result, Ok, Err}
use Rattle.bits.specs.Calls.{bits}
use Rattle.bits.specs.declared.BitPos.{BitPos}
use Rattle.tables.specs.Table.{Table}
use Rattle.tables.specs.Check.{set_max}
use Rattle.walking.specs.Runs.{Run, ran, stopped}
use Rattle.walking.specs.Walk.{One, hit, miss, check, walk_from, Element}
use Rattle.fields.specs.declared.DecodeRefusal.{DecodeRefusal}
use Rattle.fields.specs.declared.DecodeRefusal.TheVariants.{NoRoom}
use Rattle.fields.specs.declared.Shape.{Shape}
use Rattle.fields.specs.declared.Shape.TheVariants.{Number, Gap, Fixed, Whole, Lau, Lz}
use Rattle.fields.specs.declared.FieldRead.{FieldRead}
use Rattle.fields.specs.declared.FieldRead.TheVariants.{Got, Skipped}
use Rattle.reading.specs.declared.Span.{Span}
use Rattle.reading.specs.declared.Reading.{Reading}
use Rattle.reading.specs.declared.Progress.{Progress}
use Rattle.reading.specs.declared.Decoded.{Decoded}
use Rattle.fields.specs.Payload.{Payload, payload_of, bits_left}
use Rattle.fields.specs.Shapes.{shape_of}
use Rattle.fields.specs.Content.{raw_in, value_in, availability_of, field_read_of}
use Rattle.reading.specs.Groups.{noted_by_lem, element_count_lem, too_many}
use Rattle.reading.specs.Filling.{working_of, prepared_of}

-- ## The walk

-- field i, of element e: n bits from `at` on
abbrev pub span_at : ℕ → Element → ℕ → ℕ → Span
span_at i e at n = record { field = i; element = e; start = bits at; bits = bits n }

-- the cursor, the readings made, the counters
abbrev pub progress_at : ℕ → ℕ → List ℕ → Progress
progress_at at made cs = record { at = bits at; made = made; counters = cs }

-- "At a decoded field: group count, read, room": the last two; a skipped field needs no room
abbrev pub settled : Table → ℕ → ℕ → Element → Progress → Result FieldRead DecodeRefusal → One Span Progress DecodeRefusal
settled t room i e s (Ok (Got n raw value)) =
    check (ltb s.made room) (NoRoom i)
    (hit (span_at i e s.at.0 n.0) (progress_at (s.at.0 + n.0) (s.made + 1) (noted_by_lem t e i raw s.counters)))
settled t room i e s (Ok (Skipped n)) = hit (span_at i e s.at.0 n.0) (progress_at (s.at.0 + n.0) s.made s.counters)
settled t room i e s (Err f) = miss f

-- field i, of element e, where the walk has come to
abbrev pub one_of : Table → Payload → ℕ → ℕ → Element → Bool → Progress → One Span Progress DecodeRefusal
one_of t p room i e last s = settled t room i e s (field_read_of p (t.field i) i last s.at.0)

-- how many elements set k has
abbrev pub count_of : Table → Payload → ℕ → Progress → ℕ
count_of t p k s = element_count_lem t k (get_or s.counters k 0) (bits_left p s.at.0)

-- no counter is asked before it is read: rule h, "a counter that precedes it"
abbrev pub beginning : Progress
beginning = progress_at 0 0 (replicate set_max 0)

-- the whole walk
abbrev pub walk_of : Table → Payload → ℕ → Run Span Progress DecodeRefusal
walk_of t p room = walk_from t (one_of t p room) (count_of t p) too_many beginning

-- ## The readings

-- "A reading has field, element (or none), start bit, bits taken, raw (or none), value, availability"
abbrev pub reading_of : Table → Payload → Span → Reading
reading_of t p v =
    let f = t.field v.field in
    let r = raw_in (shape_of f) p v.start.0 v.bits.0 in
    let x = value_in (shape_of f) f p v.start.0 v.bits.0 in
    record { field = v.field; element = v.element; start = v.start; bits = v.bits; raw = r; value = x; availability = availability_of p f r x }

-- "Reserved and Spare are skipped"
abbrev pub with_reading : Shape → Reading → List Reading → List Reading
with_reading (Number strict) r rs = r ∷ rs
with_reading Gap r rs = rs
with_reading Fixed r rs = r ∷ rs
with_reading Whole r rs = r ∷ rs
with_reading Lau r rs = r ∷ rs
with_reading Lz r rs = r ∷ rs

-- the readings of the fields met
unfoldable pub readings : Table → Payload → List Span → List Reading
readings t p [] = []
readings t p (v ∷ vs) = with_reading (shape_of (t.field v.field)) (reading_of t p v) (readings t p vs)

-- ## The answer

abbrev pub spans_of : Run Span Progress DecodeRefusal → List Span
spans_of (ran vs s) = vs
spans_of (stopped vs f) = vs

-- the end, and how many readings were made
abbrev pub ended_at : BitPos → ℕ → Decoded
ended_at end n = record { end = Ok end; count = n }

-- the refusal, and how many were made before it
abbrev pub refused_with : DecodeRefusal → ℕ → Decoded
refused_with e n = record { end = Err e; count = n }

-- the end, or the refusal; and the readings' count
abbrev pub end_of : Table → Payload → Run Span Progress DecodeRefusal → Decoded
end_of t p (ran vs s) = ended_at s.at (length (readings t p vs))
end_of t p (stopped vs f) = refused_with f (length (readings t p vs))

-- "7, 8, then the walk"
abbrev pub decoded_in : Result (Unit {0}) DecodeRefusal → Table → Payload → ℕ → Decoded
decoded_in (Ok tt) t p room = end_of t p (walk_of t p room)
decoded_in (Err e) t p room = refused_with e 0

-- decoding what was received, with a padding run of so many bytes, and room for so many readings
abbrev pub decoded_of_lem : Table → List ℕ → ℕ → ℕ → Decoded
decoded_of_lem t received padded room = decoded_in (prepared_of t (length received) padded) t (payload_of (working_of t received)) room

-- "7, 8, then the walk"
abbrev pub read_into : Result (Unit {0}) DecodeRefusal → Table → Payload → ℕ → List Reading
read_into (Ok tt) t p room = readings t p (spans_of (walk_of t p room))
read_into (Err e) t p room = []

-- the readings that are handed out, a refused decode's too: "leaves the readings made before the fault, in order, with their count"
abbrev pub readings_of : Table → List ℕ → ℕ → ℕ → List Reading
readings_of t received padded room = read_into (prepared_of t (length received) padded) t (payload_of (working_of t received)) room
