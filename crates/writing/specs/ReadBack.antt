-- Read-back, a demand of the project over document 01: "What is written reads back, given room, with the same raw numbers." What encode accepts and
-- writes, the first bytes used of the buffer, decode reads: the same fields, elements, spans and raw numbers, the same LZ, LAU and Binary bytes,
-- a StringFix as its text followed by the fill, ending where encode ended; the table's filling included. Definitions only: that it holds is
-- `proofs/ReadsBack.antt`.
use Rattle.std.specs.Prelude.{◌≡◌, ℕ, zero, suc, ◌-◌, ◌*◌, ◌/◌, ◌≤◌, ◌<◌, List, [], ◌∷◌, ◌++◌, length, replicate, take, Some, None, Result, Ok, Err, Option}
use Rattle.weighing.specs.declared.EncodeRefusal.{EncodeRefusal}
use Rattle.descriptor.specs.declared.PgnBytes.{PgnBytes}
use Rattle.descriptor.specs.declared.PgnValue.{PgnValue}
use Rattle.descriptor.specs.declared.PgnValue.TheVariants.{Bytes}
use Rattle.numbers.specs.Held.{Held}
use Rattle.tables.specs.Table.{Table}
use Rattle.tables.specs.Check.{payload_max}
use Rattle.walking.specs.Runs.{ran}
use Rattle.fields.specs.Payload.{Payload, payload_of}
use Rattle.reading.specs.declared.Reading.{Reading}
use Rattle.reading.specs.declared.Span.{Span}
use Rattle.reading.specs.Filling.{working_of}
use Rattle.reading.specs.Decode.{progress_at, walk_of, reading_of, readings, decoded_of_lem, readings_of, ended_at}
use Rattle.reading.specs.Demand3.{unskipped_in, room_enough_lem}
use Rattle.offers.specs.Values.{Values}
use Rattle.offers.specs.declared.Offer.{Offer}
use Rattle.offers.specs.declared.Offer.TheVariants.{Nothing, NoKind, Value}
use Rattle.weighing.specs.declared.Lead.{Lead}
use Rattle.weighing.specs.declared.Lead.TheVariants.{Bare, Counted, Encoded, Empty}
use Rattle.weighing.specs.declared.Weighed.{Weighed}
use Rattle.weighing.specs.declared.Weighed.TheVariants.{Number, Gap, Text}
use Rattle.writing.specs.declared.Pen.{Pen}
use Rattle.writing.specs.Ink.{text_in_lem}
use Rattle.writing.specs.Encode.{Mark, writes_of, bytes_used_lem, buffer_after}
use Rattle.writing.specs.Strokes.{span_of}

-- where the fields were met
unfoldable pub spans_in : List Mark → List Span
spans_in [] = []
spans_in (m ∷ ms) = span_of m ∷ spans_in ms

-- n bytes of a payload, from a byte on
unfoldable pub bytes_at : Payload → ℕ → ℕ → List ℕ
bytes_at p place zero = []
bytes_at p place (suc n) = p.bits (8 * place) 8 ∷ bytes_at p (suc place) n

-- "the same LZ, LAU and Binary bytes, a StringFix as its text followed by the fill": of a text that was written in n bits
abbrev pub text_back : Lead → ℕ → List ℕ → List ℕ
text_back Bare n text = text ++ replicate (n / 8 - length text) 0xff
text_back Counted n text = text
text_back (Encoded x) n text = text
text_back Empty n text = []

-- and the encoding byte
abbrev pub encoding_back : Lead → Option ℕ
encoding_back Bare = None
encoding_back Counted = None
encoding_back (Encoded x) = Some x
encoding_back Empty = None

-- a reading of these bytes of a payload
pub record TextBack (p : Payload) (r : Reading) (text : List ℕ) (enc : Option ℕ) : Type 0 where
  pub place : PgnBytes
  pub value : r.value ≡ Bytes place
  pub none : r.raw ≡ None
  pub encoded : place.encoding ≡ enc
  pub bytes : bytes_at p place.start.0 place.len.0 ≡ text

-- "the same raw numbers": a reading of what was written
abbrev pub Back : Payload → List ℕ → Reading → Result Weighed EncodeRefusal → Type 0
Back p lent r (Ok (Number n x)) = r.raw ≡ Some x
Back p lent r (Ok (Gap n)) = Unit {0}
Back p lent r (Ok (Text n lead b)) = TextBack p r (text_back lead n.0 (text_in_lem lent b)) (encoding_back lead)
Back p lent r (Err e) = ⊥

-- what was written as ms, up to where the pen stands, and was received as these bytes
pub record ReadBack (t : Table) (lent received : List ℕ) (room : ℕ) (ms : List Mark) (s : Pen) : Type 0 where
  -- the same fields, elements and spans, ending where encode ended
  pub walks : walk_of t (payload_of (working_of t received)) room ≡ ran (spans_in ms) (progress_at s.at.0 (unskipped_in t (spans_in ms)) s.counters)
  -- so answers a decode ..
  pub decodes : decoded_of_lem t received payload_max room ≡ ended_at s.at (unskipped_in t (spans_in ms))
  -- .. whose readings are these
  pub reads : readings_of t received payload_max room ≡ readings t (payload_of (working_of t received)) (spans_in ms)
  -- each of what was written there
  pub back : (us : List Mark) (m : Mark) (ws : List Mark) → ms ≡ us ++ m ∷ ws
      → Back (payload_of (working_of t received)) lent (reading_of t (payload_of (working_of t received)) (span_of m)) m.content

-- ## What is asked of the values and of the lent text

-- an offer of a value of which G is known
abbrev pub Offers : (PgnValue → Type 0) → Offer → Type 0
Offers G Nothing = Unit {0}
Offers G NoKind = Unit {0}
Offers G (Value v) = G v

-- values that a machine has
abbrev pub AllHeld : Values → Type 0
AllHeld vs = (j : ℕ) → Offers Held (vs.offered j)

-- bytes
abbrev pub AllBytes : List ℕ → Type 0
AllBytes [] = Unit {0}
AllBytes (x ∷ xs) = (x < 256) × AllBytes xs

-- ## Read-back

-- of these values encode used n bytes of the buffer: what was written, and that it is read back, given room
pub record ReadsBack (t : Table) (vs : Values) (lent buffer : List ℕ) (n : ℕ) : Type 0 where
  pub marks : List Mark
  pub end : Pen
  pub writes : writes_of t vs.offered (length lent) (length buffer) ≡ ran marks end
  pub used : n ≡ bytes_used_lem end
  -- room for 1,785 readings is always enough
  pub few : unskipped_in t (spans_in marks) ≤ room_enough_lem
  -- "the first bytes-used of the buffer"
  pub back : (room : ℕ) → unskipped_in t (spans_in marks) ≤ room → ReadBack t lent (take n (buffer_after t vs lent buffer)) room marks end
