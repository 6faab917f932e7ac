-- Encoding: document 01, "Writing a payload". The fields met, each with what is written there, up to the end or to the first refusal; and the
-- buffer, made of them. The answer goes by table, values, the length of the lent text and the room, and never by the buffer's bytes.
use Rattle.std.specs.Prelude.{ℕ, ◌+◌, ◌/◌, Bool, List, [], ◌∷◌, ltb, length, replicate, get_or, Result, Ok, Err, Some}
use Rattle.bits.specs.declared.ByteCount.{ByteCount}
use Rattle.bits.specs.Bits.{pick}
use Rattle.bits.specs.Calls.{bits, bytes, saturated}
use Rattle.descriptor.specs.declared.FieldDescriptor.{FieldDescriptor}
use Rattle.numbers.specs.Scaling.{bits_of}
use Rattle.numbers.specs.Special.{elements_of}
use Rattle.tables.specs.Table.{Table}
use Rattle.tables.specs.Check.{Checked, check_of, payload_max, set_max}
use Rattle.walking.specs.Runs.{Run, ran, stopped}
use Rattle.walking.specs.Walk.{One, hit, miss, walk_from, Element}
use Rattle.fields.specs.Shapes.{shape_of, is_gap_lem}
use Rattle.reading.specs.Groups.{noted_by_lem}
use Rattle.weighing.specs.declared.EncodeRefusal.{EncodeRefusal}
use Rattle.weighing.specs.declared.EncodeRefusal.TheVariants.{RepetitionsExceedCapacity, WrongLength, TableRefused, WrongKind, ValueCount}
use Rattle.weighing.specs.declared.Weighed.{Weighed}
use Rattle.weighing.specs.declared.Weighed.TheVariants as weighed
use Rattle.weighing.specs.Weigh.{gap_of, weighed_of}
use Rattle.offers.specs.Values.{Values}
use Rattle.offers.specs.declared.Offer.{Offer}
use Rattle.offers.specs.declared.Offer.TheVariants.{Nothing, NoKind, Value}
use Rattle.writing.specs.declared.Pen.{Pen}
use Rattle.writing.specs.Ink.{inked}

-- ## The walk

-- field i, of element e: what is written from bit `start` on
pub record Mark : Type 0 where
  pub field : ℕ
  pub element : Element
  pub start : ℕ
  pub content : Result Weighed EncodeRefusal

abbrev pub mark_at : ℕ → Element → ℕ → Result Weighed EncodeRefusal → Mark
mark_at i e at w = record { field = i; element = e; start = at; content = w }

-- the cursor, the values used, the counters
abbrev pub pen_at : ℕ → ℕ → List ℕ → Pen
pen_at at used cs = record { at = bits at; used = used; counters = cs }

-- "At an encoded field: 12, 11, 10 or 13, 3, 2"; what is of no kind is of another
abbrev pub offered_of : Offer → FieldDescriptor → ℕ → ℕ → ℕ → ℕ → Result Weighed EncodeRefusal
offered_of Nothing f i lent size at = Err (ValueCount i)
offered_of NoKind f i lent size at = Err (WrongKind i)
offered_of (Value v) f i lent size at = weighed_of f i v lent size at

-- "Skipped fields stay ones", and take no value
abbrev pub content_of_lem : Offer → FieldDescriptor → ℕ → ℕ → ℕ → ℕ → Result Weighed EncodeRefusal
content_of_lem o f i lent size at = pick (is_gap_lem (shape_of f)) (gap_of f i size at) (offered_of o f i lent size at)

-- where the pen stands once that is written: its value is used. That number saturates, since a step takes any walk
abbrev pub pen_after_lem : Table → ℕ → Element → Pen → Result Weighed EncodeRefusal → Pen
pen_after_lem t i e s (Ok (weighed.Number n r)) = pen_at (s.at.0 + n.0) (saturated (s.used + 1)) (noted_by_lem t e i (Some r) s.counters)
pen_after_lem t i e s (Ok (weighed.Gap n)) = pen_at (s.at.0 + n.0) s.used s.counters
pen_after_lem t i e s (Ok (weighed.Text n lead b)) = pen_at (s.at.0 + n.0) (saturated (s.used + 1)) s.counters
pen_after_lem t i e s (Err f) = s

-- what is weighed is written; what is refused is not
abbrev pub settled : Table → ℕ → Element → Pen → Result Weighed EncodeRefusal → One Mark Pen EncodeRefusal
settled t i e s (Ok w) = hit (mark_at i e s.at.0 (Ok w)) (pen_after_lem t i e s (Ok w))
settled t i e s (Err f) = miss f

-- "Values come in walk order": field i, of element e, with the next value, a lent text of so many bytes and a buffer of `size`
abbrev pub one_of : Table → (ℕ → Offer) → ℕ → ℕ → ℕ → Element → Bool → Pen → One Mark Pen EncodeRefusal
one_of t offered lent size i e last s = settled t i e s (content_of_lem (offered s.used) (t.field i) i lent size s.at.0)

-- "The counter's raw (all ones is 0) says how many elements follow"
abbrev pub count_of : Table → ℕ → Pen → ℕ
count_of t k s = elements_of (bits_of (t.field (t.set k).counter)) (get_or s.counters k 0)

-- "over the maximum is 5"
abbrev pub too_many : ℕ → ℕ → ℕ → EncodeRefusal
too_many k n most = RepetitionsExceedCapacity k n most

abbrev pub beginning : Pen
beginning = pen_at 0 0 (replicate set_max 0)

-- the whole walk
abbrev pub writes_of : Table → (ℕ → Offer) → ℕ → ℕ → Run Mark Pen EncodeRefusal
writes_of t offered lent size = walk_from t (one_of t offered lent size) (count_of t) too_many beginning

-- ## The answer

-- "7, 8, then the walk"
abbrev pub by_check : Checked → Result (Unit {0}) EncodeRefusal
by_check (Ok tt) = Ok tt
by_check (Err b) = Err (TableRefused b.rule b.index)

abbrev pub begun_of : Table → ℕ → Result (Unit {0}) EncodeRefusal
begun_of t size = pick (ltb payload_max size) (Err (WrongLength (bytes size))) (by_check (check_of t))

-- "The result is bytes used, rounded up"
abbrev pub bytes_used_lem : Pen → ℕ
bytes_used_lem s = (s.at.0 + 7) / 8

-- "left-over values last": 12, with the field count
abbrev pub end_of : Table → ℕ → Run Mark Pen EncodeRefusal → Result ByteCount EncodeRefusal
end_of t count (ran ms s) = pick (ltb s.used count) (Err (ValueCount t.count)) (Ok (bytes (bytes_used_lem s)))
end_of t count (stopped ms f) = Err f

abbrev pub encoded_in : Result (Unit {0}) EncodeRefusal → Table → Values → ℕ → ℕ → Result ByteCount EncodeRefusal
encoded_in (Ok u) t vs lent size = end_of t vs.count (writes_of t vs.offered lent size)
encoded_in (Err e) t vs lent size = Err e

-- encoding values, with a lent text of so many bytes, into a buffer of so many
abbrev pub encoded_of : Table → Values → ℕ → ℕ → Result ByteCount EncodeRefusal
encoded_of t vs lent size = encoded_in (begun_of t size) t vs lent size

-- ## The buffer

abbrev pub marks_of : Run Mark Pen EncodeRefusal → List Mark
marks_of (ran ms s) = ms
marks_of (stopped ms f) = ms

-- fields put one after another
unfoldable pub painted : List ℕ → List Mark → List ℕ → List ℕ
painted buffer [] lent = buffer
painted buffer (m ∷ ms) lent = painted (inked buffer m.start m.content lent) ms lent

-- "all bits after are ones"; and a refused encode leaves "the buffer all 0xFF except the fields wholly written before; the faulty field leaves no bit"
abbrev pub image_of : ℕ → List Mark → List ℕ → List ℕ
image_of size ms lent = painted (replicate size 0xff) ms lent

-- "Refusals 7 and 8 touch no buffer"
abbrev pub buffer_in : Result (Unit {0}) EncodeRefusal → Table → Values → List ℕ → List ℕ → List ℕ
buffer_in (Ok u) t vs lent buffer = image_of (length buffer) (marks_of (writes_of t vs.offered (length lent) (length buffer))) lent
buffer_in (Err e) t vs lent buffer = buffer

-- the buffer after the call, by the lent text and the buffer before it
abbrev pub buffer_after : Table → Values → List ℕ → List ℕ → List ℕ
buffer_after t vs lent buffer = buffer_in (begun_of t (length buffer)) t vs lent buffer
