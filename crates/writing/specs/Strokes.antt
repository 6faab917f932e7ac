-- One turn of the walk of document 01, "Writing a payload": what `write_next` answers, and what it leaves in the buffer; and what `weigh_next` does,
-- which sees no buffer.
use Rattle.std.specs.Prelude.{◌≡◌, ℕ, ◌+◌, ◌^◌, ◌<◌, List, replicate, length, Result, Ok, Err}
use Rattle.bits.specs.Calls.{bits}
use Rattle.bits.specs.declared.BitPos.{BitPos}
use Rattle.tables.specs.Table.{Table}
use Rattle.walking.specs.declared.Spot.{Spot}
use Rattle.walking.specs.declared.Spot.TheVariants as spot
use Rattle.walking.specs.declared.Look.{Look}
use Rattle.walking.specs.declared.Look.TheVariants.{End, Pass, Enter, Meet}
use Rattle.walking.specs.Looks.{look_of, turn_at}
use Rattle.walking.specs.Turns.{Turn, moved, met, ended, broke, turn}
use Rattle.reading.specs.declared.Span.{Span}
use Rattle.weighing.specs.declared.EncodeRefusal.{EncodeRefusal}
use Rattle.weighing.specs.declared.EncodeRefusal.TheVariants.{ValueCount}
use Rattle.weighing.specs.declared.Weighed.{Weighed}
use Rattle.weighing.specs.declared.Weighed.TheVariants as weighed
use Rattle.offers.specs.declared.Offer.{Offer}
use Rattle.offers.specs.declared.Offer.TheVariants.{Nothing, NoKind, Value}
use Rattle.writing.specs.declared.Pen.{Pen}
use Rattle.writing.specs.declared.Draft.{Draft}
use Rattle.writing.specs.declared.Stroke.{Stroke}
use Rattle.writing.specs.declared.Stroke.TheVariants.{Wrote, Skipped, Moved, Ended}
use Rattle.writing.specs.declared.Stroked.{Stroked}
use Rattle.writing.specs.declared.Weighing.{Weighing}
use Rattle.writing.specs.Ink.{inked}
use Rattle.writing.specs.Encode.{Mark, content_of_lem, one_of, count_of, too_many, beginning}

abbrev pub draft_at : Spot → Pen → Draft
draft_at q s = record { spot = q; pen = s }

abbrev pub stroked_to : Result Stroke EncodeRefusal → Spot → Pen → Stroked
stroked_to a q s = record { stroke = a; draft = draft_at q s }

-- the bits that what was weighed takes
abbrev pub size_of : Result Weighed EncodeRefusal → BitPos
size_of (Ok (weighed.Number n r)) = n
size_of (Ok (weighed.Gap n)) = n
size_of (Ok (weighed.Text n lead b)) = n
size_of (Err e) = bits 0

-- the cursor after what was weighed is a number of 64 bits: what lies in a buffer is so, proofs/Contents.antt
abbrev pub Reaches : ℕ → Result Weighed EncodeRefusal → Type 0
Reaches at (Ok w) = at + (size_of (Ok w)).0 < 2 ^ 64
Reaches at (Err e) = at ≡ at

-- where a field was met
abbrev pub span_of : Mark → Span
span_of m = record { field = m.field; element = m.element; start = bits m.start; bits = size_of m.content }

-- a field met; one that was refused is not
abbrev pub stroke_by : Result Weighed EncodeRefusal → Span → Result Stroke EncodeRefusal
stroke_by (Ok (weighed.Number n r)) v = Ok (Wrote v)
stroke_by (Ok (weighed.Gap n)) v = Ok (Skipped v)
stroke_by (Ok (weighed.Text n lead b)) v = Ok (Wrote v)
stroke_by (Err e) v = Err e

-- where the walk then stands: a refused one stays `here`
abbrev pub spot_by : Result Weighed EncodeRefusal → Spot → Spot → Spot
spot_by (Ok w) to here = to
spot_by (Err e) to here = here

-- "left-over values last": 12, with the field count
abbrev pub end_by_lem : Table → Offer → Result Stroke EncodeRefusal
end_by_lem t Nothing = Ok Ended
end_by_lem t NoKind = Err (ValueCount t.count)
end_by_lem t (Value v) = Err (ValueCount t.count)

-- what a turn came to: a walk that has ended or was refused stays at its spot
abbrev pub shown : Table → Offer → Spot → Turn Mark Pen EncodeRefusal → Stroked
shown t o here (moved q s) = stroked_to (Ok Moved) q s
shown t o here (met m q s) = stroked_to (stroke_by m.content (span_of m)) q s
shown t o here (ended s) = stroked_to (end_by_lem t o) here s
shown t o here (broke f s) = stroked_to (Err f) here s

-- .. and what it leaves: "the faulty field leaves no bit"
abbrev pub left_by : List ℕ → List ℕ → Turn Mark Pen EncodeRefusal → List ℕ
left_by lent buffer (moved q s) = buffer
left_by lent buffer (met m q s) = inked buffer m.start m.content lent
left_by lent buffer (ended s) = buffer
left_by lent buffer (broke f s) = buffer

-- the turn with this offer
abbrev pub turn_of : Table → Offer → ℕ → ℕ → Draft → Turn Mark Pen EncodeRefusal
turn_of t o lent size d = turn t (one_of t (λ (j : ℕ). o) lent size) (count_of t) too_many d.spot d.pen

-- `write_next`
abbrev pub stroked_of : Table → Offer → ℕ → ℕ → Draft → Stroked
stroked_of t o lent size d = shown t o d.spot (turn_of t o lent size d)

abbrev pub left_of : Table → Offer → List ℕ → List ℕ → Draft → List ℕ
left_of t o lent buffer d = left_by lent buffer (turn_of t o (length lent) (length buffer) d)

-- ## A turn before anything is put

-- no bit
abbrev pub nothing : Result Weighed EncodeRefusal
nothing = Ok (weighed.Gap (bits 0))

-- what a turn puts: the content of the field that it meets, which may be a refusal
abbrev pub put_by : Table → Offer → ℕ → ℕ → Pen → Look → Result Weighed EncodeRefusal
put_by t o lent size s End = nothing
put_by t o lent size s (Pass q) = nothing
put_by t o lent size s (Enter k) = nothing
put_by t o lent size s (Meet i e last q) = content_of_lem o (t.field i) i lent size s.at.0

abbrev pub weighing_to : Stroked → Result Weighed EncodeRefusal → Weighing
weighing_to a w = record { stroked = a; content = w }

-- by what is to be done at the spot
abbrev pub weighing_at : Table → Offer → ℕ → ℕ → Spot → Pen → Look → Weighing
weighing_at t o lent size here s l = weighing_to (shown t o here (turn_at t (one_of t (λ (j : ℕ). o) lent size) (count_of t) too_many l s)) (put_by t o lent size s l)

-- `weigh_next`: a lent text and a buffer of so many bytes
abbrev pub weighing_of : Table → Offer → ℕ → ℕ → Draft → Weighing
weighing_of t o lent size d = weighing_to (stroked_of t o lent size d) (put_by t o lent size d.pen (look_of t d.spot))

-- ## Before the first turn

-- `start`
abbrev pub start_of : Draft
start_of = draft_at (spot.Field 0) beginning

-- `begin`: all bits are ones
abbrev pub ones_if : Result (Unit {0}) EncodeRefusal → List ℕ → List ℕ
ones_if (Ok u) buffer = replicate (length buffer) 0xff
ones_if (Err e) buffer = buffer
