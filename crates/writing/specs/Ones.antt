-- The bits that an encode leaves as ones: document 01, "Skipped fields stay ones", "all bits after are ones", and of a refused encode "all 0xFF except the
-- fields wholly written before; the faulty field leaves no bit".
use Rattle.std.specs.Prelude.{ℕ, ◌+◌, Bool, true, false, not, ◌&&◌, ◌||◌, List, [], ◌∷◌, eqb, leb, ltb, Result, Ok, Err}
use Rattle.weighing.specs.declared.EncodeRefusal.{EncodeRefusal}
use Rattle.bits.specs.declared.ByteCount.{ByteCount}
use Rattle.tables.specs.Table.{Table}
use Rattle.weighing.specs.declared.Weighed.{Weighed}
use Rattle.weighing.specs.declared.Weighed.TheVariants.{Number, Gap, Text}
use Rattle.weighing.specs.Refusals.{number_of}
use Rattle.offers.specs.Values.{Values}
use Rattle.writing.specs.Encode.{Mark, writes_of, marks_of}
use Rattle.writing.specs.Strokes.{size_of}

-- "the fields wholly written before", skipped ones too: those met up to the end, or up to the fault
abbrev pub wrote_of : Table → Values → ℕ → ℕ → List Mark
wrote_of t vs lent size = marks_of (writes_of t vs.offered lent size)

-- the bit after a field
abbrev pub past : Mark → ℕ
past m = m.start + (size_of m.content).0

-- where fields that begin at bit a end
unfoldable pub end_from : ℕ → List Mark → ℕ
end_from a [] = a
end_from a (m ∷ ms) = end_from (past m) ms

-- the bit after the last of the fields, 0 if there is none: there the next would begin
abbrev pub end_at : List Mark → ℕ
end_at ms = end_from 0 ms

-- "Skipped fields stay ones": a skipped field puts no bit, any other its own
abbrev pub inks : Result Weighed EncodeRefusal → Bool
inks (Ok (Number n r)) = true
inks (Ok (Gap n)) = false
inks (Ok (Text n lead b)) = true
inks (Err e) = false

-- whether a field puts bit i
abbrev pub puts : Mark → ℕ → Bool
puts m i = inks m.content && (leb m.start i && ltb i (past m))

-- whether one of the fields does
unfoldable pub any_puts : List Mark → ℕ → Bool
any_puts [] i = false
any_puts (m ∷ ms) i = puts m i || any_puts ms i

-- "Refusals 7 and 8 touch no buffer": any other answer does
abbrev pub touches : Result ByteCount EncodeRefusal → Bool
touches (Ok n) = true
touches (Err e) = not (eqb (number_of e) 7 || eqb (number_of e) 8)
