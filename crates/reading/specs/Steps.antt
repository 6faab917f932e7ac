-- One turn of the walk of document 01, "Reading a payload": what `next_field` answers; and what a caller that goes by it alone is handed.
use Rattle.std.specs.Prelude.{ℕ, zero, suc, Bool, true, false, List, [], ◌∷◌, ◌++◌, Option, Some, None, Result, Ok, Err}
use Rattle.bits.specs.Bits.{pick}
use Rattle.tables.specs.Table.{Table}
use Rattle.walking.specs.declared.Spot.{Spot}
use Rattle.walking.specs.declared.Spot.TheVariants as spot
use Rattle.walking.specs.declared.Look.{Look}
use Rattle.walking.specs.Turns.{Turn, moved, met, ended, broke, turn}
use Rattle.walking.specs.Looks.{turn_at}
use Rattle.fields.specs.declared.DecodeRefusal.{DecodeRefusal}
use Rattle.fields.specs.declared.Shape.{Shape}
use Rattle.fields.specs.declared.Shape.TheVariants.{Number, Gap, Fixed, Whole, Lau, Lz}
use Rattle.reading.specs.declared.Span.{Span}
use Rattle.reading.specs.declared.Reading.{Reading}
use Rattle.reading.specs.declared.Progress.{Progress}
use Rattle.reading.specs.declared.Walk.{Walk}
use Rattle.reading.specs.declared.Answer.{Answer}
use Rattle.reading.specs.declared.Answer.TheVariants.{Met, Skipped, Moved, Ended}
use Rattle.reading.specs.declared.Next.{Next}
use Rattle.reading.specs.declared.Decoded.{Decoded}
use Rattle.fields.specs.Payload.{Payload}
use Rattle.fields.specs.Shapes.{shape_of}
use Rattle.reading.specs.Groups.{too_many}
use Rattle.reading.specs.Decode.{one_of, count_of, reading_of, beginning, ended_at, refused_with}

abbrev pub walk_at_lem : Spot → Progress → Walk
walk_at_lem q s = record { spot = q; progress = s }

abbrev pub next_to : Result Answer DecodeRefusal → Spot → Progress → Next
next_to a q s = record { answer = a; walk = walk_at_lem q s }

-- a field met: its reading, unless it is skipped
abbrev pub met_by : Shape → Reading → Span → Answer
met_by (Number strict) r v = Met r
met_by Gap r v = Skipped v
met_by Fixed r v = Met r
met_by Whole r v = Met r
met_by Lau r v = Met r
met_by Lz r v = Met r

abbrev pub met_of : Table → Payload → Span → Answer
met_of t p v = met_by (shape_of (t.field v.field)) (reading_of t p v) v

-- what a turn came to: a walk that has ended or was refused stays at its spot
abbrev pub shown : Table → Payload → Spot → Turn Span Progress DecodeRefusal → Next
shown t p here (moved q s) = next_to (Ok Moved) q s
shown t p here (met v q s) = next_to (Ok (met_of t p v)) q s
shown t p here (ended s) = next_to (Ok Ended) here s
shown t p here (broke f s) = next_to (Err f) here s

abbrev pub turn_of : Table → Payload → ℕ → Spot → Progress → Turn Span Progress DecodeRefusal
turn_of t p room here s = turn t (one_of t p room) (count_of t p) too_many here s

-- `next_field`
abbrev pub next_of : Table → Payload → ℕ → Walk → Next
next_of t p room w = shown t p w.spot (turn_of t p room w.spot w.progress)

-- the turn by what is to be done at the spot
abbrev pub shown_at : Table → Payload → ℕ → Spot → Progress → Look → Next
shown_at t p room here s l = shown t p here (turn_at t (one_of t p room) (count_of t p) too_many l s)

-- `start`
abbrev pub start_of : Walk
start_of = walk_at_lem (spot.Field 0) beginning

-- ## Going by turns alone

-- whether the walk goes on
abbrev pub goes_on_lem : Result Answer DecodeRefusal → Bool
goes_on_lem (Ok (Met r)) = true
goes_on_lem (Ok (Skipped v)) = true
goes_on_lem (Ok Moved) = true
goes_on_lem (Ok Ended) = false
goes_on_lem (Err f) = false

-- what a decode has come to with a turn. Where the walk goes on there is no answer yet; else it is the end, or the refusal, and the readings made
abbrev pub came_by : Result Answer DecodeRefusal → Progress → Option Decoded
came_by (Ok (Met r)) s = None
came_by (Ok (Skipped v)) s = None
came_by (Ok Moved) s = None
came_by (Ok Ended) s = Some (ended_at s.at s.made)
came_by (Err f) s = Some (refused_with f s.made)

-- `came_to`
abbrev pub came_to_lem : Next → Option Decoded
came_to_lem n = came_by n.answer n.walk.progress

-- the reading that a turn hands out, if it does
abbrev pub handed : Result Answer DecodeRefusal → List Reading
handed (Ok (Met r)) = r ∷ []
handed (Ok (Skipped v)) = []
handed (Ok Moved) = []
handed (Ok Ended) = []
handed (Err f) = []

-- the readings that a caller of `next_field` is handed, in at most so many turns from a walk on
unfoldable pub handed_in : Table → Payload → ℕ → ℕ → Walk → List Reading
handed_in t p room zero w = []
handed_in t p room (suc n) w =
    pick (goes_on_lem (next_of t p room w).answer) (handed (next_of t p room w).answer ++ handed_in t p room n (next_of t p room w).walk) []
