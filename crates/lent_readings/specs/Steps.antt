-- One turn of a decode into a lent run: what the functions here say of each other. It is no part of document 01; that the turns come to a decode is
-- proofs/Stepwise.antt.
use Rattle.std.specs.Prelude.{ℕ, true, false, List, length, None, Result, Ok, Err}
use Rattle.bits.specs.Bits.{pick}
use Rattle.bits.specs.Calls.{bits}
use Rattle.descriptor.specs.declared.Availability.TheVariants.{Available}
use Rattle.descriptor.specs.declared.PgnValue.TheVariants.{U8}
use Rattle.tables.specs.Table.{Table}
use Rattle.fields.specs.declared.DecodeRefusal.{DecodeRefusal}
use Rattle.fields.specs.Payload.{payload_of}
use Rattle.reading.specs.declared.Reading.{Reading}
use Rattle.reading.specs.declared.Walk.{Walk}
use Rattle.reading.specs.declared.Answer.{Answer}
use Rattle.reading.specs.declared.Answer.TheVariants.{Met, Skipped, Moved, Ended}
use Rattle.reading.specs.declared.Next.{Next}
use Rattle.reading.specs.declared.Decoded.{Decoded}
use Rattle.reading.specs.Filling.{picked_of, prepared_of, run_after}
use Rattle.reading.specs.Decode.{ended_at, refused_with}
use Rattle.reading.specs.Steps.{next_of, start_of}
use Rattle.lent_readings.specs.declared.Step.{Step}

-- what stands where there is no reading
abbrev pub blank : Reading
blank = record { field = 0; element = None; start = bits 0; bits = bits 0; raw = None; value = U8 0; availability = Available }

-- before the first turn
abbrev pub fresh_step : Step
fresh_step = record { stores = false; over = false; fresh = true; place = 0; reading = blank; walk = start_of; decoded = ended_at (bits 0) 0 }

-- the walk goes on
abbrev pub on_step : Walk → Step
on_step w = record { stores = false; over = false; fresh = false; place = 0; reading = blank; walk = w; decoded = ended_at (bits 0) 0 }

-- .. once the reading is stored
abbrev pub storing_step : ℕ → Reading → Walk → Step
storing_step n r w = record { stores = true; over = false; fresh = false; place = n; reading = r; walk = w; decoded = ended_at (bits 0) 0 }

-- the decode is over
abbrev pub over_step : Decoded → Step
over_step d = record { stores = false; over = true; fresh = false; place = 0; reading = blank; walk = start_of; decoded = d }

abbrev pub begun_by : Result (Unit {0}) DecodeRefusal → Step
begun_by (Ok tt) = on_step start_of
begun_by (Err e) = over_step (refused_with e 0)

-- by what a turn answered that leads to the walk w, where `made` readings had been made
abbrev pub answered_by : Result Answer DecodeRefusal → Walk → ℕ → Step
answered_by (Ok (Met r)) w made = storing_step made r w
answered_by (Ok (Skipped v)) w made = on_step w
answered_by (Ok Moved) w made = on_step w
answered_by (Ok Ended) w made = over_step (ended_at w.progress.at w.progress.made)
answered_by (Err e) w made = over_step (refused_with e w.progress.made)

abbrev pub turned_by_lem : Next → ℕ → Step
turned_by_lem n made = answered_by n.answer n.walk made

-- the first turn prepares, each other one takes a turn of the walk
abbrev pub step_of : Table → List ℕ → List ℕ → ℕ → Step → Step
step_of t received padded room c =
    pick c.fresh (begun_by (prepared_of t (length received) (length padded)))
    (turned_by_lem (next_of t (payload_of (picked_of t received padded)) room c.walk) c.walk.progress.made)

-- the padding run after it
abbrev pub padded_after : Table → List ℕ → List ℕ → Step → List ℕ
padded_after t received padded c = pick c.fresh (run_after t received padded) padded
