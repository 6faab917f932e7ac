-- What each call answers and leaves, as its contract says it: one equation for the answer, and one for each buffer that is lent to be written, at exit. They put the
-- definitions of `reading`, Run and Steps together over the words and bytes themselves, and rule nothing of their own: only the code needs them.
use Rattle.std.specs.Prelude.{◌≡◌, ◌<◌, ℕ, List, length, map, Result, Ok}
use Rattle.tables.specs.Table.{table_of}
use Rattle.fields.specs.declared.DecodeRefusal.{DecodeRefusal}
use Rattle.fields.specs.Payload.{payload_of}
use Rattle.reading.specs.declared.Answer.{Answer}
use Rattle.reading.specs.declared.Answer.TheVariants.{Met}
use Rattle.reading.specs.declared.Reading.{Reading}
use Rattle.reading.specs.declared.Decoded.{Decoded}
use Rattle.reading.specs.Filling.{run_after}
use Rattle.reading.specs.Decode.{walk_of, readings, spans_of, end_of, decoded_of_lem}
use Rattle.lent_readings.specs.declared.Step.{Step}
use Rattle.lent_readings.specs.Run.{entries_of, entries_after, entries_as}
use Rattle.lent_readings.specs.Steps.{step_of, padded_after}

-- `turn`: the step, the padding run
abbrev pub Turns : Step → List ℕ → List ℕ → List ℕ → List ℕ → Step → ℕ → Type 0
Turns r run words received padded c room =
    let t = table_of words in
    (r ≡ step_of t received padded room c) × (run ≡ padded_after t received padded c)

-- a reading that is handed out has its place among so many
abbrev pub Seats : Result Answer DecodeRefusal → ℕ → ℕ → Type 0
Seats a place room = (r : Reading) → a ≡ Ok (Met r) → place < room

-- `walked`, through the working payload s: the answer, and what is made of the readings
abbrev pub Walks : {X : Type 0} → (Reading → X) → Decoded → List X → List ℕ → List ℕ → List X → Type 0
Walks one r after words s out =
    let t = table_of words in
    let p = payload_of s in
    let w = walk_of t p (length out) in
    (r ≡ end_of t p w) × (after ≡ entries_of (map one (readings t p (spans_of w))) out)

-- `decode_as`: the answer, the padding run, what is made of the readings
abbrev pub DecodesAs : {X : Type 0} → (Reading → X) → Decoded → List ℕ → List X → List ℕ → List ℕ → List ℕ → List X → Type 0
DecodesAs one r run after words received padded out =
    let t = table_of words in
    (r ≡ decoded_of_lem t received (length padded) (length out))
    × ((run ≡ run_after t received padded) × (after ≡ entries_as one t received (length padded) out))

-- `decode`: the answer, the padding run, the readings
abbrev pub Decodes : Decoded → List ℕ → List Reading → List ℕ → List ℕ → List ℕ → List Reading → Type 0
Decodes r run after words received padded out =
    let t = table_of words in
    (r ≡ decoded_of_lem t received (length padded) (length out))
    × ((run ≡ run_after t received padded) × (after ≡ entries_after t received (length padded) out))
