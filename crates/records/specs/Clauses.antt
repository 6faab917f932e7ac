-- What each call answers and leaves, as its contract says it: one equation for the answer, and one for each buffer that is lent to be written, at exit. They put the
-- definitions of `reading`, Layout, Into and Pgn together over the words and bytes themselves, and rule nothing of their own: only the code needs them.
use Rattle.std.specs.Prelude.{◌≡◌, ℕ, List, Option, length}
use Rattle.tables.specs.Table.{table_of}
use Rattle.fields.specs.Payload.{payload_of}
use Rattle.reading.specs.declared.Decoded.{Decoded}
use Rattle.reading.specs.declared.Next.{Next}
use Rattle.reading.specs.declared.Walk.{Walk}
use Rattle.reading.specs.Filling.{run_after}
use Rattle.reading.specs.Decode.{walk_of, spans_of, readings, end_of}
use Rattle.reading.specs.Steps.{next_of, handed}
use Rattle.records.specs.Layout.{room_in_lem, stored_in}
use Rattle.records.specs.Into.{decoded_into, out_after}
use Rattle.records.specs.Pgn.{by_pgn_of, out_by_pgn}
use Rattle.records.specs.Stretches.{stored}

-- ## The walk through the working payload s

-- `turn`, of the walk w: its reading is stored
abbrev pub Turns : Next → List ℕ → List ℕ → List ℕ → ℕ → Walk → List ℕ → Type 0
Turns r after words s room w out =
    (r ≡ next_of (table_of words) (payload_of s) room w) × (after ≡ stored out w.progress.made (handed r.answer))

-- `store`: all readings are stored, with room for so many
abbrev pub Stores : Decoded → List ℕ → List ℕ → List ℕ → ℕ → List ℕ → Type 0
Stores r after words s room out =
    let t = table_of words in
    let p = payload_of s in
    let w = walk_of t p room in
    (r ≡ end_of t p w) × (after ≡ stored out 0 (readings t p (spans_of w)))

-- `walked`: the same with the room that the buffer has, and the count in front
abbrev pub Walks : Decoded → List ℕ → List ℕ → List ℕ → List ℕ → Type 0
Walks r after words s out =
    let t = table_of words in
    let p = payload_of s in
    let w = walk_of t p (room_in_lem (length out)) in
    (r ≡ end_of t p w) × (after ≡ stored_in (readings t p (spans_of w)) out)

-- ## Of what was received

-- `known`: the answer and the readings, with a padding run of so many bytes
abbrev pub Reads : Decoded → List ℕ → List ℕ → List ℕ → ℕ → List ℕ → Type 0
Reads r after words received padded out =
    let t = table_of words in
    (r ≡ decoded_into t received padded (length out)) × (after ≡ out_after t received padded out)

-- `decode_into`: the padding run too
abbrev pub DecodesInto : Decoded → List ℕ → List ℕ → List ℕ → List ℕ → List ℕ → List ℕ → Type 0
DecodesInto r run after words received padded out =
    let t = table_of words in
    (r ≡ decoded_into t received (length padded) (length out))
    × ((run ≡ run_after t received padded) × (after ≡ out_after t received (length padded) out))

-- `decode_pgn_into`
abbrev pub DecodesByPgn : Option Decoded → List ℕ → ℕ → List ℕ → ℕ → List ℕ → Type 0
DecodesByPgn r after pgn received padded out =
    (r ≡ by_pgn_of pgn received padded (length out)) × (after ≡ out_by_pgn pgn received padded out)
