-- How the answers of encoding cross the boundary: a status, and four cells. The values are records in bytes.
use Rattle.std.specs.Prelude.{ℕ, List, [], ◌∷◌, get_or, Result, Ok, Err}
use Rattle.weighing.specs.declared.EncodeRefusal.{EncodeRefusal}
use Rattle.bits.specs.declared.ByteCount.{ByteCount}
use Rattle.tables.specs.Table.{Table, table_of}
use Rattle.records.specs.Pgn.{of_built_in}
use Rattle.offers.specs.Records.{values_in}
use Rattle.weighing.specs.Refusals.{number_of, carried_of}
use Rattle.writing.specs.Encode.{encoded_of, buffer_after}

-- 0, or the refusal's number
abbrev pub encoded_status : Result ByteCount EncodeRefusal → ℕ
encoded_status (Ok used) = 0
encoded_status (Err e) = number_of e

-- the bytes used, 0 if refused; then what the refusal carries, 0 where it carries less
abbrev pub encoded_cells : Result ByteCount EncodeRefusal → List ℕ
encoded_cells (Ok used) = used.0 ∷ 0 ∷ 0 ∷ 0 ∷ []
encoded_cells (Err e) = 0 ∷ get_or (carried_of e) 0 0 ∷ get_or (carried_of e) 1 0 ∷ get_or (carried_of e) 2 0 ∷ []

-- the answer of values in bytes, with a lent text of so many bytes, into a payload of so many
abbrev pub encoded_by : Table → List ℕ → ℕ → ℕ → Result ByteCount EncodeRefusal
encoded_by t values text payload = encoded_of t (values_in values) text payload

-- the payload after the call
abbrev pub payload_after : Table → List ℕ → List ℕ → List ℕ → List ℕ
payload_after t values text payload = buffer_after t (values_in values) text payload

-- by a PGN: 15 carries it, and touches nothing
abbrev pub status_by_pgn : ℕ → List ℕ → ℕ → ℕ → ℕ
status_by_pgn pgn values text payload = of_built_in pgn (λ ws. encoded_status (encoded_by (table_of ws) values text payload)) 15

abbrev pub payload_by_pgn : ℕ → List ℕ → List ℕ → List ℕ → List ℕ
payload_by_pgn pgn values text payload = of_built_in pgn (λ ws. payload_after (table_of ws) values text payload) payload

abbrev pub cells_by_pgn : ℕ → List ℕ → ℕ → ℕ → List ℕ
cells_by_pgn pgn values text payload = of_built_in pgn (λ ws. encoded_cells (encoded_by (table_of ws) values text payload)) (0 ∷ pgn ∷ 0 ∷ 0 ∷ [])
