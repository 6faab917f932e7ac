-- What `samopute_decode_run` answers and leaves, as its contract says it: one equation for the status, and one for each buffer that is lent to be written, at exit.
use Rattle.std.specs.Prelude.{◌≡◌, ℕ, List, length}
use Rattle.tables.specs.Table.{table_of}
use Rattle.reading.specs.Filling.{run_after}
use Rattle.reading.specs.Decode.{decoded_of_lem}
use Rattle.structs.specs.declared.Record.{Record}
use Rattle.structs.specs.Structs.{structs_after}
use Rattle.samopute_c.specs.Decodes.{decoded_status, cells_of}

-- the status, the padding run, the array, the answer; there is room for as many readings as the array has entries
abbrev pub DecodesRun : ℕ → List ℕ → List Record → List ℕ → List ℕ → List ℕ → List ℕ → List Record → Type 0
DecodesRun r run after answer words payload padding readings =
    let t = table_of words in
    let d = decoded_of_lem t payload (length padding) (length readings) in
    (r ≡ decoded_status d)
    × ((run ≡ run_after t payload padding)
    × ((after ≡ structs_after t payload (length padding) readings) × (answer ≡ cells_of t (length payload) d)))
