-- What `decode_run` answers and leaves, as its contract says it: one equation for the answer, and one for each buffer that is lent to be written, at exit.
use Rattle.std.specs.Prelude.{◌≡◌, ℕ, List, length}
use Rattle.tables.specs.Table.{table_of}
use Rattle.reading.specs.declared.Decoded.{Decoded}
use Rattle.reading.specs.Filling.{run_after}
use Rattle.reading.specs.Decode.{decoded_of_lem}
use Rattle.structs.specs.declared.Record.{Record}
use Rattle.structs.specs.Structs.{structs_after}

-- the answer, the padding run, the structs
abbrev pub DecodesRun : Decoded → List ℕ → List Record → List ℕ → List ℕ → List ℕ → List Record → Type 0
DecodesRun r run after words received padded out =
    let t = table_of words in
    (r ≡ decoded_of_lem t received (length padded) (length out))
    × ((run ≡ run_after t received padded) × (after ≡ structs_after t received (length padded) out))
