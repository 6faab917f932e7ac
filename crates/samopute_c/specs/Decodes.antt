-- How the answers of decoding cross the boundary: a status, and six cells.
use Rattle.std.specs.Prelude.{ℕ, Bool, List, [], ◌∷◌, Option, Some, None, Result, Ok, Err, eqb, get_or}
use Rattle.bits.specs.Bits.{pick}
use Rattle.bits.specs.declared.BitPos.{BitPos}
use Rattle.tables.specs.Table.{Table}
use Rattle.fields.specs.declared.DecodeRefusal.{DecodeRefusal}
use Rattle.fields.specs.Refusals.{number_of, touches_nothing_lem, carried_of, unit_of}
use Rattle.reading.specs.declared.Decoded.{Decoded}
use Rattle.reading.specs.Filling.{fills}

abbrev pub status_by : Result BitPos DecodeRefusal → ℕ
status_by (Ok end) = 0
status_by (Err e) = number_of e

-- 0, or the refusal's number
abbrev pub decoded_status : Decoded → ℕ
decoded_status d = status_by d.end

-- with so many readings and so many bytes filled
abbrev pub cells_by : ℕ → ℕ → Result BitPos DecodeRefusal → List ℕ
cells_by count filled (Ok end) = count ∷ filled ∷ end.0 ∷ 0 ∷ 0 ∷ 0 ∷ []
cells_by count filled (Err e) = count ∷ filled ∷ get_or (carried_of e) 0 0 ∷ get_or (carried_of e) 1 0 ∷ get_or (carried_of e) 2 0 ∷ unit_of e ∷ []

-- the count of readings; to how many bytes the padding run is filled; then the end, or what the refusal carries, 0 where it carries less;
-- then how many bits are one of what refusal 2 counts, as "a count of bits must never be taken for a count of bytes"
abbrev pub decoded_cells : ℕ → Decoded → List ℕ
decoded_cells filled d = cells_by d.count filled d.end

-- the length that the padding run is filled to, the table's; 0 where it is not filled: a refusal that touches no buffer fills nothing
abbrev pub filled_by_lem : ℕ → Bool → ℕ → ℕ
filled_by_lem status filled to = pick (touches_nothing_lem status) 0 (pick filled to 0)

-- a decode by the table t of so many bytes received
abbrev pub cells_of : Table → ℕ → Decoded → List ℕ
cells_of t received d = decoded_cells (filled_by_lem (decoded_status d) (fills t received) t.length) d

-- the length of the working payload, as a caller has it from the second cell and the bytes received
abbrev pub length_by : ℕ → ℕ → ℕ
length_by filled received = pick (eqb filled 0) received filled

-- by a PGN: 15 carries it
abbrev pub pgn_status : Option Decoded → ℕ
pgn_status (Some d) = decoded_status d
pgn_status None = 15

abbrev pub pgn_cells : ℕ → Option Decoded → List ℕ
pgn_cells pgn (Some d) = decoded_cells 0 d
pgn_cells pgn None = 0 ∷ 0 ∷ pgn ∷ 0 ∷ 0 ∷ 0 ∷ []

-- the version of these calls and layouts: 65,536 times the major number, and the minor one
abbrev pub version_of : ℕ
version_of = 196608
