-- What each call answers and leaves, as its contract says it: one equation for the status, and one for each buffer that is lent to be written, at exit. They put the
-- definitions of `records`, `writing`, `bits` and of the files beside this one together over the words and bytes themselves, and rule nothing of their own: only the code
-- needs them.
use Rattle.std.specs.Prelude.{◌≡◌, ℕ, List, length}
use Rattle.bits.specs.Calls.{cursor_at, advance_of, written_of, write_slice_of, sliced_of}
use Rattle.descriptor.specs.declared.FieldDescriptor.{FieldDescriptor}
use Rattle.numbers.specs.Refusals.{number_of}
use Rattle.offers.specs.declared.Offer.{Offer}
use Rattle.tables.specs.Table.{table_of}
use Rattle.reading.specs.declared.Decoded.{Decoded}
use Rattle.reading.specs.Filling.{run_after}
use Rattle.records.specs.Into.{decoded_into, out_after}
use Rattle.records.specs.Pgn.{by_pgn_of, out_by_pgn}
use Rattle.samopute_c.specs.Answers.{Laid, of_moved}
use Rattle.samopute_c.specs.Values.{raw_offered, raw_cells}
use Rattle.samopute_c.specs.Decodes.{decoded_status, cells_of, pgn_status, pgn_cells}
use Rattle.samopute_c.specs.Encodes.{encoded_status, encoded_cells, encoded_by, payload_after, status_by_pgn, payload_by_pgn, cells_by_pgn}

-- ## Writing at a bit

-- `samopute_write_u64`, .. of a type of so many bits: the status, the buffer, the answer
abbrev pub Writes : ℕ → List ℕ → List ℕ → ℕ → List ℕ → ℕ → ℕ → ℕ → Type 0
Writes r after answer most buffer cursor value width =
    Laid r answer cursor (of_moved (advance_of (length buffer) (cursor_at cursor) width most))
    × (after ≡ written_of buffer (cursor_at cursor) width most value)

-- `samopute_write_slice`
abbrev pub WritesSlice : ℕ → List ℕ → List ℕ → List ℕ → ℕ → List ℕ → Type 0
WritesSlice r after answer buffer cursor source =
    Laid r answer cursor (of_moved (write_slice_of (length buffer) (cursor_at cursor) (length source)))
    × (after ≡ sliced_of buffer (cursor_at cursor) source)

-- ## Numbers

-- `samopute_raw_of`, of a field and what is offered to it: the status, the answer
abbrev pub GivesRaw : ℕ → List ℕ → FieldDescriptor → Offer → Type 0
GivesRaw r answer f offer = let x = raw_offered f offer in (r ≡ number_of x) × (answer ≡ raw_cells x)

-- ## Decoding

-- `told`: a decode of so many bytes, laid out
abbrev pub Tells : ℕ → List ℕ → List ℕ → ℕ → Decoded → Type 0
Tells r answer words received d = (r ≡ decoded_status d) × (answer ≡ cells_of (table_of words) received d)

-- `samopute_decode`: the status, the padding run, the readings, the answer
abbrev pub Decodes : ℕ → List ℕ → List ℕ → List ℕ → List ℕ → List ℕ → List ℕ → List ℕ → Type 0
Decodes r run after answer words payload padding readings =
    let t = table_of words in
    let d = decoded_into t payload (length padding) (length readings) in
    (r ≡ decoded_status d)
    × ((run ≡ run_after t payload padding)
    × ((after ≡ out_after t payload (length padding) readings) × (answer ≡ cells_of t (length payload) d)))

-- `samopute_decode_pgn`: no table that is built in fills the padding run
abbrev pub DecodesPgn : ℕ → List ℕ → List ℕ → List ℕ → ℕ → List ℕ → List ℕ → List ℕ → Type 0
DecodesPgn r run after answer pgn payload padding readings =
    let d = by_pgn_of pgn payload (length padding) (length readings) in
    (r ≡ pgn_status d)
    × ((run ≡ padding) × ((after ≡ out_by_pgn pgn payload (length padding) readings) × (answer ≡ pgn_cells pgn d)))

-- ## Encoding

-- `samopute_encode`: the status, the payload, the answer
abbrev pub Encodes : ℕ → List ℕ → List ℕ → List ℕ → List ℕ → List ℕ → List ℕ → Type 0
Encodes r after answer words values text payload =
    let t = table_of words in
    let e = encoded_by t values (length text) (length payload) in
    (r ≡ encoded_status e) × ((after ≡ payload_after t values text payload) × (answer ≡ encoded_cells e))

-- `samopute_encode_pgn`
abbrev pub EncodesPgn : ℕ → List ℕ → List ℕ → ℕ → List ℕ → List ℕ → List ℕ → Type 0
EncodesPgn r after answer pgn values text payload =
    (r ≡ status_by_pgn pgn values (length text) (length payload))
    × ((after ≡ payload_by_pgn pgn values text payload) × (answer ≡ cells_by_pgn pgn values (length text) (length payload)))
