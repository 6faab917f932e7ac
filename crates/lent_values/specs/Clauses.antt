-- What each call answers and leaves, as its contract says it: one equation for the answer, and one for the lent buffer at exit. They put the definitions of `writing` and Run
-- together over the words and bytes themselves, and rule nothing of their own: only the code needs them.
use Rattle.std.specs.Prelude.{◌≡◌, ℕ, List, length, Result}
use Rattle.bits.specs.declared.ByteCount.{ByteCount}
use Rattle.descriptor.specs.declared.PgnValue.{PgnValue}
use Rattle.tables.specs.Table.{table_of}
use Rattle.weighing.specs.declared.EncodeRefusal.{EncodeRefusal}
use Rattle.writing.specs.Encode.{writes_of, end_of, marks_of, image_of, encoded_of, buffer_after}
use Rattle.lent_values.specs.Run.{offered_at, values_of}

-- `written`: the walk, through a buffer of ones
abbrev pub Writes : Result ByteCount EncodeRefusal → List ℕ → List ℕ → List PgnValue → List ℕ → List ℕ → Type 0
Writes r after words values lent buffer =
    let t = table_of words in
    let w = writes_of t (offered_at values) (length lent) (length buffer) in
    (r ≡ end_of t (length values) w) × (after ≡ image_of (length buffer) (marks_of w) lent)

-- `encode`
abbrev pub Encodes : Result ByteCount EncodeRefusal → List ℕ → List ℕ → List PgnValue → List ℕ → List ℕ → Type 0
Encodes r after words values lent buffer =
    let t = table_of words in
    let vs = values_of values in
    (r ≡ encoded_of t vs (length lent) (length buffer)) × (after ≡ buffer_after t vs lent buffer)
