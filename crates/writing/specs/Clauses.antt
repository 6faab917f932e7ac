-- What each call answers and leaves, as its contract says it: one equation for the answer, and one for the lent buffer at exit. They put the definitions of Encode,
-- Strokes and Ink together over the words and bytes themselves, and rule nothing of their own: only the code needs them.
use Rattle.std.specs.Prelude.{◌≡◌, ℕ, List, length, Result}
use Rattle.weighing.specs.declared.EncodeRefusal.{EncodeRefusal}
use Rattle.bits.specs.declared.ByteCount.{ByteCount}
use Rattle.tables.specs.Table.{table_of}
use Rattle.walking.specs.declared.Spot.{Spot}
use Rattle.walking.specs.Looks.{enter_with}
use Rattle.weighing.specs.declared.Weighed.{Weighed}
use Rattle.offers.specs.declared.Offer.{Offer}
use Rattle.offers.specs.Records as offered
use Rattle.writing.specs.declared.Pen.{Pen}
use Rattle.writing.specs.declared.Draft.{Draft}
use Rattle.writing.specs.declared.Stroked.{Stroked}
use Rattle.writing.specs.Ink.{inked}
use Rattle.writing.specs.Encode.{begun_of, one_of, count_of, too_many, writes_of, end_of, marks_of, image_of, encoded_of, buffer_after}
use Rattle.writing.specs.Strokes.{ones_if, shown, stroked_of, left_of}

-- `begin`
abbrev pub Begins : Result (Unit {0}) EncodeRefusal → List ℕ → List ℕ → List ℕ → Type 0
Begins r after words buffer =
    let b = begun_of (table_of words) (length buffer) in
    (r ≡ b) × (after ≡ ones_if b buffer)

-- ## One field

-- `write_field`: what was weighed, put at a bit
abbrev pub Puts : Result Weighed EncodeRefusal → List ℕ → Result Weighed EncodeRefusal → List ℕ → List ℕ → ℕ → Type 0
Puts r after weighed lent buffer at = (r ≡ weighed) × (after ≡ inked buffer at weighed lent)

-- `enter`: set k, which touches no buffer
abbrev pub Enters : Stroked → List ℕ → Offer → ℕ → Pen → Spot → Type 0
Enters r words offer k pen here =
    let t = table_of words in
    r ≡ shown t offer here (enter_with t (one_of t (λ (j : ℕ). offer) 0 0) (count_of t) too_many k (count_of t k pen) pen)

-- `write_next`
abbrev pub WritesNext : Stroked → List ℕ → List ℕ → List ℕ → List ℕ → Draft → Offer → Type 0
WritesNext r after words buffer lent draft offer =
    let t = table_of words in
    (r ≡ stroked_of t offer (length lent) (length buffer) draft) × (after ≡ left_of t offer lent buffer draft)

-- ## All of them, of value records in bytes

-- `written`: the walk, through a buffer of ones
abbrev pub Writes : Result ByteCount EncodeRefusal → List ℕ → List ℕ → List ℕ → List ℕ → List ℕ → Type 0
Writes r after words values lent buffer =
    let t = table_of words in
    let w = writes_of t (offered.offered_at values) (length lent) (length buffer) in
    (r ≡ end_of t (offered.count_of values) w) × (after ≡ image_of (length buffer) (marks_of w) lent)

-- `encode`
abbrev pub Encodes : Result ByteCount EncodeRefusal → List ℕ → List ℕ → List ℕ → List ℕ → List ℕ → Type 0
Encodes r after words values lent buffer =
    let t = table_of words in
    let vs = offered.values_in values in
    (r ≡ encoded_of t vs (length lent) (length buffer)) × (after ≡ buffer_after t vs lent buffer)
