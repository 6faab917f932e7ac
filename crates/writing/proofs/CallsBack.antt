-- Read-back for the calls, by their contracts as the source states them, `Post`: what `encode` accepted, `for_each_field` reads to the end where encode
-- ended, with as many readings as were written. Assumes nothing.
use Rattle.std.specs.Prelude.{Ok}
use mathlib.Core.Path.{◌≡◌, sym, ap, ap₂, ◌∙◌}
use mathlib.Core.List.{List}
use Prim.Native.Nat.{ℕ, ◌≤◌}
use native.Mathlib.Omega.{arith}
use lib.ListN.{length, take}
use Rattle.bits.specs.Calls.{bytes}
use Rattle.tables.specs.Table.{Table, table_of}
use Rattle.tables.specs.Check.{payload_max}
use Rattle.reading.specs.Decode.{decoded_of_lem, ended_at}
use Rattle.reading.specs.Demand3.{unskipped_in, room_enough_lem}
use Rattle.reading.proofs.for_each_field.Reads as for-each-field
use Rattle.offers.specs.Records.{values_in}
use Rattle.writing.specs.Encode.{buffer_after}
use Rattle.writing.specs.ReadBack.{spans_in, AllBytes, ReadsBack}
use Rattle.writing.proofs.ReadsBack.{records-read-back}
use Rattle.writing.proofs.encodes.encode.Reads as encode

-- what a contract P says of each run that it allows: of the lifetimes, the arguments, the answer and the parameters at exit
abbrev pub Says : {K : Type 0} {A X S : K → Type 0} → ((κs : K) → A κs → X κs → S κs → Type 0) → ((κs : K) → A κs → X κs → S κs → Type 0) → Type 0
Says {K} {A} {X} {S} P Q = (κs : K) (a : A κs) (x : X κs) (s : S κs) → P κs a x s → Q κs a x s

-- an accepted `encode`: of words, value records, lent text and buffer
pub call-reads-back : Says encode.Post (λ κs a x s. (n : ℕ) → x ≡ Ok (bytes n) → AllBytes a.1.0.now → AllBytes a.1.1.0.now
    → ReadsBack (table_of a.0.now) (values_in a.1.0.now) a.1.1.0.now a.1.1.1.0.now n
    × (s.1.1.1.0.now ≡ buffer_after (table_of a.0.now) (values_in a.1.0.now) a.1.1.0.now a.1.1.1.0.now))
call-reads-back κs a x s p n e values texts =
    (records-read-back (table_of a.0.now) a.1.0.now a.1.1.0.now a.1.1.1.0.now n values texts (sym p.0 ∙ e), p.1)

-- then `for_each_field`, by the same words: of what was received, a padding run of 223 bytes and room for 1,785 readings
pub then-read : Says for-each-field.Post (λ κs a x s. (t : Table) (values lent buffer : List ℕ) (n : ℕ) (r : ReadsBack t (values_in values) lent buffer n)
    → table_of a.0.now ≡ t → a.1.0.now ≡ take n (buffer_after t (values_in values) lent buffer) → length a.1.1.0.now ≡ payload_max → room_enough_lem ≤ a.1.1.1.0
    → x ≡ ended_at r.end.at (unskipped_in t (spans_in r.marks)))
then-read κs a x s p t values lent buffer n r same got run room =
    p.0
    ∙ ap₂ (λ (u : Table) (l : List ℕ). decoded_of_lem u l (length a.1.1.0.now) a.1.1.1.0) same got
    ∙ ap (λ (m : ℕ). decoded_of_lem t (take n (buffer_after t (values_in values) lent buffer)) m a.1.1.1.0) run
    ∙ (r.back a.1.1.1.0 (let f = r.few in omega (arith, f, room))).decodes
