-- Read-back for the calls, by their contracts as the source states them, `Encodes` of `OneAnswer` here and `Decode` of `OneAnswer` of `lent_readings`: what `encode`
-- accepted of values that a machine has, and of a lent text in bytes, is read back from the buffer at exit, given room; and `decode` puts those readings into its
-- run. Assumes nothing.
use Rattle.std.specs.Prelude.{Ok}
use mathlib.Core.Path.{◌≡◌, sym, ap, ap₂, ◌∙◌}
use mathlib.Core.Bool.{Bool, true, false}
use mathlib.Core.List.{List, [], ◌∷◌}
use Prim.Native.Nat.{ℕ, zero, suc, ◌≤◌}
use native.Mathlib.Omega.{arith}
use contract.Lifetimes.{Lfts}
use denote.Triple.Entry.{Args, Res}
use denote.Triple.Clauses.{AtExit}
use lib.Dec.{ltb}
use lib.ListN.{length, get_or, take}
use Rattle.bits.specs.Bits.{pick}
use Rattle.bits.specs.Calls.{bytes}
use Rattle.descriptor.specs.declared.PgnValue.{PgnValue}
use Rattle.descriptor.specs.declared.PgnValue.TheVariants.{U8}
use Rattle.numbers.specs.Held.{Held}
use Rattle.tables.specs.Table.{Table, table_of}
use Rattle.tables.specs.Check.{payload_max}
use Rattle.fields.specs.Payload.{payload_of}
use Rattle.reading.specs.declared.Reading.{Reading}
use Rattle.reading.specs.Filling.{working_of}
use Rattle.reading.specs.Decode.{readings, readings_of, decoded_of_lem, ended_at}
use Rattle.reading.specs.Demand3.{unskipped_in, room_enough_lem}
use Rattle.lent_readings.specs.Run.{entries_of}
use Rattle.lent_readings.proofs.OneAnswer.{Decode}
use Rattle.lent_readings.specs.contracts.decode as decode
use Rattle.walking.proofs.Visits.{All}
use Rattle.offers.specs.declared.Offer.TheVariants.{Nothing, Value}
use Rattle.writing.specs.Encode.{buffer_after}
use Rattle.writing.specs.ReadBack.{spans_in, Offers, AllBytes, AllHeld, ReadsBack}
use Rattle.writing.proofs.ReadsBack.{read_back}
use Rattle.lent_values.specs.Run.{values_of}
use Rattle.lent_values.specs.contracts.encode as encode
use Rattle.lent_values.proofs.OneAnswer.{Encodes}

-- an accepted `encode`: of words, values, lent text and buffer
pub call-reads-back : (κs : Lfts 4) (a : Args encode.signature κs) (x : Res encode.signature κs) (s : AtExit encode.ended κs) → Encodes κs a x s → (n : ℕ) → x ≡ Ok (bytes n)
    → AllHeld (values_of a.1.0.now) → AllBytes a.1.1.0.now
    → ReadsBack (table_of a.0.now) (values_of a.1.0.now) a.1.1.0.now a.1.1.1.0.now n
    × (s.1.1.1.0.now ≡ buffer_after (table_of a.0.now) (values_of a.1.0.now) a.1.1.0.now a.1.1.1.0.now)
call-reads-back κs a x s p n e held texts =
    (read_back (table_of a.0.now) (values_of a.1.0.now) a.1.1.0.now a.1.1.1.0.now n texts held (sym p.0 ∙ e), p.1)

-- what is asked of the values is asked of each one lent
held_at : (vs : List PgnValue) → All Held vs → (j : ℕ) → Held (get_or vs j (U8 0))
held_at [] h j = tt
held_at (v ∷ vs) h zero = h.0
held_at (v ∷ vs) h (suc j) = held_at vs h.1 j

pub all_held : (vs : List PgnValue) → All Held vs → AllHeld (values_of vs)
all_held vs h j = go (ltb j (length vs)) _ (held_at vs h _)
  where
    go : (b : Bool) (v : PgnValue) → Held v → Offers Held (pick b (Value v) Nothing)
    go true v k = k
    go false v k = tt

-- then `decode`, by the same words: of what was received, a padding run of 223 bytes and a run of 1,785 readings or more, which held `was`
pub then-decoded : (κs : Lfts 4) (a : Args decode.signature κs) (x : Res decode.signature κs) (s : AtExit decode.ended κs) → Decode κs a x s
    → (t : Table) (vs : List PgnValue) (lent buffer : List ℕ) (n : ℕ) (r : ReadsBack t (values_of vs) lent buffer n)
    → table_of a.0.now ≡ t → a.1.0.now ≡ take n (buffer_after t (values_of vs) lent buffer) → length a.1.1.0.now ≡ payload_max → room_enough_lem ≤ length a.1.1.1.0.now
    → (x ≡ ended_at r.end.at (unskipped_in t (spans_in r.marks)))
    × (s.1.1.1.0.now ≡ entries_of (readings t (payload_of (working_of t a.1.0.now)) (spans_in r.marks)) a.1.1.1.0.now)
then-decoded κs a x s p t vs lent buffer n r same got run room =
    let was = a.1.1.1.0.now in
    let k = r.back (length was) (let f = r.few in omega (arith, f, room)) in (
      p.0 ∙ ap₂ (λ (u : Table) (m : ℕ). decoded_of_lem u a.1.0.now m (length was)) same run ∙ ap (λ (l : List ℕ). decoded_of_lem t l payload_max (length was)) got ∙ k.decodes,
      p.1.1
          ∙ ap₂ (λ (u : Table) (m : ℕ). entries_of (readings_of u a.1.0.now m (length was)) was) same run
          ∙ ap (λ (l : List ℕ). entries_of (readings_of t l payload_max (length was)) was) got
          ∙ ap (λ (rs : List Reading). entries_of rs was) k.reads
          ∙ ap (λ (l : List ℕ). entries_of (readings t (payload_of (working_of t l)) (spans_in r.marks)) was) (sym got),
    )
