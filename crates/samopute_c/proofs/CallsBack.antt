-- Read-back at the boundary, by the contracts as the source states them, `Post`: what `samopute_encode` accepted of value records and a lent text that are bytes,
-- `samopute_decode` reads by the same table, from the bytes used of the payload, into a buffer with room for 1,785 readings. Assumes nothing.
use Rattle.std.specs.Prelude.{Result, Ok, Err}
use mathlib.Core.Path.{◌≡◌, refl, sym, ap, ap₂, ◌∙◌, subst}
use mathlib.Core.Bool.{true, false≢true}
use mathlib.Core.List.{List}
use Prim.Native.Nat.{ℕ, ◌+◌, ◌*◌, ◌≤◌}
use native.Mathlib.Omega.{arith}
use lib.ListN.{length, get_or, take}
use Rattle.weighing.specs.declared.EncodeRefusal.{EncodeRefusal}
use Rattle.bits.specs.declared.ByteCount.{ByteCount}
use Rattle.bits.specs.Calls.{bytes}
use Rattle.tables.specs.Table.{Table, table_of}
use Rattle.tables.specs.Check.{payload_max}
use Rattle.fields.specs.declared.DecodeRefusal.{DecodeRefusal}
use Rattle.fields.specs.Payload.{payload_of}
use Rattle.reading.specs.declared.Reading.{Reading}
use Rattle.reading.specs.Filling.{working_of, prepared_of, kept_unless}
use Rattle.reading.specs.Decode.{readings, readings_of, decoded_of_lem}
use Rattle.reading.specs.Demand3.{room_enough_lem}
use Rattle.reading.proofs.Answered.{answered}
use Rattle.records.specs.Layout.{prefix_bytes, record_bytes, room_in_lem, stored_in}
use Rattle.offers.specs.Records.{values_in}
use Rattle.weighing.specs.Refusals.{number_of, given_by_encode}
use Rattle.writing.specs.ReadBack.{spans_in, AllBytes, ReadBack, ReadsBack}
use Rattle.writing.proofs.ReadsBack.{records-read-back}
use Rattle.writing.proofs.CallsBack.{Says}
use Rattle.writing.proofs.Given.{encode-gives}
use Rattle.samopute_c.specs.Encodes.{encoded_status, encoded_cells, encoded_by}
use Rattle.samopute_c.specs.Decodes.{decoded_status}
use Rattle.samopute_c.proofs.decoding.samopute_decode.Reads as decode
use Rattle.samopute_c.proofs.encoding.samopute_encode.Reads as encode

-- ## An encode with status 0

accepted-as : (t : Table) (values : List ℕ) (text payload : ℕ) (e : Result ByteCount EncodeRefusal) → encoded_by t values text payload ≡ e → encoded_status e ≡ 0 → e ≡ Ok (bytes (get_or (encoded_cells e) 0 0))
accepted-as t values text payload (Ok used) h z = refl
accepted-as t values text payload (Err f) h z =
    let g : given_by_encode (number_of f) ≡ true = encode-gives t (values_in values) text payload f h in
    absurd (false≢true (ap given_by_encode (sym z) ∙ g))

-- what was written is read back, of words, value records, lent text and payload; the bytes used are the first number of the answer
pub call-reads-back : Says encode.Post (λ κs a x s. x ≡ 0 → AllBytes a.1.0.now → AllBytes a.1.1.0.now
    → ReadsBack (table_of a.0.now) (values_in a.1.0.now) a.1.1.0.now a.1.1.1.0.now (get_or s.1.1.1.1.0.now 0 0))
call-reads-back κs a x s p z values texts =
    let t = table_of a.0.now in
    let lent = length a.1.1.0.now in
    let size = length a.1.1.1.0.now in
    let e = encoded_by t a.1.0.now lent size in
    let used : get_or (encoded_cells e) 0 0 ≡ get_or s.1.1.1.1.0.now 0 0 = ap (λ (l : List ℕ). get_or l 0 0) (sym p.1.1) in
    records-read-back t a.1.0.now a.1.1.0.now a.1.1.1.0.now (get_or s.1.1.1.1.0.now 0 0) values texts
    (accepted-as t a.1.0.now lent size e refl (sym p.0 ∙ z) ∙ ap (λ (n : ℕ). Ok (bytes n)) used)

-- ## Then a decode

-- of what was received, by its status and its buffer of readings, before and after: the readings are of what was written
pub record ReadAgain (t : Table) (values text payload : List ℕ) (used : ℕ) (received : List ℕ) (status : ℕ) (before after : List ℕ) : Type 0 where
  -- what was written, and that it is read back
  pub wrote : ReadsBack t (values_in values) text payload used
  pub accepted : status ≡ 0
  -- the buffer holds the records of the readings at the spans that were written ..
  pub holds : after ≡ stored_in (readings t (payload_of (working_of t received)) (spans_in wrote.marks)) before
  -- .. each of what was written there: its raw, or its text
  pub back : ReadBack t text received (room_in_lem (length before)) wrote.marks wrote.end

-- `samopute_encode` of a (words, value records, lent text, payload, answer) left s with status 0; then `samopute_decode` of b (words, payload, padding run, readings, answer)
-- left z: by the same words, of the bytes used of the payload in s, with a padding run of 223 bytes and room for 1,785 readings
pub then-decoded : Says encode.Post (λ κs a x s. Says decode.Post (λ ls b y z. x ≡ 0 → AllBytes a.1.0.now → AllBytes a.1.1.0.now
    → b.0.now ≡ a.0.now
    → b.1.0.now ≡ take (get_or s.1.1.1.1.0.now 0 0) s.1.1.1.0.now
    → length b.1.1.0.now ≡ payload_max
    → prefix_bytes + record_bytes * room_enough_lem ≤ length b.1.1.1.0.now
    → ReadAgain (table_of a.0.now) a.1.0.now a.1.1.0.now a.1.1.1.0.now (get_or s.1.1.1.1.0.now 0 0)
    b.1.0.now y b.1.1.1.0.now z.1.1.1.0.now))
then-decoded κs a x s p ls b y z q ok values texts words got run big =
    let t = table_of a.0.now in
    let received = b.1.0.now in
    let out = b.1.1.1.0.now in
    let room = room_in_lem (length out) in
    let r = call-reads-back κs a x s p ok values texts in
    let roomy : room_enough_lem ≤ room = omega arith in
    let same = got ∙ ap (take (get_or s.1.1.1.1.0.now 0 0)) p.1.0 in
    let k = subst (λ (l : List ℕ). ReadBack t a.1.1.0.now l room r.marks r.end) (sym same) (r.back room (let f = r.few in omega arith)) in
    let ready = (answered t received payload_max room _ _ k.decodes).2.ready in
    record {
      wrote = r;
      accepted = q.0
          ∙ ap₂ (λ (ws : List ℕ) (m : ℕ). decoded_status (decoded_of_lem (table_of ws) received m room)) words run
          ∙ ap decoded_status k.decodes;
      holds = q.1.1.0
          ∙ ap₂ (λ (ws : List ℕ) (m : ℕ). kept_unless (prepared_of (table_of ws) (length received) m) (stored_in (readings_of (table_of ws) received m room) out) out) words run
          ∙ ap (λ (g : Result (Unit {0}) DecodeRefusal). kept_unless g (stored_in (readings_of t received payload_max room) out) out) ready
          ∙ ap (λ (rs : List Reading). stored_in rs out) k.reads;
      back = k;
    }
