-- Read-back: what encode accepts and writes, decode reads (`read_back`), with room for 1,785 readings always (`read-back-roomy`); of value
-- records and a lent text in bytes as they are (`records-read-back`). Assumes nothing.
use Rattle.std.specs.Prelude.{Result, Ok, Err, Some, None}
use mathlib.Core.Path.{◌≡◌, refl, sym, ap, ap₂, ◌∙◌, subst}
use mathlib.Core.Logic.{inl, inr}
use mathlib.Core.Bool.{Bool, true, false}
use mathlib.Core.List.{List, [], ◌∷◌}
use Prim.Native.Nat.{ℕ, zero, suc, ◌+◌, ◌*◌, ◌/◌, ◌≤◌, ◌<◌}
use native.Mathlib.Omega.{arith}
use lib.Dec.{eqb, ltb}
use lib.Ieee.{binary32}
use lib.Ieee.Bits.{of_bits-fits}
use lib.ListN.{length, take, get_or}
use borrow.Author.Tests.{ltb-false, le-ltb}
use Rattle.bits.specs.Bits.{pick}
use Rattle.bits.specs.Calls.{bytes}
use Rattle.bits.specs.declared.ByteCount.{ByteCount}
use Rattle.numbers.specs.Held.{HeldByte, Held}
use Rattle.tables.specs.Table.{Table}
use Rattle.tables.specs.Check.{Checked, check_of, payload_max}
use Rattle.walking.specs.Runs.{Run, ran, stopped}
use Rattle.walking.proofs.Visits.{All, all_right, all-zip, Ending}
use Rattle.fields.specs.declared.DecodeRefusal.{DecodeRefusal}
use Rattle.fields.specs.declared.Shape.{Shape}
use Rattle.fields.specs.declared.Shape.TheVariants as shape
use Rattle.fields.specs.Payload.{Payload, payload_of}
use Rattle.fields.specs.Shapes.{shape_of}
use Rattle.reading.specs.declared.Span.{Span}
use Rattle.reading.specs.declared.Progress.{Progress}
use Rattle.reading.specs.Filling.{working_of, prepared_of}
use Rattle.reading.specs.Decode.{progress_at, walk_of, reading_of, readings, spans_of, decoded_in, decoded_of_lem, read_into, readings_of, ended_at}
use Rattle.reading.specs.Decode as decode
use Rattle.reading.specs.Demand3.{total, unskipped, unskipped_in, room_enough_lem}
use Rattle.reading.proofs.Spans.{sum}
use Rattle.reading.proofs.Passed.{Right, walk-passed}
use Rattle.reading.proofs.Lasts.{Early, ran-early, early-some}
use Rattle.reading.proofs.Roomy.{count-unskipped}
use Rattle.weighing.specs.declared.EncodeRefusal.{EncodeRefusal}
use Rattle.weighing.specs.declared.EncodeRefusal.TheVariants.{WrongLength, ValueCount}
use Rattle.offers.specs.Values.{Values}
use Rattle.offers.specs.declared.Offer.{Offer}
use Rattle.offers.specs.declared.Offer.TheVariants.{Nothing, NoKind}
use Rattle.offers.specs.Records.{encoding_in_lem, record_bytes, record_at_lem, count_of, values_in}
use Rattle.writing.specs.declared.Pen.{Pen}
use Rattle.writing.specs.Encode.{Mark, writes_of, by_check, begun_of, bytes_used_lem, end_of, encoded_in, encoded_of, marks_of, image_of, buffer_in, buffer_after}
use Rattle.writing.specs.Strokes.{span_of}
use Rattle.writing.specs.ReadBack.{spans_in, Back, ReadBack, AllBytes, Offers, ReadsBack, AllHeld}
use Rattle.writing.proofs.Holding.{Holds}
use Rattle.writing.proofs.Listing.{record-in}
use Rattle.writing.proofs.Imaged.{working-short, holds-all}
use Rattle.writing.proofs.WalkBack.{Penned, all-penned, reading-back, walks-back}

-- ## Room

one-most : (sh : Shape) → unskipped sh ≤ 1
one-most (shape.Number strict) = omega arith
one-most shape.Gap = omega arith
one-most shape.Fixed = omega arith
one-most shape.Whole = omega arith
one-most shape.Lau = omega arith
one-most shape.Lz = omega arith

module _ (t : Table) (ok : check_of t ≡ Ok tt) (p : Payload) (room : ℕ) where
  -- each field takes a bit or more, but for the last
  few : (vs : List Span) → All (Right t p room) vs → Ending (Early t ok p room) vs → unskipped_in t vs ≤ total vs + 1
  unfolding unskipped_in total
  few [] r h = omega arith
  few (v ∷ vs) r (inl h, k) =
      let a = early-some t ok p room v r.0 h in
      let b = few vs r.1 k in
      let c = one-most (shape_of (t.field v.field)) in
      omega arith
  few (v ∷ vs) r (inr h, k) = let c = one-most (shape_of (t.field v.field)) in rw h (omega arith)

  -- a payload that was read to its end has so many readings at the most
  pub ran-few : (vs : List Span) (s : Progress) → walk_of t p room ≡ ran vs s → unskipped_in t vs ≤ p.size * 8 + 1
  ran-few vs s e =
      let g = walk-passed t p room vs s e in
      let a = few vs g.right (ran-early t ok p room vs s e) in
      let b = sum 0 vs s.at.0 g.chain in
      let c = g.inside (omega arith) in
      omega arith

-- ## The answers

ready : (t : Table) → check_of t ≡ Ok tt → (received : ℕ) → received ≤ payload_max → prepared_of t received payload_max ≡ Ok tt
ready t ok received l = rw (le-ltb payload_max received l, ok)

module _ (t : Table) (ok : check_of t ≡ Ok tt) (received : List ℕ) (short : length received ≤ payload_max) (room : ℕ) where
  abbrev working : Payload
  working = payload_of (working_of t received)

  -- a walk that ran is the decode's answer and its readings
  answers : (vs : List Span) (s : Progress) → walk_of t working room ≡ ran vs s → decoded_of_lem t received payload_max room ≡ ended_at s.at (unskipped_in t vs)
  answers vs s e =
      ap (λ (a : Result (Unit {0}) DecodeRefusal). decoded_in a t working room) (ready t ok (length received) short) ∙ ap (decode.end_of t working) e
      ∙ ap (ended_at s.at) (count-unskipped t working vs)

  reads_all : (vs : List Span) (s : Progress) → walk_of t working room ≡ ran vs s → readings_of t received payload_max room ≡ readings t working vs
  reads_all vs s e =
      ap (λ (a : Result (Unit {0}) DecodeRefusal). read_into a t working room) (ready t ok (length received) short) ∙ ap (λ (r : Run Span Progress DecodeRefusal). readings t working (spans_of r)) e

-- ## What encode accepted

pub record Accepts (t : Table) (vs : Values) (lent size n : ℕ) : Type 0 where
  pub short : size ≤ payload_max
  pub table : check_of t ≡ Ok tt
  pub begins : begun_of t size ≡ Ok tt
  pub marks : List Mark
  pub end : Pen
  pub writes : writes_of t vs.offered lent size ≡ ran marks end
  pub used : n ≡ bytes_used_lem end

module _ (t : Table) (vs : Values) (lent size n : ℕ) where
  end_by : (r : Run Mark Pen EncodeRefusal) → end_of t vs.count r ≡ Ok (bytes n) → (ms : List Mark) × (s : Pen) × (r ≡ ran ms s) × (n ≡ bytes_used_lem s)
  end_by (ran ms s) h = (ms, s, refl, go (ltb s.used vs.count) h)
    where
      go : (b : Bool) → pick b (Err (ValueCount t.count)) (Ok (bytes (bytes_used_lem s))) ≡ Ok (bytes n) → n ≡ bytes_used_lem s
      go true e = absurd cc
      go false e = let q : bytes (bytes_used_lem s) ≡ bytes n = cc in sym (ap (λ (x : ByteCount). x.0) q)
  end_by (stopped ms f) h = absurd cc

  pub accepts : encoded_of t vs lent size ≡ Ok (bytes n) → Accepts t vs lent size n
  accepts h = go (ltb payload_max size) (check_of t) refl refl h
    where
      go : (b : Bool) (c : Checked) → ltb payload_max size ≡ b → check_of t ≡ c → encoded_in (pick b (Err (WrongLength (bytes size))) (by_check c)) t vs lent size ≡ Ok (bytes n) → Accepts t vs lent size n
      go true c q o e = absurd cc
      go false (Err b) q o e = absurd cc
      go false (Ok tt) q o e =
          let a = end_by (writes_of t vs.offered lent size) e in
          record { short = ltb-false payload_max size q; table = o; begins = rw (q, o); marks = a.0; end = a.1; writes = a.2; used = a.3 }

-- ## Read-back

-- what was received holds what was written
module _ (t : Table) (ok : check_of t ≡ Ok tt)
    (offered : ℕ → Offer) (known : (j : ℕ) → Offers Held (offered j)) (lent : List ℕ) (texts : AllBytes lent) (size : ℕ)
    (ms : List Mark) (s : Pen) (writes : writes_of t offered (length lent) size ≡ ran ms s)
    (received : List ℕ) (short : length received ≤ payload_max) (holds : All (Holds (payload_of (working_of t received)) lent) ms) where
  abbrev payload : Payload
  payload = payload_of (working_of t received)

  small : payload.size ≤ payload_max
  small = working-short t ok received short

  walks : (room : ℕ) → unskipped_in t (spans_in ms) ≤ room → walk_of t payload room ≡ ran (spans_in ms) (progress_at s.at.0 (unskipped_in t (spans_in ms)) s.counters)
  walks room l = walks-back t ok offered known lent texts size payload small room ms s writes holds l

  few-marks : unskipped_in t (spans_in ms) ≤ room_enough_lem
  few-marks = let a = ran-few t ok payload _ (spans_in ms) _ (walks (unskipped_in t (spans_in ms)) (omega arith)) in omega (arith, a, small)

  back-marks : All (λ (m : Mark). Back payload lent (reading_of t payload (span_of m)) m.content) ms
  back-marks =
      all-zip (Penned t offered (length lent) size) (Holds payload lent) (λ (m : Mark). Back payload lent (reading_of t payload (span_of m)) m.content) ms
      (reading-back t ok offered known lent texts size payload small) (all-penned t ok offered (length lent) size ms s writes) holds

  reads-back : (room : ℕ) → unskipped_in t (spans_in ms) ≤ room → ReadBack t lent received room ms s
  reads-back room l = record {
    walks = walks room l;
    decodes = answers t ok received short room (spans_in ms) _ (walks room l);
    reads = reads_all t ok received short room (spans_in ms) _ (walks room l);
    back = λ us m ws e. (all_right (λ (m : Mark). Back payload lent (reading_of t payload (span_of m)) m.content) us (m ∷ ws) (rw e at back-marks)).0;
  }

-- the buffer after an accepted encode
image-after : (t : Table) (vs : Values) (lent buffer : List ℕ) (n : ℕ) → (a : Accepts t vs (length lent) (length buffer) n)
    → take n (buffer_after t vs lent buffer) ≡ take (bytes_used_lem a.end) (image_of (length buffer) a.marks lent)
image-after t vs lent buffer n a =
    ap₂ take a.used
    (ap (λ (b : Result (Unit {0}) EncodeRefusal). buffer_in b t vs lent buffer) a.begins
    ∙ ap (λ (r : Run Mark Pen EncodeRefusal). image_of (length buffer) (marks_of r) lent) a.writes)

-- what encode accepts is read back, of a lent text of bytes and of values that a machine has
pub read_back : (t : Table) (vs : Values) (lent buffer : List ℕ) (n : ℕ) → AllBytes lent → AllHeld vs
    → encoded_of t vs (length lent) (length buffer) ≡ Ok (bytes n) → ReadsBack t vs lent buffer n
read_back t vs lent buffer n texts known h =
    let size = length buffer in
    let a = accepts t vs (length lent) size n h in
    let ms = a.marks in
    let s = a.end in
    let g = holds-all t vs.offered lent size a.short ms s a.writes in
    let received = take (bytes_used_lem s) (image_of size ms lent) in
    let short : length received ≤ payload_max = (let l = a.short in let u = g.used in let k = g.long in omega arith) in
    record {
      marks = ms;
      end = s;
      writes = a.writes;
      used = a.used;
      few = few-marks t a.table vs.offered known lent texts size ms s a.writes received short g.holds;
      back = λ room l. subst (λ (r : List ℕ). ReadBack t lent r room ms s) (sym (image-after t vs lent buffer n a))
          (reads-back t a.table vs.offered known lent texts size ms s a.writes received short g.holds room l);
    }

-- with room that is always enough
pub read-back-roomy : (t : Table) (vs : Values) (lent buffer : List ℕ) (n room : ℕ) → AllBytes lent → AllHeld vs → room_enough_lem ≤ room
    → encoded_of t vs (length lent) (length buffer) ≡ Ok (bytes n)
    → (ms : List Mark) × (s : Pen) × (writes_of t vs.offered (length lent) (length buffer) ≡ ran ms s) × (n ≡ bytes_used_lem s)
    × ReadBack t lent (take n (buffer_after t vs lent buffer)) room ms s
read-back-roomy t vs lent buffer n room texts known l h =
    let r = read_back t vs lent buffer n texts known h in
    (r.marks, r.end, r.writes, r.used, r.back room (let f = r.few in omega arith))

-- ## The values that records are

-- bytes are below 256, and so is what stands for one past the end
byte_at : (s : List ℕ) → AllBytes s → (j : ℕ) → get_or s j 0 < 256
byte_at [] h j = omega arith
byte_at (x ∷ s) h zero = h.0
byte_at (x ∷ s) h (suc j) = byte_at s h.1 j

encoding-held : (mark x : ℕ) → x < 256 → HeldByte (encoding_in_lem mark x)
encoding-held mark x l = go (eqb mark 0)
  where
    go : (b : Bool) → HeldByte (pick b None (Some x))
    go true = tt
    go false = l

record-held : (s : List ℕ) → AllBytes s → (q : ℕ) → Offers Held (record_at_lem s q)
record-held s h q =
    record-in (Offers Held) tt (λ n. (tt, (tt, (tt, tt)))) (λ n. (tt, (tt, (tt, tt)))) (λ n. (tt, of_bits-fits binary32 n)) s q (encoding-held (get_or s (q + 1) 0) (get_or s (q + 2) 0) (byte_at s h (q + 2)))

pub records-held : (s : List ℕ) → AllBytes s → AllHeld (values_in s)
records-held s h j = go (ltb j (length s / record_bytes)) (ltb j (count_of s))
  where
    go : (b c : Bool) → Offers Held (pick b (record_at_lem s (j * record_bytes)) (pick c NoKind Nothing))
    go true c = record-held s h (j * record_bytes)
    go false true = tt
    go false false = tt

-- what `encode` accepts is read back: of records and a lent text that are bytes
pub records-read-back : (t : Table) (values lent buffer : List ℕ) (n : ℕ) → AllBytes values → AllBytes lent
    → encoded_of t (values_in values) (length lent) (length buffer) ≡ Ok (bytes n) → ReadsBack t (values_in values) lent buffer n
records-read-back t values lent buffer n h texts e = read_back t (values_in values) lent buffer n texts (records-held values h) e
