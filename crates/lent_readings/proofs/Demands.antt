-- Demands 2 and 3 for `decode`, by its contract as the source states it. Demand 2 is the contract: the run holds the readings that document 01's rules make of
-- what was received. Assumes nothing.
use mathlib.Core.Path.{◌≡◌, sym, ap, ◌∙◌, subst}
use mathlib.Core.List.{List, ◌∷◌, ◌++◌}
use Prim.Native.Nat.{ℕ, ◌%◌, ◌^◌, ◌≤◌}
use lib.ListN.{length}
use contract.Lifetimes.{Lfts}
use denote.Triple.Entry.{Args, Res}
use denote.Triple.Clauses.{AtExit}
use Rattle.std.specs.Prelude.{Some}
use Rattle.bits.specs.Bits.{written}
use Rattle.bits.specs.declared.BitPos.{BitPos}
use Rattle.tables.specs.Table.{Table, table_of}
use Rattle.walking.specs.Runs.{Run}
use Rattle.fields.specs.declared.DecodeRefusal.{DecodeRefusal}
use Rattle.fields.specs.declared.DecodeRefusal.TheVariants.{NoRoom}
use Rattle.fields.specs.Payload.{payload_of}
use Rattle.reading.specs.declared.Span.{Span}
use Rattle.reading.specs.declared.Progress.{Progress}
use Rattle.reading.specs.declared.Reading.{Reading}
use Rattle.reading.specs.Filling.{working_of}
use Rattle.reading.specs.Decode.{walk_of, readings, spans_of, decoded_of_lem, readings_of, ended_at, refused_with}
use Rattle.reading.specs.Demand3.{Demand3, Free, span_in, unskipped_in, room_enough_lem}
use Rattle.reading.proofs.Answered.{Decodes, answers, answered, reads, two_runs, enough-room}
use Rattle.reading.proofs.Demand3.{demand-3}
use Rattle.lent_readings.specs.Run.{entries_of}
use Rattle.lent_readings.proofs.OneAnswer.{Decode}
use Rattle.lent_readings.specs.contracts.decode as decode

-- ## A call

-- a call that its contract allows
pub record Call : Type 0 where
  pub κs : Lfts 4
  pub args : Args decode.signature κs
  pub answer : Res decode.signature κs
  pub exit : AtExit decode.ended κs
  pub meets : Decode κs args answer exit

module _ (c : Call) where
  -- its table, what was received, the bytes of the padding run, and the run of readings before and after it
  abbrev pub table : Table
  table = table_of c.args.0.now

  abbrev pub received : List ℕ
  received = c.args.1.0.now

  abbrev pub padding : ℕ
  padding = length c.args.1.1.0.now

  abbrev pub was : List Reading
  was = c.args.1.1.1.0.now

  abbrev pub out : List Reading
  out = c.exit.1.1.1.0.now

-- ## One call

-- it answered this end and count
pub record Decoding (c : Call) (end : BitPos) (n : ℕ) : Type 0 where
  pub spans : List Span
  pub last : Progress
  pub demand : Demand3 (table c) (working_of (table c)) (received c) (length (was c)) spans last
  -- the end and the count answered are theirs
  pub ends : ended_at last.at (unskipped_in (table c) spans) ≡ ended_at end n
  -- the run holds their readings, and after them what it held
  pub holds : out c ≡ entries_of (readings (table c) (payload_of (working_of (table c) (received c))) spans) (was c)

pub decode-demand-3 : (c : Call) (end : BitPos) (n : ℕ) → c.answer ≡ ended_at end n → Decoding c end n
decode-demand-3 c end n e =
    let t = table c in
    let p = c.meets in
    let r = answered t (received c) (padding c) (length (was c)) end n (sym p.0 ∙ e) in
    let d = r.2 in
    record {
      spans = r.0;
      last = r.1;
      demand = demand-3 t (received c) (padding c) (length (was c)) r.0 r.1 d.ready d.run;
      ends = sym (answers t (received c) (padding c) (length (was c)) r.0 r.1 d) ∙ sym p.0 ∙ e;
      holds = p.1.1 ∙ ap (λ (rs : List Reading). entries_of rs (was c)) (reads t (received c) (padding c) (length (was c)) r.0 r.1 d);
    }

-- with room for 1,785 readings 9 is never answered
pub decode-enough : (c : Call) → room_enough_lem ≤ length (was c) → (i n : ℕ) → c.answer ≡ refused_with (NoRoom i) n → ⊥
decode-enough c l i n e = enough-room (table c) (received c) c.args.1.1.0.now (length (was c)) l i n (sym c.meets.0 ∙ e)

-- ## Two calls

-- "Change the bits of one number": two calls by one table, with padding runs and runs of readings as long as each other. The first met the span v, of a
-- number that may be changed; the second received the same, but for the bits of x put there
pub record Changes (c c' : Call) (v : Span) (x : ℕ) : Type 0 where
  pub same-table : table c' ≡ table c
  pub same-padding : padding c' ≡ padding c
  pub same-room : length (was c') ≡ length (was c)
  pub before : List Span
  pub later : List Span
  pub met : spans_of (walk_of (table c) (payload_of (working_of (table c) (received c))) (length (was c))) ≡ before ++ v ∷ later
  pub free : Free (table c) (received c) v
  pub put : received c' ≡ written (received c) v.start.0 v.bits.0 x

-- the second answers as the first, and its run holds the same readings but the one at v, whose raw is the new bits
pub record Alike (c c' : Call) (v : Span) (x : ℕ) : Type 0 where
  pub answer : c'.answer ≡ c.answer
  pub before : List Reading
  pub old : Reading
  pub new : Reading
  pub later : List Reading
  pub held : out c ≡ entries_of (before ++ old ∷ later) (was c)
  pub holds : out c' ≡ entries_of (before ++ new ∷ later) (was c')
  pub stood : span_in old ≡ v
  pub stands : span_in new ≡ v
  pub raw : new.raw ≡ Some (x % 2 ^ v.bits.0)

-- whatever goes by a call's table, bytes received and the two lengths
alike : {A : Type 0} (c c' : Call) (v : Span) (x : ℕ) → Changes c c' v x → (f : Table → List ℕ → ℕ → ℕ → A)
    → f (table c') (received c') (padding c') (length (was c')) ≡ f (table c) (written (received c) v.start.0 v.bits.0 x) (padding c) (length (was c))
alike c c' v x k f =
    ap (λ (t : Table). f t (received c') (padding c') (length (was c'))) k.same-table
    ∙ ap (λ (l : List ℕ). f (table c) l (padding c') (length (was c'))) k.put
    ∙ ap (λ (n : ℕ). f (table c) (written (received c) v.start.0 v.bits.0 x) n (length (was c'))) k.same-padding
    ∙ ap (λ (n : ℕ). f (table c) (written (received c) v.start.0 v.bits.0 x) (padding c) n) k.same-room

pub decode-changed : (c c' : Call) (end : BitPos) (n : ℕ) → c.answer ≡ ended_at end n → (v : Span) (x : ℕ) → Changes c c' v x → Alike c c' v x
decode-changed c c' end n e v x k =
    let t = table c in
    let pad = padding c in
    let room = length (was c) in
    let r = answered t (received c) pad room end n (sym c.meets.0 ∙ e) in
    let d = r.2 in
    let vs : r.0 ≡ k.before ++ v ∷ k.later = sym (ap (λ (w : Run Span Progress DecodeRefusal). spans_of w) d.run) ∙ k.met in
    let d' = subst (λ (us : List Span). Decodes t (received c) pad room us r.1) vs d in
    let two = two_runs t (received c) pad room k.before v k.later r.1 d' k.free x in
    record {
      answer = c'.meets.0 ∙ alike c c' v x k decoded_of_lem ∙ two.answer ∙ sym c.meets.0;
      before = two.before;
      old = two.old;
      new = two.new;
      later = two.later;
      held = c.meets.1.1 ∙ ap (λ (rs : List Reading). entries_of rs (was c)) two.were;
      holds = c'.meets.1.1 ∙ ap (λ (rs : List Reading). entries_of rs (was c')) (alike c c' v x k readings_of ∙ two.are);
      stood = two.stood;
      stands = two.stands;
      raw = two.raw;
    }
