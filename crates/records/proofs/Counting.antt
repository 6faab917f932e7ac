-- The count put in front of the records, and the room of a buffer. Assumes nothing.
use mathlib.Core.Path.{◌≡◌, refl, sym, ap, ◌∙◌}
use mathlib.Core.Bool.{Bool, true, false}
use mathlib.Core.List.{List, ◌++◌}
use Prim.Native.Nat.{ℕ, ◌+◌, ◌*◌, ◌≤◌, ◌<◌}
use native.Mathlib.Omega.{arith}
use lib.Dec.{ltb}
use lib.ListN.{length, take, drop, length-take}
use lib.Seq.{drop_at}
use borrow.Author.Tests.{lt-ltb, le-ltb, ltb-true, ltb-false}
use Rattle.bits.specs.Bits.{pick}
use Rattle.tables.specs.Table.{Table}
use Rattle.walking.specs.Runs.{Run, ran, stopped}
use Rattle.fields.specs.declared.DecodeRefusal.{DecodeRefusal}
use Rattle.fields.specs.Payload.{Payload}
use Rattle.reading.specs.declared.Span.{Span}
use Rattle.reading.specs.declared.Progress.{Progress}
use Rattle.reading.specs.declared.Reading.{Reading}
use Rattle.reading.specs.Decode.{readings, spans_of, end_of}
use Rattle.records.specs.Layout.{bytes_of, records, room_in_lem, stored_in}
use Rattle.records.specs.Puts.{puts}
use Rattle.records.specs.Stretches.{Roomy, stored, counted}
use Rattle.records.proofs.Putting.{length-bytes, length-records, puts-in, puts-past}
use Rattle.records.proofs.Quickly.{length-stored}

pub count-end : (t : Table) (p : Payload) (w : Run Span Progress DecodeRefusal) → (end_of t p w).count ≡ length (readings t p (spans_of w))
count-end t p (ran vs s) = refl
count-end t p (stopped vs f) = refl

pub roomy-in : (out : List ℕ) → Roomy (room_in_lem (length out)) out
roomy-in out = record { fits = λ m l. omega (arith, l) }

front_long : (n : ℕ) (l : List ℕ) → n ≤ length l → length (take n l) ≡ n
front_long n l h = let e = length-take n l in omega (arith, e, h)

module _ (rs : List Reading) (out : List ℕ) (few : length rs ≤ room_in_lem (length out)) where
  abbrev n : ℕ
  n = length rs

  front : 8 ≤ length out → puts (stored out 0 rs) 0 (bytes_of 8 n) ≡ bytes_of 8 n ++ (records rs ++ drop (8 + 64 * n) out)
  front l =
      let b = length-bytes 8 n in
      let zero-plus : 0 + length (bytes_of 8 n) ≡ 8 = omega (arith, b) in
      let r = length-records rs in
      let s = length-stored out 0 rs in
      let fits : 8 + length (records rs) ≤ length out = omega (arith, r, few, l) in
      let e : stored out 0 rs ≡ take 8 out ++ (records rs ++ drop (8 + length (records rs)) out) = puts-in out 8 (records rs) fits in
      puts-in (stored out 0 rs) 0 (bytes_of 8 n) (omega (arith, b, s, l))
      ∙ ap (λ (k : ℕ). bytes_of 8 n ++ drop k (stored out 0 rs)) zero-plus
      ∙ ap (λ (x : List ℕ). bytes_of 8 n ++ drop 8 x) e
      ∙ ap (λ (x : List ℕ). bytes_of 8 n ++ x) (drop_at (take 8 out) (records rs ++ drop (8 + length (records rs)) out) 8 (front_long 8 out l))
      ∙ ap (λ (k : ℕ). bytes_of 8 n ++ (records rs ++ drop (8 + k) out)) r

  by_length : (b : Bool) → ltb (length out) 8 ≡ b → pick b (stored out 0 rs) (puts (stored out 0 rs) 0 (bytes_of 8 n)) ≡ pick b out (bytes_of 8 n ++ (records rs ++ drop (8 + 64 * n) out))
  by_length true h = let l = ltb-true (length out) 8 h in puts-past out 8 (records rs) (omega (arith, l))
  by_length false h = front (ltb-false (length out) 8 h)

  pub stored-in : counted (stored out 0 rs) n ≡ stored_in rs out
  stored-in =
      ap (λ (k : ℕ). pick (ltb k 8) (stored out 0 rs) (puts (stored out 0 rs) 0 (bytes_of 8 n))) (length-stored out 0 rs) ∙ by_length (ltb (length out) 8) refl

pub counted-short : (out : List ℕ) (m : ℕ) → length out < 8 → out ≡ counted out m
counted-short out m l = sym (ap (λ (b : Bool). pick b out (puts out 0 (bytes_of 8 m))) (lt-ltb _ _ l))

pub counted-long : (out : List ℕ) (m : ℕ) → 8 ≤ length out → puts out 0 (bytes_of 8 m) ≡ counted out m
counted-long out m l = sym (ap (λ (b : Bool). pick b out (puts out 0 (bytes_of 8 m))) (le-ltb _ _ l))
