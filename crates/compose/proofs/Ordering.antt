-- An encode by a message's table or by any table, and the orders of a line. Assumes nothing.
use Rattle.std.specs.Prelude.{Result, Ok, Err, Option, Some, None, unwrap_or}
use mathlib.Core.Path.{◌≡◌, refl, sym, ap, ap₂, ◌∙◌}
use mathlib.Core.Bool.{Bool, true, false, and-false}
use mathlib.Core.List.{List, [], ◌∷◌, ◌++◌}
use Prim.Native.Nat.{ℕ, zero, suc, ◌-◌, ◌^◌, ◌≤◌, ◌<◌}
use native.Mathlib.Omega.{arith}
use borrow.Author.Tests.{le-leb, lt-leb, eq-eqb, ne_eqb}
use lib.ListN.{length, take, drop, replicate, length-append, length-replicate}
use lib.Seq.{take_at}
use Rattle.weighing.specs.declared.EncodeRefusal.{EncodeRefusal}
use Rattle.bits.specs.declared.ByteCount.{ByteCount}
use Rattle.bits.specs.Bits.{pick}
use Rattle.columns.specs.Parts.{parts_of, field}
use Rattle.columns.specs.Numbers.{hex_digits, decimal_in, hex_in}
use Rattle.columns.specs.Runs.{values_of}
use Rattle.columns.proofs.Spelling.{number-below}
use Rattle.columns.proofs.Stored.{Stored}
use Rattle.tables.specs.Table.{Table, table_of}
use Rattle.messages.specs.Messages.{message_of_lem}
use Rattle.offers.specs.Records.{values_in}
use Rattle.offers.specs.Values.{Values}
use Rattle.writing.specs.Encode.{begun_of, writes_of, marks_of, encoded_of, buffer_in, buffer_after}
use Rattle.writing.proofs.Loops.{length-image}
use Rattle.frame_lines.specs.Lines.{malformed_line}
use Rattle.compose.specs.Answers.{outcome_text, buffer_text, encode_text, comma, are_words_lem, buffer_of, table_text, known_text, pgn_line, fields_of, is_t_lem, leading, order_text, listed_text, answered}
use Rattle.compose.specs.Records.{lists, lists_from, records_max, texts_max, lists_of}
use Rattle.compose.specs.Clauses.{taken, fields_after}
use Rattle.compose.specs.declared.entries.Listed.{Listed}

-- ## By a table

-- the first bytes of a buffer that holds the same everywhere
first-same : (n m a : ℕ) → n ≤ m → take (n - 0) (replicate m a) ≡ replicate n a
first-same n m a l = let k : n - 0 ≡ n = omega arith in ap (λ (i : ℕ). take i (replicate m a)) k ∙ go n m l
  where
    go : (n m : ℕ) → n ≤ m → take n (replicate m a) ≡ replicate n a
    go zero m l = refl
    go (suc n) zero l = absurd (omega arith)
    go (suc n) (suc m) l = ap (λ (x : List ℕ). a ∷ x) (go n m (omega arith))

-- a buffer keeps its length
pub after-size : (t : Table) (vs : Values) (lent buffer : List ℕ) → length (buffer_after t vs lent buffer) ≡ length buffer
after-size t vs lent buffer = go (begun_of t (length buffer))
  where
    go : (r : Result (Unit {0}) EncodeRefusal) → length (buffer_in r t vs lent buffer) ≡ length buffer
    go (Ok u) = length-image (length buffer) (marks_of (writes_of t vs.offered (length lent) (length buffer))) lent
    go (Err e) = refl

-- the first bytes of the largest buffer
abbrev pub first_of : ℕ → List ℕ
first_of size = take (size - 0) (buffer_of 300)

-- an encode into them
module _ (words values lent : List ℕ) (size : ℕ) (l : size ≤ 300) {x : Result ByteCount EncodeRefusal} {after : List ℕ}
    (e : (x ≡ encoded_of (table_of words) (values_in values) (length lent) (length (first_of size))) × (after ≡ buffer_after (table_of words) (values_in values) lent (first_of size))) where
  is : first_of size ≡ buffer_of size
  is = first-same size 300 0xa5 l

  after-length : length after ≡ size
  after-length = ap length e.1 ∙ after-size (table_of words) (values_in values) lent (first_of size) ∙ ap length is ∙ length-replicate {A = ℕ} size 0xa5

  pub sized-end : (rest : List ℕ) → size ≤ length (after ++ rest)
  sized-end rest = omega (arith, length-append after rest, after-length)

  pub sized : (rest : List ℕ) → outcome_text x ++ buffer_text (take (size - 0) (after ++ rest)) ≡ encode_text words values lent (buffer_of size)
  unfolding encode_text
  sized rest =
      ap₂ (λ (a : Result ByteCount EncodeRefusal) (b : List ℕ). outcome_text a ++ buffer_text b) e.0 (take_at after rest (size - 0) (omega (arith, after-length)) ∙ e.1)
      ∙ ap
      (λ (b : List ℕ). outcome_text (encoded_of (table_of words) (values_in values) (length lent) (length b)) ++ buffer_text (buffer_after (table_of words) (values_in values) lent b))
      is

module _ (table size values lent : List ℕ) where
  pub no_size : decimal_in size ≡ None → malformed_line ≡ table_text table size values lent
  unfolding table_text
  no_size e = rw (e, and-false)

  pub size-large : {n : ℕ} → decimal_in size ≡ Some n → 300 < n → malformed_line ≡ table_text table size values lent
  unfolding table_text
  size-large {n} e l = rw (e, lt-leb n 300 l, and-false)

  module _ {run : Option ℕ} {words : List ℕ} (w : Stored (are_words_lem table) (values_of (parts_of comma table)) run words) where
    pub no_words : run ≡ None → malformed_line ≡ table_text table size values lent
    unfolding table_text
    no_words e = rw (w.none e)

    pub by-table : {n k : ℕ} → run ≡ Some n → decimal_in size ≡ Some k → k ≤ 300 → encode_text (take (n - 0) words) values lent (buffer_of k) ≡ table_text table size values lent
    unfolding table_text
    by-table {n} {k} f e l = rw (w.some f, e, le-leb k 300 l, w.first f)

-- ## By a PGN

module _ (s values lent : List ℕ) where
  pub no_number : hex_in s ≡ None → malformed_line ≡ pgn_line s values lent
  unfolding pgn_line
  no_number e = rw e

  pub not-six : (length s ≡ 6 → ⊥) → malformed_line ≡ pgn_line s values lent
  unfolding pgn_line
  not-six n = rw (ne_eqb (length s) 6 n, and-false)

  module _ {pgn : ℕ} (e : hex_in s ≡ Some pgn) (six : length s ≡ 6) where
    pub pgn-small : pgn < 2 ^ 32
    pgn-small = omega (arith, number-below 16 hex_digits s (omega arith), ap (λ (n : ℕ). 16 ^ n) six, ap (λ (n : Option ℕ). unwrap_or n 0) e)

    pub by-pgn : known_text (message_of_lem pgn) pgn values lent ≡ pgn_line s values lent
    unfolding pgn_line
    by-pgn = rw (e, eq-eqb (length s) 6 six)

-- ## By the first field

module _ (line values lent : List ℕ) {first : List ℕ} {t : Bool} (e : first ≡ field line 0) (f : t ≡ is_t_lem first) where
  pub table-order : t ≡ true → {second third : List ℕ} → second ≡ field line 1 → third ≡ field line 2 → table_text second third values lent ≡ order_text line values lent
  unfolding order_text
  table-order g h k =
      ap₂ (λ (a b : List ℕ). table_text a b values lent) h k
      ∙ ap (λ (x : Bool). pick x (table_text (field line 1) (field line 2) values lent) (pgn_line (field line 0) values lent)) (sym g ∙ f ∙ ap is_t_lem e)

  pub pgn-order : t ≡ false → pgn_line first values lent ≡ order_text line values lent
  unfolding order_text
  pgn-order g =
      ap (λ (a : List ℕ). pgn_line a values lent) e
      ∙ ap (λ (x : Bool). pick x (table_text (field line 1) (field line 2) values lent) (pgn_line (field line 0) values lent)) (sym g ∙ f ∙ ap is_t_lem e)

-- ## The answer

module _ (line : List ℕ) (from : ℕ) (values lent : List ℕ) (f : fields_after from line ≡ drop (leading line) (fields_of line)) (r : Option Listed) {room space : ℕ}
    (k : room ≡ records_max) (p : space ≡ texts_max) (e : taken r values lent ≡ lists_from room space (lists [] []) (fields_after from line)) where
  listed-is : taken r values lent ≡ lists_of (drop (leading line) (fields_of line))
  listed-is = e ∙ ap₂ (λ (a b : ℕ). lists_from a b (lists [] []) (fields_after from line)) k p ∙ ap lists_of f

  pub not_listed : r ≡ None → malformed_line ≡ answered line
  unfolding answered
  not_listed g = ap (listed_text line) (rw g at listed-is)

  pub ordered : {listed : Listed} → r ≡ Some listed → {a b : List ℕ} → a ≡ take (listed.bytes - 0) values → b ≡ take (listed.text - 0) lent → order_text line a b ≡ answered line
  unfolding answered
  ordered {listed} g h m =
      let n : listed.bytes - 0 ≡ listed.bytes = omega arith in
      let o : listed.text - 0 ≡ listed.text = omega arith in
      ap₂ (order_text line) (h ∙ ap (λ (i : ℕ). take i values) n) (m ∙ ap (λ (i : ℕ). take i lent) o) ∙ ap (listed_text line) (rw g at listed-is)
